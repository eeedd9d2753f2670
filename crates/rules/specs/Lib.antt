-- Document 01 as definitions, in its own order. What a reader has to believe is here; what follows from it is proved
-- above this crate. Word, Bytes, Shape, Entry, Table, Room, Lay: "Shape and layout" and "Where a new key goes".
-- Answer: the refusal numbers. Find, Put, Build, Listing, Fill, Give, Step: one definition for each call. Record,
-- Phase: the task record and its phases. Examples: the rows of the paper that are to be proved. Edges: rows where the
-- rules are easy to get wrong.
pub mod Lists
pub mod Word
pub mod Bytes
pub mod Shape
pub mod Entry
pub mod Table
pub mod Room
pub mod Lay
pub mod Answer
pub mod Find
pub mod Put
pub mod Build
pub mod Listing
pub mod Fill
pub mod Record
pub mod Give
pub mod Phase
pub mod Step
pub mod Examples
pub mod Edges
