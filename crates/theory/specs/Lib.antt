-- The theory of sound tables, over the definitions of the crate rules.
-- Run to Seen: a table as runs between void words, and lists of entries. Gaps, Order, Places, Cut: occupied places
-- and fills. SoundTable, Pairs: sound tables are tight pairs, laid. Finding to Keys: find, put, build and the list.
-- Motion to Side, and proofs/: fill, moves and mark give the laid table. Record: a task's record at rest or busy.
pub mod Run
pub mod Dealt
pub mod Locks
pub mod RunLaws
pub mod Every
pub mod Insert
pub mod Joined
pub mod Seen
pub mod Gaps
pub mod Order
pub mod Places
pub mod Cut
pub mod SoundTable
pub mod Pairs
pub mod Finding
pub mod Adding
pub mod Putting
pub mod Building
pub mod Keys
pub mod Motion
pub mod Payload
pub mod Mark
pub mod Laid
pub mod Side
pub mod Record
