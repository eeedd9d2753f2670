-- B, and the theorem on insertion: the laws that the words of a move lead to.
pub mod LayTable
pub mod MovesWedge
pub mod Enlarge
pub mod Insertion
pub mod Moving
pub mod Region
