-- The laws of a read: what it gives, the groups that it passes over, and the read from the left end of a cluster.
pub mod Mark
pub mod Read
pub mod Group
pub mod FromLeft
