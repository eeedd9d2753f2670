-- Demand 3: tasks together. The statements are in Demand3, the invariant in Invariant.
-- Frames to Quiet: what one task's step leaves to the others. Stretch to Course: each phase's step keeps the invariant.
-- Machine to Rest: runs of gives and steps, their history, and what it says at rest.
pub mod Frames
pub mod Invariant
pub mod Stable
pub mod Update
pub mod Facts
pub mod Fitting
pub mod Quiet
pub mod Stretch
pub mod Around
pub mod Walk
pub mod Reading
pub mod Finishing
pub mod Commit
pub mod Course
pub mod Machine
pub mod History
pub mod Fair
pub mod Rest
pub mod Demand3
