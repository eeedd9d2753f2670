-- What the frame library's functions leave, and the laws of their branches, by subject.
pub mod Feeding
pub mod Finishing
