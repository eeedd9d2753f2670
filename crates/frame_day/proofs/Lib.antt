-- What the lines of the frame program inherit from demand 3: the theorems.
pub mod Tally
pub mod Moments
pub mod Line
pub mod Room
pub mod Kept
pub mod Days
pub mod Printing
pub mod Day
