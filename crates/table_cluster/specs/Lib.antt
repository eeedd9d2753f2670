-- The laws that the code of this crate needs of the rules: one step, the stop and the end of each loop.
pub mod Scan
pub mod Run
pub mod Ends
pub mod Homes
pub mod Check
