-- Laws that put and build rest on: what put does by the surroundings of a home, and keys put one by one.
pub mod Putting
pub mod Filling
pub mod Building
