-- Laws of the definitions of the crate rules that the code over lent bytes rests on, by subject.
-- Range: a shape in range. Split: a key and its home and remainder. Number: a word and its number.
-- Change: a word's number where a field is changed. Layout: a table's bytes and its words. Clear: bytes cleared.
-- All, Counts: whether all of a list pass a test, and how many. Tests: tests, and numbers compared.
-- Over: numbers laid over one another. Sides: the two sides of a place.
pub mod Range
pub mod Split
pub mod Number
pub mod Tests
pub mod Change
pub mod Layout
pub mod Clear
pub mod All
pub mod Counts
pub mod Over
pub mod Sides
