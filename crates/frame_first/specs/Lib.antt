-- What the readers of a first line and of a table's line rest on. Limits: what the tests of the limits tell.
-- Table: a table's words stored one by one. Printed: what is printed is read back.
pub mod Limits
pub mod Table
pub mod Printed
