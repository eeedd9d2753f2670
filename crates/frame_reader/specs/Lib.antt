-- The laws of a line's length that the reader and its callers rest on.
pub mod Line
