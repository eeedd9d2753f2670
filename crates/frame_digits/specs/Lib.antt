-- The laws that the digits rest on. Read: a digit's worth, a text of digits, a number digit by digit.
-- Print: digits at the front of lent bytes, two or four more a turn.
pub mod Read
pub mod Print
