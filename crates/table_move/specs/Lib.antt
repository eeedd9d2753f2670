-- Laws that the moving of words in lent bytes rests on.
pub mod Carry
