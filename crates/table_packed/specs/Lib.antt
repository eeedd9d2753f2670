-- What a call gives to C: an answer packed into one number.
pub mod Packed
