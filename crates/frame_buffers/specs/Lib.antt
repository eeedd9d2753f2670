-- What the contracts of this crate cite: the refusals of a call on a run, and the bytes that are held.
pub mod Check
pub mod Hold
