-- What the contracts of this crate and of the phases cite, and the laws that their proofs rest on.
pub mod Fit
pub mod Ready
pub mod Taken
pub mod Phase
