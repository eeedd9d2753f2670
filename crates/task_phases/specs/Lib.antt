-- What the contracts of this crate cite, and the laws that its proofs rest on.
pub mod Answer
pub mod Reading
