-- The definitions of the crate rules computed over all small cases: a wrong one is found before its proofs begin.
-- Tables: what is enumerated. ByHand: shape (1, 1) worked out from document 01 alone. Tests, Steps: the theorems.
pub mod Tables
pub mod ByHand
pub mod Tests
pub mod Steps
