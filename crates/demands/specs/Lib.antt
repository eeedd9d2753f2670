-- The demands as theorems about the rules' definitions. Read Demand1, Terms and Demand2; Lent, Proof2 and Proof3 are
-- their proofs.
pub mod Demand1
pub mod Terms
pub mod Tables
pub mod Proof2
pub mod Proof3
pub mod Demand2
