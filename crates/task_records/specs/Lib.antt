-- What the contracts of this crate cite: the calls on the record of the task number, and where there is none.
-- Beside them the laws that storing its answer gives the rules' calls.
pub mod Calls
