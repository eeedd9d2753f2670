-- What the lines of the frame program inherit from demand 3. The statements are in proofs/Day, their terms in Terms.
-- Here are the terms and what counts; in proofs/ are Tally to Moments: rounds are a course; Line to Room: one line;
-- and the whole day.
pub mod Terms
pub mod Counting
pub mod Inserted
pub mod Zero
