-- Any pieces, fed and finished, write the whole output. Pieces has the definitions; the theorem is in proofs/Pieces.
-- Sizes, Limits: what is printed fits, and no call on the way is refused. Reading to Feeding: one call at a time.
pub mod Sizes
pub mod Limits
pub mod Reading
pub mod Held
pub mod Feeding
pub mod Pieces
