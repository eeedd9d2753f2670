-- The theorem: any pieces, fed and finished, write the whole output.
pub mod Pieces
