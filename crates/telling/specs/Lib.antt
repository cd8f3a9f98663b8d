-- The word that tells two states apart, in lent memory.
pub mod Kept
pub mod Calls
