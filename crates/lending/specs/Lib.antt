-- Definitions on lent memory.
pub mod Pairs
pub mod Memory
