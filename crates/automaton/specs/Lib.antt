-- Definitions on automata.
pub mod Machine
pub mod Words
pub mod Layers
pub mod Telling
pub mod Births
pub mod Reach
pub mod Quotient
