-- The three demands.
pub mod Listed
pub mod Demands
