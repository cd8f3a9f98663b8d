-- The answers of the C interface, and the three demands.
pub mod Flat
pub mod Demands
