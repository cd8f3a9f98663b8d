-- The samples of document 01.
pub mod Samples
pub mod Starred
