-- Which files are shrunk.
pub mod Accepting
