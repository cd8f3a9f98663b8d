-- Definitions on seeking.
pub mod Order
pub mod Search
pub mod Links
pub mod Pairs
