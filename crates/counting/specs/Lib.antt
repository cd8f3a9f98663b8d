-- Definitions on numbers and lists.
pub mod Lists
pub mod Least
pub mod Counts
pub mod Sums
