-- The shrunk file.
pub mod Shrunk
pub mod Reached
pub mod Written
pub mod Found
pub mod Calls
