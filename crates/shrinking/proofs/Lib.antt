-- Laws of the shrunk file.
pub mod Spreading
pub mod Sweeping
pub mod Flagging
pub mod Numbering
pub mod Promises
pub mod Stores
pub mod Spelling
pub mod Finding
pub mod ShrinkWays
pub mod Making
pub mod Uniqueness
