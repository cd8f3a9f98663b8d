-- Laws of the telling call.
pub mod Ancestors
pub mod Spellings
pub mod Ways
pub mod Uniqueness
