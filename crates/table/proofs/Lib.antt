-- Laws of the table file.
pub mod Chains
pub mod Dues
pub mod Ranges
pub mod Ways
pub mod Openings
pub mod Contents
pub mod Places
pub mod Uniqueness
pub mod Outcomes
pub mod Refusals
pub mod Readers
pub mod Pieces
pub mod Encodings
pub mod Handing
pub mod Leavings
