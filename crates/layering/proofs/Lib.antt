-- Laws of the rounds.
pub mod Buckets
pub mod Stepping
pub mod Emptying
pub mod Rounding
pub mod Deepening
pub mod Descent
pub mod Beginning
pub mod Starting
pub mod Joining
pub mod Slices
pub mod Copying
pub mod Ways
pub mod Uniqueness
