-- Laws on numbers and lists.
pub mod Cases
pub mod Tabs
pub mod Alls
pub mod Leasts
pub mod Tallies
pub mod Names
pub mod Thoses
pub mod Pigeons
pub mod Climbs
pub mod Sums
pub mod Logs
pub mod Parts
