-- Laws of the splitting.
pub mod Correctness
pub mod Halving
pub mod Points
pub mod Keeping
pub mod Published
pub mod Balance
pub mod Spared
pub mod Marks
pub mod Freshness
pub mod Runs
pub mod Demand
