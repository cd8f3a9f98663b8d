-- Definitions on the splitting.
pub mod Lists
pub mod Fresh
pub mod Take
pub mod Run
pub mod Guarantee
