-- The table file and the answers of calls.
pub mod Answers
pub mod Judging
pub mod Rows
pub mod Bodies
pub mod Encoding
pub mod Accepted
pub mod Leaving
pub mod Tables
