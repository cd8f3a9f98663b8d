-- Laws of the report.
pub mod Answering
pub mod Sequel
pub mod Uniqueness
