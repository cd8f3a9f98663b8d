-- The starred cases, shown of the definitions; and tables written as files.
pub mod Shown
pub mod Filing
