-- The report on a table.
pub mod Reports
