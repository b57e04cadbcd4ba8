-- A job's tables, and document 01's lines 4 to 11
pub mod Rows
pub mod Checked
pub mod Lines
