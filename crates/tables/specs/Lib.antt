-- A job's tables, and what filling them leaves
pub mod JobTables
pub mod Filled
