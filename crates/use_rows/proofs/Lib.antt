-- The largest weight of a column, and rows of columns
pub mod Largest
pub mod Rows
