-- The laws of the links layer, lowest first
pub mod Rows
pub mod Checks
pub mod Linking
pub mod Following
pub mod Columns
pub mod Stepping
pub mod Homes
pub mod Answers
