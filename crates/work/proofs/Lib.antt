-- Why the tables are right
pub mod Assembly
