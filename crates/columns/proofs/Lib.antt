-- The laws of tables, first places, filled columns and counts
pub mod Tests
pub mod Firsts
pub mod OneOf
pub mod Tables
pub mod Fillings
pub mod Counting
pub mod Joining
pub mod Taken
