-- What each use adds to the columns
pub mod Storing
pub mod ListWalk
