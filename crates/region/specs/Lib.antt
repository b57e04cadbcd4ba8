-- What growth sees of lent columns, and what it relies on. OneTry is for private functions.
pub mod OneTry
pub mod Find
