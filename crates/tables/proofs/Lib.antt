-- What each answer says, and that gaps are built and counted in turn
pub mod Answers
pub mod FromColumns
pub mod InTurn
