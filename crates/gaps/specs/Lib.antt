-- The gaps between a job's uses, the gap table, and the words of their laws. Cutting is for private functions.
pub mod Gaps
pub mod GapColumns
pub mod InTurn
pub mod Laws
pub mod Cutting
pub mod Lent
