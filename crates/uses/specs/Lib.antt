-- What the use table of a job relies on, and the steps from use to use. FirstLast is for private functions.
pub mod CheckedUses
pub mod UseSteps
pub mod FirstLast
