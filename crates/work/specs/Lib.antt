-- What filling the work tables leaves
pub mod FilledFrom
pub mod Lent
