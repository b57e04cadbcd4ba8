-- What a job is, and document 01's table of refusals as a list of lines
pub mod Job
pub mod Refusals
