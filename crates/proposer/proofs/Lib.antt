-- What holds of every answer: the parts of the call joined, demand 3, evictions, what is kept, a list of two
pub mod JobTheorems
pub mod OwnFails
pub mod Assembly
pub mod Answered
pub mod Kept
pub mod CaseJobs
pub mod TwoEvictions
