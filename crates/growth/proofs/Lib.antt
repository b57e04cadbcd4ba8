-- The laws of growth, demand 3, and why evictions end
pub mod Tries
pub mod Spans
pub mod Meetings
pub mod Ends
pub mod Barred
pub mod Proposals
pub mod Evictions
pub mod Loop
pub mod Cases
