-- Growth, the proposal, what demand 3 says of it, and evictions. Columns is for the contracts of the steps, which `region` takes.
pub mod Growth
pub mod Proposal
pub mod Demand
pub mod Evictions
pub mod Columns
