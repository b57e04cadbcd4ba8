-- Why the gaps are right
pub mod Cuts
pub mod StoredGaps
pub mod Built
pub mod InTurn
pub mod Spaces
pub mod Sides
pub mod InColumns
pub mod Collected
pub mod Edges
pub mod Runs
pub mod Chains
pub mod SegmentRows
pub mod GapTable
pub mod Placed
pub mod JobGaps
pub mod GapWeights
pub mod GapCases
