-- The laws of the use table
pub mod UseRows
pub mod Pending
pub mod UseCases
pub mod Fills
pub mod Adding
pub mod UseOrder
pub mod OneList
pub mod WholeTable
pub mod CheckedJob
pub mod Distances
pub mod UseSteps
pub mod Held
pub mod UseTable
pub mod EdgeWeights
pub mod CheckedCases
pub mod Best
