-- What the numbers layer computes, in document 01's order: points, weights, costs, the normalised weight, the weight test, the H figure, chains of weights.
pub mod Point
pub mod Weight
pub mod Sum
pub mod Cost
pub mod Normal
pub mod Figure
pub mod Chain
