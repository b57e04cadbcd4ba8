-- The laws of weights, lowest first
pub mod Units
pub mod Rounding
pub mod Operations
pub mod Bits
pub mod Heaviest
pub mod Normalised
pub mod UseCosts
pub mod Chain
pub mod Nearest
pub mod Figure
pub mod FigureBits
pub mod Cases
