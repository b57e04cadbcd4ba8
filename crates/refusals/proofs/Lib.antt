-- Laws of the list of lines, and what an accepted job satisfies
pub mod FirstBroken
pub mod Sizes
pub mod Stages
pub mod Accepted
pub mod UseBlocks
pub mod Columns
