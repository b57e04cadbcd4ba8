-- What the links layer computes: the block list and its checks, the block of an instruction, lower links, the lower-cost split point.
pub mod Blocks
pub mod Links
pub mod Split
