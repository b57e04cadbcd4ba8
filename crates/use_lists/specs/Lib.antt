-- What is done to the columns while the use table is collected, and the blocks of the uses, from one to the next
pub mod Steps
pub mod Collecting
