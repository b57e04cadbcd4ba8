-- An answer in the figures of its text
pub mod Figures
