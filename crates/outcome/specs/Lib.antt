-- What a region found is as an answer; growth over tables that are filled
pub mod Outcome
pub mod Growing
