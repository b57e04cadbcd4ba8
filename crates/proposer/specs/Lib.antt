-- The proposal of a whole job: Answer says what is answered, Demand and Evictions what the theorems say of it.
pub mod Answer
pub mod Demand
pub mod Evictions
