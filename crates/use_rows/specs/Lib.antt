-- The use table and the best use, and its four lent columns
pub mod Uses
pub mod UseColumns
pub mod Lent
