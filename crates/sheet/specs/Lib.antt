-- What a sheet is, in document 01's words: read Kinds, Field, Sheet, Refusal, Cells, Answer, in this order. Next and Lines serve private functions.
pub mod Kinds
pub mod Field
pub mod Sheet
pub mod Refusal
pub mod Next
pub mod Lines
pub mod Cells
pub mod Answer
