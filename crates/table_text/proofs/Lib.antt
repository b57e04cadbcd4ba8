-- Rows written one behind the other, and the text of columns that tables fill
pub mod TextLaws
pub mod FilledText
