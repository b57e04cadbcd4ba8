-- The columns that cells hold
pub mod CellColumns
