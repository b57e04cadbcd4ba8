-- A job's tables as text
pub mod TablesText
