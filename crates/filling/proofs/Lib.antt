-- Why the tables are right
pub mod UseFilling
pub mod SourceTables
pub mod TableLaws
