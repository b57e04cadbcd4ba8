-- The work tables, filled one after the other; SourceTables has the rows of all of them
pub mod UseTables
pub mod GapTables
pub mod SourceTables
pub mod TableLaws
