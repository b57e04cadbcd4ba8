-- The job that a sheet's rows make
pub mod SheetJob
