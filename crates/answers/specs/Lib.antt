-- What a job and a sheet's text are answered
pub mod SheetRooms
pub mod JobAnswer
pub mod HFigure
pub mod SheetAnswer
