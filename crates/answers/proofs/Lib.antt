-- What a job and a sheet are answered, how much of a text decides it, how much room is enough, and the cases
pub mod EvenTables
pub mod FitTables
pub mod Lending
pub mod ReadJob
pub mod Answering
pub mod Front
pub mod Rooms
pub mod HFigure
pub mod Cases
