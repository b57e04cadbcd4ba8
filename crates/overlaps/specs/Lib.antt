-- What segments make of gaps: live instructions and gap segments. Passing, and what stands below a line of dashes, is for
-- functions on the way.
pub mod Live
pub mod GapSegments
pub mod ValuedColumns
pub mod Lent
pub mod Passing
