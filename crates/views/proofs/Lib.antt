-- What growth sees of an accepted job is as growth and the walkers rely on
pub mod SegmentOrder
pub mod JobView
pub mod FilledView
pub mod OwnGap
