-- The laws of live instructions and of gap segments
pub mod ValuedLaws
pub mod CheckedSegments
pub mod LiveLaws
pub mod GapRows
pub mod PassingLaws
pub mod GapCount
pub mod LiveCases
pub mod LiveTotal
pub mod LiveCovered
pub mod SegmentOrder
pub mod AllOverlaps
