-- What the walkers share. For the layer above: Checked (lines 10 and 11 give what walkers rely on), GapWalk (where new walks stand),
-- Sets (the definitions as sets), Cases
pub mod Ways
pub mod Uses
pub mod Sets
pub mod Seen
pub mod Counted
pub mod OneUnit
pub mod AllUnits
pub mod Begin
pub mod Checked
pub mod GapWalk
pub mod Cases
