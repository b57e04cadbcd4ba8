-- `room::rooms_lent` meets its contract, table by table

use Rattle.answers.proofs.room.rooms_lent.Goals as goal

pub returns : goal.returns
returns c =
    λ i. record {
      uses = c.min.ensures i;
      gaps = c.min-2.ensures i;
      gap_segments = c.min-3.ensures i;
      links = c.min-4.ensures i;
    }
