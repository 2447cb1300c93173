-- `holes::rounds::lowest_beside` meets its contract: the lowest of the four sides.
-- Assumes nothing.
use Rattle.holes.proofs.FillLaws.{lowest_of}
use Rattle.holes.proofs.rounds.lowest_beside.Goals as goal

pub returns : goal.returns
returns c =
    let a = c.args in
    lowest_of a.shape a.marks.now a.beds.now a.square c.bed_beside-north.ensures c.bed_beside-east.ensures
    c.bed_beside-south.ensures c.bed_beside-west.ensures
    c.min.ensures c.min-2.ensures c.min-3.ensures
