-- `holes::repairing::mark_hole` meets its contract: a square with no hole keeps its bed.
-- Assumes nothing.
use mathlib.Core.Path.{sym, ap, ◌∙◌}
use mathlib.Core.Bool.{not}
use Rattle.reckon.proofs.TestLaws.{pick_true, pick_false}
use Rattle.holes.proofs.PutLaws.{told_none, told_at}
use Rattle.holes.proofs.repairing.mark_hole.Goals as goal

pub returns-in_default : goal.returns-in_default
returns-in_default c =
    let a = c.args in
    sym
    (pick_true _ _
    (ap not (told_none a.text.now a.start a.row a.column (sym c.in_default.is ∙ c.hole_at.ensures))))

pub returns : goal.returns
returns c =
    let a = c.args in
    sym
    (pick_false _ _
    (ap not
    (told_at a.text.now a.start a.row a.column (sym c.in-Some.is ∙ c.hole_at.ensures)).0))
