-- `holes::repairing::put_hole` meets its contract: nothing where there is no hole.
-- Assumes nothing.
use mathlib.Core.Path.{sym, ap, ◌∙◌}
use native.Mathlib.Omega.{arith}
use lib.ListN.{length}
use Rattle.text.proofs.WritingLaws.{written_as}
use Rattle.holes.proofs.PutLaws.{told_none, told_at, no_line_lem, a-line, nothing_put}
use Rattle.holes.proofs.repairing.put_hole.Goals as goal

pub returns-in_default : goal.returns-in_default
returns-in_default c =
    let a = c.args in
    nothing_put _ _
    (no_line_lem a.text.now a.start a.row a.column a.bed a.turn
    (told_none a.text.now a.start a.row a.column (sym c.in_default.is ∙ c.hole_at.ensures)))

pub put_given-requires : goal.put_given-requires
put_given-requires c =
    let a = c.args in
    omega (
      arith,
      c.requires,
      ap length
          (a-line a.text.now a.start a.row a.column a.bed a.turn
          (told_at a.text.now a.start a.row a.column (sym c.in-Some.is ∙ c.hole_at.ensures)).0),
    )

pub returns : goal.returns
returns c =
    let a = c.args in
    written_as
    (a-line a.text.now a.start a.row a.column a.bed a.turn
    (told_at a.text.now a.start a.row a.column (sym c.in-Some.is ∙ c.hole_at.ensures)).0)
    c.put_given.ensures
