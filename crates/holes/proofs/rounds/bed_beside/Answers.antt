-- `holes::rounds::bed_beside` meets its contract: no square, a closed one, or its bed.
-- Assumes nothing.
use mathlib.Core.Path.{sym, ◌∙◌}
use native.Mathlib.Omega.{arith}
use Rattle.holes.proofs.FillLaws.{off_bed, closed_bed, open_bed}
use Rattle.holes.proofs.rounds.bed_beside.Goals as goal

pub returns-then-squares_of-at : goal.returns-then-squares_of-at
returns-then-squares_of-at c =
    let a = c.args in
    off_bed a.shape a.marks.now a.beds.now a.square a.side c.beside_on-at.ensures
    (omega (arith, c.if-squares_of-at.true, c.squares_of.ensures))

pub returns-then-is_closed : goal.returns-then-is_closed
returns-then-is_closed c =
    let a = c.args in
    closed_bed a.shape a.marks.now a.beds.now a.square a.side c.beside_on-at.ensures
    (sym c.is_closed.ensures ∙ c.if-is_closed.true)

pub returns : goal.returns
returns c =
    let a = c.args in
    let at-beside-on = c.beside_on-at in
    open_bed a.shape a.marks.now a.beds.now a.square a.side at-beside-on.ensures
    (omega (arith, c.if-squares_of-at.false, c.squares_of.ensures))
    (sym c.is_closed.ensures ∙ c.if-is_closed.false)
