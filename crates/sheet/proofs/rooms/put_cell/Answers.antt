-- `sheet::rooms::put_cell` meets its contract: a closed square's other numbers stay.
-- Assumes nothing.
use mathlib.Core.Path.{refl, sym}
use borrow.Author.Tests.{eq-eqb, ne_eqb}
use Rattle.reckon.proofs.TestLaws.{pick_true, pick_false}
use Rattle.sheet.proofs.rooms.put_cell.Goals as goal

pub returns-then-cell-eq0 : goal.returns-then-cell-eq0
returns-then-cell-eq0 c = let e = eq-eqb _ _ c.if-cell-eq0.true in (refl, sym (pick_true _ _ e), sym (pick_true _ _ e), sym (pick_true _ _ e), sym (pick_true _ _ e))

pub returns : goal.returns
returns c = let e = ne_eqb _ _ c.if-cell-eq0.false in (refl, sym (pick_false _ _ e), sym (pick_false _ _ e), sym (pick_false _ _ e), sym (pick_false _ _ e))
