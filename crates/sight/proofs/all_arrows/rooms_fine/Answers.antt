-- `sight::all_arrows::rooms_fine` meets its contract: the first room that is not as long as the marks decides, and after two the last one does.
-- Assumes nothing.
use mathlib.Core.Path.{sym}
use mathlib.Core.List.{[], ◌∷◌}
use borrow.Author.Tests.{eq-eqb, ne_eqb}
use Rattle.reckon.proofs.TestLaws.{every_fails}
use Rattle.sight.proofs.RefusalLaws.{every-last}
use Rattle.sight.proofs.all_arrows.rooms_fine.Goals as goal

pub returns-then-kinds-marks : goal.returns-then-kinds-marks
returns-then-kinds-marks c = sym (every_fails _ 0 (ne_eqb _ _ c.if-kinds-marks.true))

pub returns-then-east-marks : goal.returns-then-east-marks
returns-then-east-marks c = sym (every_fails _ 1 (ne_eqb _ _ c.if-east-marks.true))

pub returns : goal.returns
returns c = sym (every-last (_ ∷ _ ∷ []) (eq-eqb _ _ c.if-kinds-marks.false, (eq-eqb _ _ c.if-east-marks.false, tt)))
