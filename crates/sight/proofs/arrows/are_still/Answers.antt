-- `sight::arrows::are_still` meets its contract: the first side that is not still decides, and after the others the last one does.
-- Assumes nothing.
use mathlib.Core.Path.{sym, ◌∙◌}
use mathlib.Core.List.{[], ◌∷◌}
use Rattle.reckon.proofs.TestLaws.{every_fails}
use Rattle.sight.proofs.RefusalLaws.{every-last}
use Rattle.sight.proofs.arrows.are_still.Goals as goal

pub returns-then-not-is_still : goal.returns-then-not-is_still
returns-then-not-is_still c = sym (every_fails _ 0 (sym c.is_still.ensures ∙ c.if-not-is_still.true))

pub returns-then-not-is_still-2 : goal.returns-then-not-is_still-2
returns-then-not-is_still-2 c = sym (every_fails _ 1 (sym c.is_still-2.ensures ∙ c.if-not-is_still-2.true))

pub returns-then-not-is_still-3 : goal.returns-then-not-is_still-3
returns-then-not-is_still-3 c = sym (every_fails _ 2 (sym c.is_still-3.ensures ∙ c.if-not-is_still-3.true))

pub returns : goal.returns
returns c =
    let north = sym c.is_still.ensures ∙ c.if-not-is_still.false in
    let east = sym c.is_still-2.ensures ∙ c.if-not-is_still-2.false in
    let south = sym c.is_still-3.ensures ∙ c.if-not-is_still-3.false in
    c.is_still-4.ensures ∙ sym (every-last (_ ∷ _ ∷ _ ∷ []) (north, (east, (south, tt))))
