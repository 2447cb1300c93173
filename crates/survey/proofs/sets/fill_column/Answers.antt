-- `survey::sets::fill_column` meets its contract: the squares passed hold their numbers, and the position is that of the next.
-- Assumes nothing.
use Rattle.raster.specs.Raster.{head_or, value_of}
use mathlib.Core.Path.{ap, ◌∙◌}
use native.Mathlib.Omega.{arith}
use Rattle.raster.specs.declared.reading.Head.{Head}
use Rattle.survey.proofs.SetLaws.{place_first, entry_is, place_more, filling_none, filling_more}
use Rattle.survey.proofs.sets.fill_column.Goals as goal

pub loop-square-init : goal.loop-square-init
loop-square-init c = (ap (λ (h : Head). h.next) (c.head_or-head.ensures ∙ ap head_or c.head_of.ensures) ∙ place_first _ _ _ _, filling_none _ _)

pub loop-square-preserved : goal.loop-square-preserved
loop-square-preserved c =
    let l = c.loop-square.invariant in (
      c.next_of-next.ensures ∙ place_more _ _ _ _ _ l.0 c.entry_at-entry.ensures,
      filling_more _ _ l.1 (omega (arith, c.squares_of-squares.ensures, c.requires.1))
          (c.value_of.ensures ∙ ap value_of (entry_is _ _ _ _ _ l.0 c.entry_at-entry.ensures)),
    )
