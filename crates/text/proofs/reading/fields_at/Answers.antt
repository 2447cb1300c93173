-- `text::reading::fields_at` meets its contract: the fields passed, with those that are left, are the reading of all.
-- Assumes nothing.
use mathlib.Core.Path.{refl, sym, ap, ◌∙◌}
use native.Mathlib.Omega.{arith}
use Rattle.reckon.specs.Lists.{tabulate}
use Rattle.text.specs.Reading.{padded, as_fields}
use Rattle.text.proofs.ReadingLaws.{got_none, got_stop, got_more, got_all}
use Rattle.text.proofs.reading.fields_at.Goals as goal

pub loop-i-init : goal.loop-i-init
unfolding padded tabulate
loop-i-init c = got_none _ _ _ _ refl

pub returns-in_err-field : goal.returns-in_err-field
unfolding as_fields
returns-in_err-field c =
    c.from_residual.ensures ∙ ap as_fields (sym (got_stop c.loop-i.invariant (omega arith) (sym c.in_err-field.ensures)))

pub loop-i-preserved : goal.loop-i-preserved
loop-i-preserved c = got_more c.loop-i.invariant (omega arith) _ _ (omega arith) (sym c.in_ok-field.ensures)

pub returns : goal.returns
returns c = got_all c.loop-i.invariant (omega arith)
