-- `hatches::refusals::rate_draw_fine` meets its contract.
-- Assumes nothing.
use mathlib.Core.Path.{sym, ◌∙◌}
use borrow.Author.Tests.{lt-leb, le-leb}
use Rattle.reckon.proofs.TestLaws.{every_fails}
use Rattle.checks.proofs.CheckLaws.{every_decided}
use Rattle.hatches.specs.Log.{draw_fine}
use Rattle.hatches.proofs.RefusalLaws.{table_judged_as}
use Rattle.hatches.proofs.refusals.rate_draw_fine.Goals as goal

pub returns-then-litres-gt-MOST_LITRES : goal.returns-then-litres-gt-MOST_LITRES
unfolding draw_fine
returns-then-litres-gt-MOST_LITRES c = λ p clock number. sym (every_fails _ 0 (lt-leb _ _ c.if-litres-gt-MOST_LITRES.true))

pub returns : goal.returns
unfolding draw_fine
returns c =
    let j = table_judged_as c.args.inflow.now c.args.log (c.table_fits.ensures c.args.log.litres) in
    λ p clock number. every_decided _ 1 _ j (λ t. (le-leb _ _ c.if-litres-gt-MOST_LITRES.false, (j ∙ t, tt)))
