-- `stands::judging::draws_fine` meets its contract: the hatches first, and then the table.
-- Assumes nothing.
use mathlib.Core.Path.{ap}
use mathlib.Core.Bool.{not}
use mathlib.Core.Path.{sym, ◌∙◌}
use Rattle.reckon.proofs.TestLaws.{every_fails}
use Rattle.checks.proofs.CheckLaws.{fails_by, holds_by, every_decided}
use Rattle.hatches.proofs.RefusalLaws.{table_judged_as}
use Rattle.stands.specs.Laying.{draws_fine}
use Rattle.stands.proofs.judging.draws_fine.Goals as goal

pub returns-then-not-hatches_fine : goal.returns-then-not-hatches_fine
unfolding draws_fine
returns-then-not-hatches_fine c = sym (every_fails _ 0 (fails_by c.hatches_fine.ensures (ap not c.if-not-hatches_fine.true)))

pub returns : goal.returns
unfolding draws_fine
returns c =
    let j = table_judged_as c.args.inflow.now c.args.log (c.table_fits.ensures c.args.log.litres) in
    every_decided _ 1 _ j (λ t. (holds_by c.hatches_fine.ensures (ap not c.if-not-hatches_fine.false), (j ∙ t, tt)))
