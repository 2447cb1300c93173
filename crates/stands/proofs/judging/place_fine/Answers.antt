-- `stands::judging::place_fine` meets its contract: a hatch that is not named is fine.
-- Assumes nothing.
use mathlib.Core.Bool.{false}
use lib.ListN.{get_or}
use Rattle.ledger.specs.Runs.{plan}
use Rattle.stands.specs.Laying.{hatch_fine}
use Rattle.stands.proofs.JudgeLaws.{unnamed_fine, named-judged}
use Rattle.stands.proofs.judging.place_fine.Goals as goal

pub returns-then-not-named-hatch : goal.returns-then-not-named-hatch
returns-then-not-named-hatch c =
    unnamed_fine (get_or c.args.hatches.named c.args.hatch false)
    (hatch_fine (plan c.args.shape c.args.marks.now) (get_or c.args.hatches.rows c.args.hatch 0) (get_or c.args.hatches.columns c.args.hatch 0) (get_or c.args.litres c.args.hatch 0))
    (c.if-not-named-hatch.true)

pub returns : goal.returns
returns c =
    named-judged (get_or c.args.hatches.named c.args.hatch false)
    (hatch_fine (plan c.args.shape c.args.marks.now) (get_or c.args.hatches.rows c.args.hatch 0) (get_or c.args.hatches.columns c.args.hatch 0) (get_or c.args.litres c.args.hatch 0))
    (c.if-not-named-hatch.false) c.hatch_fine.ensures
