-- `lists::names::count_names` meets its contract: up to a position its lines are counted.
-- Assumes nothing.
use Rattle.lists.proofs.NameLaws.{counted_none, counted-end, counted_on, counted_open, counted-closed}
use Rattle.lists.proofs.names.count_names.Goals as goal
use Rattle.lists.proofs.names.count_names.Goals.{then-text-p-eq-NEWLINE, else-text-p-eq-NEWLINE}

pub loop-p-init : goal.loop-p-init
loop-p-init c = counted_none c.args.text.now c.args.at c.requires

pub loop-p-preserved : goal.loop-p-preserved
loop-p-preserved c =
    elim c.if-text-p-eq-NEWLINE.branch [
      | then-text-p-eq-NEWLINE w ↦ counted-end c.loop-p.invariant c.loop-p-test.true w.if-text-p-eq-NEWLINE.true w.count-is w.begun-is
      | else-text-p-eq-NEWLINE w ↦ counted_on c.loop-p.invariant c.loop-p-test.true w.if-text-p-eq-NEWLINE.false w.count-is w.begun-is
    ]

pub returns-then-begun : goal.returns-then-begun
returns-then-begun c = counted_open c.loop-p.invariant c.loop-p-test.false c.if-begun.true

pub returns : goal.returns
returns c = counted-closed c.loop-p.invariant c.loop-p-test.false c.if-begun.false
