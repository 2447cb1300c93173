-- `moves::drops::side_drop` meets its contract: a case each for a square and for off the grid.
-- Assumes nothing.
use mathlib.Core.Path.{sym, ◌∙◌, ap}
use native.Mathlib.Omega.{arith}
use Rattle.rule.specs.Drops.{drop_off}
use Rattle.ledger.specs.Runs.{Plan, plan}
use Rattle.moves.proofs.DropLaws.{drop_there, drop-exit, drop_rim}
use Rattle.moves.proofs.drops.side_drop.Goals as goal
use Rattle.moves.proofs.drops.side_drop.Goals.{Start}

-- ---- what is known there

abbrev p : Start → Plan
p s = plan s.args.way.shape s.args.marks.now

-- ---- the answers

pub returns-then-other-squares_of : goal.returns-then-other-squares_of
returns-then-other-squares_of c =
    drop_there (p (goal.at.returns-then-other-squares_of c).Start) c.args.way.rules c.args.beds.now c.args.depths.now c.args.at.square c.args.side c.beside_on-other.ensures c.requires.own_value
    (omega arith) c.drop_beside.ensures

pub returns-then-is_exit : goal.returns-then-is_exit
returns-then-is_exit c =
    c.drop_off.ensures
    ∙ (ap (drop_off c.args.way.rules) c.number.ensures
    ∙ sym (drop-exit (p (goal.at.returns-then-is_exit c).Start) c.args.way.rules c.args.beds.now c.args.depths.now c.args.at.square c.args.side c.beside_on-other.ensures (omega arith)
    (sym c.is_exit.ensures ∙ c.if-is_exit.true)))

pub returns : goal.returns
returns c =
    sym (drop_rim (p (goal.at.returns c).Start) c.args.way.rules c.args.beds.now c.args.depths.now c.args.at.square c.args.side c.beside_on-other.ensures (omega arith)
    (sym c.is_exit.ensures ∙ c.if-is_exit.false))
