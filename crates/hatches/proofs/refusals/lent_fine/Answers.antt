-- `hatches::refusals::lent_fine` meets its contract: the first test that fails decides, and where each before it holds the last does.
-- Assumes nothing.
use mathlib.Core.Path.{ap}
use mathlib.Core.Bool.{not}
use Rattle.grid.specs.Squares.{squares}
use Rattle.programs.specs.Program.{program_squares}
use mathlib.Core.Path.{sym, ◌∙◌}
use native.Mathlib.Omega.{arith}
use borrow.Author.Tests.{lt-leb, le-leb}
use Rattle.reckon.proofs.TestLaws.{every_fails}
use Rattle.grid.proofs.SquareLaws.{ranges_of_fine}
use Rattle.ledger.specs.Runs.{plan}
use Rattle.ledger.specs.Checks.{one_each}
use Rattle.checks.proofs.CheckLaws.{fails_by, holds_by, every_decided}
use Rattle.hatches.specs.Log.{lent_fine}
use Rattle.hatches.proofs.RefusalLaws.{slots-judged}
use Rattle.hatches.proofs.refusals.lent_fine.Goals as goal

pub returns-then-not-shape_fine : goal.returns-then-not-shape_fine
unfolding lent_fine one_each
returns-then-not-shape_fine c = sym (every_fails _ 0 (fails_by c.shape_fine.ensures (ap not c.if-not-shape_fine.true)))

pub squares_of-requires : goal.squares_of-requires
squares_of-requires c = ranges_of_fine _ (holds_by c.shape_fine.ensures (ap not c.if-not-shape_fine.false))

pub returns-then-squares_of-gt-PROGRAM_SQUARES : goal.returns-then-squares_of-gt-PROGRAM_SQUARES
unfolding lent_fine one_each
returns-then-squares_of-gt-PROGRAM_SQUARES c = sym (every_fails _ 1 (lt-leb (squares c.args.shape) program_squares (omega (arith, c.squares_of.ensures, c.if-squares_of-gt-PROGRAM_SQUARES.true))))

pub one_each-requires : goal.one_each-requires
one_each-requires c = ranges_of_fine _ (holds_by c.shape_fine.ensures (ap not c.if-not-shape_fine.false))

pub returns-then-not-one_each : goal.returns-then-not-one_each
unfolding lent_fine one_each
returns-then-not-one_each c = sym (every_fails _ 2 (fails_by c.one_each.ensures (ap not c.if-not-one_each.true)))

pub one_each-requires-2 : goal.one_each-requires-2
one_each-requires-2 c = ranges_of_fine _ (holds_by c.shape_fine.ensures (ap not c.if-not-shape_fine.false))

pub returns-then-not-one_each-2 : goal.returns-then-not-one_each-2
unfolding lent_fine one_each
returns-then-not-one_each-2 c = sym (every_fails _ 3 (fails_by c.one_each-2.ensures (ap not c.if-not-one_each-2.true)))

pub record_size-requires : goal.record_size-requires
record_size-requires c = ranges_of_fine _ (holds_by c.shape_fine.ensures (ap not c.if-not-shape_fine.false))

pub returns : goal.returns
unfolding lent_fine one_each
returns c =
    let s = (c) in
    let j = slots-judged (plan s.args.shape s.args.marks.now) s.args.records.now s.args.began.now c.record_size.ensures c.slots_in-slots.ensures c.slots_in.ensures in
    every_decided _ 4 _ j
    (λ t. (
      holds_by c.shape_fine.ensures (ap not c.if-not-shape_fine.false),
      (
        le-leb (squares s.args.shape) program_squares (omega (arith, c.squares_of.ensures, c.if-squares_of-gt-PROGRAM_SQUARES.false)),
        (
          holds_by c.one_each.ensures (ap not c.if-not-one_each.false),
          (holds_by c.one_each-2.ensures (ap not c.if-not-one_each-2.false), (j ∙ t, tt)),
        ),
      ),
    ))
