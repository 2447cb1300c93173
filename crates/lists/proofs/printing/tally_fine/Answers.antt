-- `lists::printing::tally_fine` meets its contract: each test in its turn.
-- Assumes nothing.
use mathlib.Core.Bool.{not}
use mathlib.Core.Path.{sym, ap, ◌∙◌}
use Prim.Native.Nat.{ℕ}
use lib.Dec.{leb}
use Rattle.programs.specs.Program.{program_squares}
use borrow.Author.Tests.{le-leb, lt-leb, not-true, not-false}
use Rattle.reckon.proofs.TestLaws.{pick_true, pick_false, every_fails, each_every}
use Rattle.checks.proofs.CheckLaws.{fails_by, holds_by}
use Rattle.grid.proofs.SquareLaws.{ranges_of_fine}
use Rattle.lists.specs.Tally.{tally_fine}
use Rattle.lists.proofs.PrintLaws.{fine-last}
use Rattle.lists.proofs.printing.tally_fine.Goals as goal

pub returns-then-tally-gt-MOST_SHEETS : goal.returns-then-tally-gt-MOST_SHEETS
unfolding tally_fine
returns-then-tally-gt-MOST_SHEETS c = sym (every_fails _ 0 (lt-leb _ _ c.if-tally-gt-MOST_SHEETS.true))

pub returns-then-not-tally : goal.returns-then-not-tally
unfolding tally_fine
returns-then-not-tally c = sym (each_every _ (le-leb _ _ c.if-tally-gt-MOST_SHEETS.false, (pick_false _ _ (not-true _ c.if-not-tally.true), tt)))

pub returns-then-not-shape_fine : goal.returns-then-not-shape_fine
unfolding tally_fine
returns-then-not-shape_fine c =
    sym
    (every_fails _ 1
    (pick_true _ _ (not-false _ c.if-not-tally.false) ∙ every_fails _ 0 (fails_by c.shape_fine.ensures (ap not c.if-not-shape_fine.true))))

pub squares_of-requires : goal.squares_of-requires
squares_of-requires c = ranges_of_fine _ (holds_by c.shape_fine.ensures (ap not c.if-not-shape_fine.false))

pub returns : goal.returns
unfolding tally_fine
returns c =
    ap (λ (k : ℕ). leb k program_squares) c.squares_of.ensures
    ∙ fine-last _ _ _ _ (le-leb _ _ c.if-tally-gt-MOST_SHEETS.false) (not-false _ c.if-not-tally.false)
    (holds_by c.shape_fine.ensures (ap not c.if-not-shape_fine.false))
