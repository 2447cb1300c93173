-- `lists::judging::is_like_first` meets its contract: the first is held against none.
-- Assumes nothing.
use mathlib.Core.Path.{sym, ap, ◌∙◌}
use Prim.Native.Nat.{ℕ}
use native.Mathlib.Omega.{arith}
use lib.ListN.{take}
use borrow.Author.Tests.{not-true, not-false}
use Rattle.reckon.proofs.TestLaws.{pick_true, pick_false}
use Rattle.ledger.specs.Runs.{plan}
use Rattle.programs.proofs.HeldLaws.{part_long}
use Rattle.lists.specs.Sheets.{same_plan}
use Rattle.lists.proofs.judging.is_like_first.Goals as goal

pub returns-then-not-first : goal.returns-then-not-first
returns-then-not-first c = sym (pick_false _ _ (not-true _ c.if-not-first.true))

pub squares_of-squares-requires : goal.squares_of-squares-requires
squares_of-squares-requires c = c.requires.0

pub slice_bounds-same_plan-end : goal.slice_bounds-same_plan-end
slice_bounds-same_plan-end c = part_long _ (omega (arith, c.squares_of-squares.ensures, c.requires.1))

pub same_plan-requires : goal.same_plan-requires
same_plan-requires c =
    let n = c.squares_of-squares.ensures in (
      c.requires.0,
      omega (arith, n, part_long {n = c.squares_of-squares.result} c.args.marks.now (omega (arith, n, c.requires.1))),
      c.requires.2,
    )

pub returns : goal.returns
returns c =
    let s = c.args in
    c.same_plan.ensures
    ∙ (ap (λ (n : ℕ). same_plan (plan s.shape (take n s.marks.now)) (plan s.first.shape s.firsts.now)) c.squares_of-squares.ensures
    ∙ sym (pick_true _ _ (not-false _ c.if-not-first.false)))
