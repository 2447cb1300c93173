-- `lists::tally::keep_first` meets its contract: only the first sheet's marks are copied.
-- Assumes nothing.
use mathlib.Core.Path.{ap, sym, ◌∙◌}
use mathlib.Core.List.{List, ◌++◌}
use Prim.Native.Nat.{ℕ}
use lib.ListN.{drop, length}
use Rattle.reckon.specs.Lists.{placed}
use Rattle.reckon.proofs.TestLaws.{pick_true, pick_false}
use Rattle.lists.proofs.tally.keep_first.Goals as goal

pub returns-then-begun : goal.returns-then-begun
returns-then-begun c = sym (pick_true _ _ c.if-begun.true)

pub returns : goal.returns
unfolding placed
returns c =
    ap (λ (l : List ℕ). l ++ drop (length c.args.from.now) c.args.marks.now) c.copy_from_slice.ensures.after
    ∙ sym (pick_false _ _ c.if-begun.false)
