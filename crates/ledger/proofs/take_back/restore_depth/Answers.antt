-- `ledger::take_back::restore_depth` meets its contract: nothing is stored where the square is closed.
-- Assumes nothing.
use mathlib.Core.Path.{sym, ap, ap₂, ◌∙◌}
use Prim.Native.Nat.{◌-◌}
use native.Mathlib.Omega.{arith}
use lib.ListN.{set}
use Rattle.reckon.proofs.TestLaws.{pick_true, pick_false}
use Rattle.ledger.specs.TakeBack.{depth_before, held_and_gone, came_and_added}
use Rattle.ledger.proofs.take_back.restore_depth.Goals as goal

pub returns-then-is_closed : goal.returns-then-is_closed
returns-then-is_closed c = sym (pick_true _ _ (sym c.is_closed.ensures ∙ c.if-is_closed.true))

pub overflow_sub-depths : goal.overflow_sub-depths
unfolding held_and_gone came_and_added
overflow_sub-depths c =
    let r =
    c.requires.on_square.1
    (sym c.is_closed.ensures ∙ c.if-is_closed.false) in
    omega (arith, c.held_and_gone-more.ensures, c.came_and_added-less.ensures, r.enough)

pub overflow_cast-depths : goal.overflow_cast-depths
unfolding depth_before held_and_gone came_and_added
overflow_cast-depths c =
    let r =
    c.requires.on_square.1
    (sym c.is_closed.ensures ∙ c.if-is_closed.false) in
    record { fits = omega (arith, c.held_and_gone-more.ensures, c.came_and_added-less.ensures, r.small) }

pub returns : goal.returns
unfolding depth_before held_and_gone came_and_added
returns c =
    ap (set c.args.depths.now c.args.square) (ap₂ ◌-◌ c.held_and_gone-more.ensures c.came_and_added-less.ensures) ∙
    sym (pick_false _ _ (sym c.is_closed.ensures ∙ c.if-is_closed.false))
