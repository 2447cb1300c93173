-- `moves::drops::drop_beside` meets its contract: the choice is the definition's.
-- Assumes nothing.
use mathlib.Core.Path.{sym, ◌∙◌, ap}
use Prim.Native.Nat.{ℕ}
use Rattle.rule.specs.Drops.{drop_to}
use Rattle.reckon.proofs.TestLaws.{pick_true, pick_false}
use Rattle.moves.proofs.drops.drop_beside.Goals as goal

pub returns-then-is_closed : goal.returns-then-is_closed
returns-then-is_closed c = sym (pick_true _ _ (sym c.is_closed.ensures ∙ c.if-is_closed.true))

pub returns-else-is_closed : goal.returns-else-is_closed
returns-else-is_closed c =
    let own = c.args.own in
    c.drop_to-drop.ensures
    ∙ (ap (λ (k : ℕ). drop_to own k) c.level_of.ensures
    ∙ sym (pick_false _ _ (sym c.is_closed.ensures ∙ c.if-is_closed.false)))
