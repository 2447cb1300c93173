-- `sheet::lines::marked_cell` meets its contract: the tab and the mark decide.
-- Assumes nothing.
use mathlib.Core.Bool.{true, false}
use mathlib.Core.Path.{◌≡◌, sym, ◌∙◌}
use Prim.Native.Nat.{◌+◌}
use native.Mathlib.Omega.{arith}
use Rattle.reckon.proofs.TestLaws.{pick_true, pick_false}
use Rattle.text.specs.Reading.{tab, is_byte}
use Rattle.text.proofs.ReadingLaws.{byte_within}
use Rattle.sheet.specs.Lines.{marked_cell, x_letter, o_letter, e_letter}
use Rattle.sheet.proofs.lines.marked_cell.Goals as goal
use Rattle.sheet.proofs.lines.marked_cell.Goals.{Else-byte_is, Else-byte_is-2, Else-not-byte_is}

-- what is known at each
tab-is : (c : Else-not-byte_is) → is_byte c.args.text.now c.args.at tab ≡ true
tab-is c = sym c.byte_is.ensures ∙ c.if-not-byte_is.false

no-x : (c : Else-byte_is) → is_byte c.args.text.now (c.args.at + 1) x_letter ≡ false
no-x c = sym c.byte_is-2.ensures ∙ c.if-byte_is.false

no-o : (c : Else-byte_is-2) → is_byte c.args.text.now (c.args.at + 1) o_letter ≡ false
no-o c = sym c.byte_is-3.ensures ∙ c.if-byte_is-2.false

pub returns-then-not-byte_is : goal.returns-then-not-byte_is
unfolding marked_cell
returns-then-not-byte_is c = sym (pick_false _ _ (sym c.byte_is.ensures ∙ c.if-not-byte_is.true))

pub overflow_add-at : goal.overflow_add-at
overflow_add-at c = omega (arith, byte_within c.args.text.now c.args.at tab (tab-is c))

pub overflow_add-at-then-byte_is : goal.overflow_add-at-then-byte_is
overflow_add-at-then-byte_is c = omega (arith, byte_within c.args.text.now (c.args.at + 1) x_letter (sym c.byte_is-2.ensures ∙ c.if-byte_is.true))

pub returns-then-byte_is : goal.returns-then-byte_is
unfolding marked_cell
returns-then-byte_is c =
    c.closed_cell.ensures
    ∙ sym (pick_true _ _ (tab-is (goal.at.returns-then-byte_is c).Else-not-byte_is) ∙ pick_true _ _ (sym c.byte_is-2.ensures ∙ c.if-byte_is.true))

pub overflow_add-at-2 : goal.overflow_add-at-2
overflow_add-at-2 c = omega (arith, byte_within c.args.text.now c.args.at tab (tab-is (goal.at.overflow_add-at-2 c).Else-not-byte_is))

pub overflow_add-at-then-byte_is-2 : goal.overflow_add-at-then-byte_is-2
overflow_add-at-then-byte_is-2 c = omega (arith, byte_within c.args.text.now (c.args.at + 1) o_letter (sym c.byte_is-3.ensures ∙ c.if-byte_is-2.true))

pub returns-then-byte_is-2 : goal.returns-then-byte_is-2
unfolding marked_cell
returns-then-byte_is-2 c =
    c.open_cell.ensures
    ∙ sym
    (pick_true _ _ (tab-is (goal.at.returns-then-byte_is-2 c).Else-not-byte_is) ∙ (pick_false _ _ (no-x (goal.at.returns-then-byte_is-2 c).Else-byte_is) ∙ pick_true _ _ (sym c.byte_is-3.ensures ∙ c.if-byte_is-2.true)))

pub overflow_add-at-3 : goal.overflow_add-at-3
overflow_add-at-3 c = omega (arith, byte_within c.args.text.now c.args.at tab (tab-is (goal.at.overflow_add-at-3 c).Else-not-byte_is))

pub overflow_add-at-then-byte_is-3 : goal.overflow_add-at-then-byte_is-3
overflow_add-at-then-byte_is-3 c = omega (arith, byte_within c.args.text.now (c.args.at + 1) e_letter (sym c.byte_is-4.ensures ∙ c.if-byte_is-3.true))

pub returns-then-byte_is-3 : goal.returns-then-byte_is-3
unfolding marked_cell
returns-then-byte_is-3 c =
    c.open_cell-then-byte_is-3.ensures
    ∙ sym
    (pick_true _ _ (tab-is (goal.at.returns-then-byte_is-3 c).Else-not-byte_is) ∙ (pick_false _ _ (no-x (goal.at.returns-then-byte_is-3 c).Else-byte_is) ∙ (pick_false _ _ (no-o (goal.at.returns-then-byte_is-3 c).Else-byte_is-2) ∙ pick_true _ _ (sym c.byte_is-4.ensures ∙ c.if-byte_is-3.true))))

pub returns : goal.returns
unfolding marked_cell
returns c =
    sym
    (pick_true _ _ (tab-is (goal.at.returns c).Else-not-byte_is) ∙ (pick_false _ _ (no-x (goal.at.returns c).Else-byte_is) ∙ (pick_false _ _ (no-o (goal.at.returns c).Else-byte_is-2) ∙ pick_false _ _ (sym c.byte_is-4.ensures ∙ c.if-byte_is-3.false))))
