-- `settling::settle::late_number` meets its contract: none where that is sure, else the first of the rows that applies.
-- Assumes nothing.
use Rattle.std.proofs.Common.{◌≡◌, true, sym, ◌∙◌, le-leb}
use borrow.Author.Tests.{lt-leb}
use Rattle.reckon.specs.Tests.{all_below}
use Rattle.reckon.proofs.TestLaws.{pick_true, pick_false, refusal_here, refusal_later, passed_refusal}
use Rattle.grid.specs.Squares.{squares}
use Rattle.settling.specs.Inner.Settle.{fits_at, late_number}
use Rattle.settling.proofs.settle.late_number.Goals as goal
use Rattle.settling.proofs.settle.late_number.Goals.{Else-not-all_fit}

-- all fit there
fit : (c : Else-not-all_fit) → all_below (squares c.args.shape) (fits_at c.args.marks.now c.args.room.now) ≡ true
fit c = sym c.all_fit.ensures ∙ c.if-not-all_fit.false

pub returns-then-sure : goal.returns-then-sure
unfolding late_number
returns-then-sure c = sym (pick_true _ _ c.if-sure.true)

pub returns-then-not-all_fit : goal.returns-then-not-all_fit
unfolding late_number
returns-then-not-all_fit c = sym (pick_false _ _ c.if-sure.false ∙ refusal_here 8 _ (sym c.all_fit.ensures ∙ c.if-not-all_fit.true))

pub returns-then-outflow-gt-MOST_OUTFLOW : goal.returns-then-outflow-gt-MOST_OUTFLOW
unfolding late_number
returns-then-outflow-gt-MOST_OUTFLOW c = sym (pick_false _ _ c.if-sure.false ∙ (refusal_later 8 _ (fit (goal.at.returns-then-outflow-gt-MOST_OUTFLOW c).Else-not-all_fit) ∙ refusal_here 9 _ (lt-leb _ _ c.if-outflow-gt-MOST_OUTFLOW.true)))

pub returns-then-soaked-gt-MOST_SOAKED : goal.returns-then-soaked-gt-MOST_SOAKED
unfolding late_number
returns-then-soaked-gt-MOST_SOAKED c =
    sym
    (pick_false _ _ c.if-sure.false
    ∙ (refusal_later 8 _ (fit (goal.at.returns-then-soaked-gt-MOST_SOAKED c).Else-not-all_fit) ∙ (refusal_later 9 _ (le-leb _ _ c.if-outflow-gt-MOST_OUTFLOW.false) ∙ refusal_here 15 _ (lt-leb _ _ c.if-soaked-gt-MOST_SOAKED.true))))

pub returns : goal.returns
unfolding late_number
returns c =
    sym
    (pick_false _ _ c.if-sure.false ∙ passed_refusal _ (fit (goal.at.returns c).Else-not-all_fit, (le-leb _ _ c.if-outflow-gt-MOST_OUTFLOW.false, (le-leb _ _ c.if-soaked-gt-MOST_SOAKED.false, tt))))
