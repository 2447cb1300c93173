use native.Mathlib.Omega.{arith}
use borrow.Author.Tests.{le-leb, lt-leb}
use mathlib.Core.Path.{◌∙◌}
use Rattle.reckon.proofs.TestLaws.{refusal_here, refusal_later, passed_refusal}
use Rattle.desks.proofs.AnswerLaws.{step-refused, step-begun}
use Rattle.desks.proofs.lines.step_line.Goals as goal

-- src/lines.rt:133:9
pub returns-then-count-lt1 : goal.returns-then-count-lt1
returns-then-count-lt1 c =
    let a = c.args in
    λ p d l k b. step-refused a.desk a.count a.end a.every p d l k b 12
    (refusal_here 12 _ (lt-leb _ _ c.if-count-lt1.true))
    (λ z. omega arith) c.refuse_line.ensures

-- src/lines.rt:136:9
pub returns-then-count-gt-MOST_STEPS : goal.returns-then-count-gt-MOST_STEPS
returns-then-count-gt-MOST_STEPS c =
    let a = c.args in
    λ p d l k b. step-refused a.desk a.count a.end a.every p d l k b 12
    (refusal_later 12 _ (le-leb _ _ c.if-count-lt1.false) ∙ refusal_here 12 _ (lt-leb _ _ c.if-count-gt-MOST_STEPS.true))
    (λ z. omega arith) c.refuse_line-then-count-gt-MOST_STEPS.ensures

-- src/lines.rt:139:9
pub returns-then-every-gt1 : goal.returns-then-every-gt1
returns-then-every-gt1 c =
    let a = c.args in
    λ p d l k b. step-refused a.desk a.count a.end a.every p d l k b 12
    (refusal_later 12 _ (le-leb _ _ c.if-count-lt1.false)
    ∙ (refusal_later 12 _ (le-leb _ _ c.if-count-gt-MOST_STEPS.false) ∙ refusal_here 12 _ (lt-leb _ _ c.if-every-gt1.true)))
    (λ z. omega arith) c.refuse_line-then-every-gt1.ensures

-- src/lines.rt:143:9
pub returns-then-to-gt-LAST_CLOCK : goal.returns-then-to-gt-LAST_CLOCK
returns-then-to-gt-LAST_CLOCK c =
    let a = c.args in
    λ p d l k b. step-refused a.desk a.count a.end a.every p d l k b 5
    (refusal_later 12 _ (le-leb _ _ c.if-count-lt1.false)
    ∙ (refusal_later 12 _ (le-leb _ _ c.if-count-gt-MOST_STEPS.false)
    ∙ (refusal_later 12 _ (le-leb _ _ c.if-every-gt1.false) ∙ refusal_here 5 _ (lt-leb _ _ c.if-to-gt-LAST_CLOCK.true))))
    (λ z. omega arith) c.refuse_line-then-to-gt-LAST_CLOCK.ensures

-- src/lines.rt:128:1
pub returns : goal.returns
returns c =
    let a = c.args in
    λ p d l k b. step-begun a.desk a.count a.end a.every p d l k b
    (passed_refusal _ (
      le-leb _ _ c.if-count-lt1.false,
      (
        le-leb _ _ c.if-count-gt-MOST_STEPS.false,
        (le-leb _ _ c.if-every-gt1.false, (le-leb _ _ c.if-to-gt-LAST_CLOCK.false, tt)),
      ),
    ))
    c.desk_with.ensures
