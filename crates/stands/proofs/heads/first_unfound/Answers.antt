-- `stands::heads::first_unfound` meets its contract: the lines are asked in their order, and the first that was not found is given.
-- Assumes nothing.
use mathlib.Core.Path.{sym, ◌∙◌}
use Rattle.reckon.proofs.TestLaws.{refusal_here, refusal_later, passed_refusal}
use Rattle.stands.proofs.heads.first_unfound.Goals as goal

pub returns-then-not-first : goal.returns-then-not-first
returns-then-not-first c = sym (refusal_here 1 _ (c.if-not-first.true))

pub returns-then-not-second : goal.returns-then-not-second
returns-then-not-second c = sym (refusal_later 1 _ (c.if-not-first.false) ∙ refusal_here 2 _ (c.if-not-second.true))

pub returns-then-not-third : goal.returns-then-not-third
returns-then-not-third c = sym (refusal_later 1 _ (c.if-not-first.false) ∙ (refusal_later 2 _ (c.if-not-second.false) ∙ refusal_here 3 _ (c.if-not-third.true)))

pub returns-then-not-fourth : goal.returns-then-not-fourth
returns-then-not-fourth c =
    sym
    (refusal_later 1 _ (c.if-not-first.false)
    ∙ (refusal_later 2 _ (c.if-not-second.false)
    ∙ (refusal_later 3 _ (c.if-not-third.false) ∙ refusal_here 4 _ (c.if-not-fourth.true))))

pub returns-then-not-fifth : goal.returns-then-not-fifth
returns-then-not-fifth c =
    sym
    (refusal_later 1 _ (c.if-not-first.false)
    ∙ (refusal_later 2 _ (c.if-not-second.false)
    ∙ (refusal_later 3 _ (c.if-not-third.false) ∙ (refusal_later 4 _ (c.if-not-fourth.false) ∙ refusal_here 5 _ (c.if-not-fifth.true)))))

pub returns : goal.returns
returns c =
    sym
    (passed_refusal _ (
      c.if-not-first.false,
      (
        c.if-not-second.false,
        (c.if-not-third.false, (c.if-not-fourth.false, (c.if-not-fifth.false, tt))),
      ),
    ))
