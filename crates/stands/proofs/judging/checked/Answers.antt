-- `stands::judging::checked` meets its contract: the tests are made in the order of their numbers, and the first that fails is given.
-- Assumes nothing.
use mathlib.Core.Path.{ap}
use mathlib.Core.Bool.{not}
use mathlib.Core.Path.{sym, ◌∙◌}
use Rattle.reckon.proofs.TestLaws.{refusal_here, refusal_later, passed_refusal}
use Rattle.checks.proofs.CheckLaws.{fails_by, holds_by}
use Rattle.stands.specs.Laying.{checks_of}
use Rattle.stands.proofs.judging.checked.Goals as goal

pub returns-then-not-waters_read : goal.returns-then-not-waters_read
unfolding checks_of
returns-then-not-waters_read c = sym (refusal_here 3 _ (fails_by c.waters_read.ensures (ap not c.if-not-waters_read.true)))

pub returns-then-not-draws_fine : goal.returns-then-not-draws_fine
unfolding checks_of
returns-then-not-draws_fine c =
    sym
    (refusal_later 3 _ (holds_by c.waters_read.ensures (ap not c.if-not-waters_read.false)) ∙ refusal_here 4 _ (fails_by c.draws_fine.ensures (ap not c.if-not-draws_fine.true)))

pub returns-then-not-state_fine : goal.returns-then-not-state_fine
unfolding checks_of
returns-then-not-state_fine c =
    sym
    (refusal_later 3 _ (holds_by c.waters_read.ensures (ap not c.if-not-waters_read.false))
    ∙ (refusal_later 4 _ (holds_by c.draws_fine.ensures (ap not c.if-not-draws_fine.false)) ∙ refusal_here 6 _ (fails_by c.state_fine.ensures (ap not c.if-not-state_fine.true))))

pub returns : goal.returns
unfolding checks_of
returns c =
    sym
    (passed_refusal _ (
      holds_by c.waters_read.ensures (ap not c.if-not-waters_read.false),
      (
        holds_by c.draws_fine.ensures (ap not c.if-not-draws_fine.false),
        (holds_by c.state_fine.ensures (ap not c.if-not-state_fine.false), tt),
      ),
    ))
