use mathlib.Core.Path.{ap}
use mathlib.Core.Bool.{not}
use mathlib.Core.Path.{refl, sym, ◌∙◌}
use Rattle.reckon.proofs.TestLaws.{refusal_here, refusal_later, passed_refusal}
use Rattle.checks.proofs.CheckLaws.{fails_by, holds_by}
use Rattle.desks.specs.Command.{ready_number}
use Rattle.desks.proofs.command.refused_at_once.Goals as goal

-- src/command.rt:162:9
pub returns-then-not-desk : goal.returns-then-not-desk
unfolding ready_number
returns-then-not-desk c = sym (refusal_here 12 _ (fails_by refl c.if-not-desk.true))

-- src/command.rt:165:9
pub returns-then-not-heading_fine : goal.returns-then-not-heading_fine
unfolding ready_number
returns-then-not-heading_fine c = sym (refusal_later 12 _ (holds_by refl c.if-not-desk.false) ∙ refusal_here 1 _ (fails_by c.heading_fine.ensures (ap not c.if-not-heading_fine.true)))

-- src/command.rt:158:1
pub returns : goal.returns
unfolding ready_number
returns c = sym (passed_refusal _ (holds_by refl c.if-not-desk.false, (holds_by c.heading_fine.ensures (ap not c.if-not-heading_fine.false), tt)))
