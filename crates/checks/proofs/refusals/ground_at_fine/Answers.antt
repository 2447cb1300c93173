-- `checks::refusals::ground_at_fine` meets its contract: a closed square passes, and of any other first its ground decides, then its rate.
-- Assumes nothing.
use mathlib.Core.Path.{ap}
use mathlib.Core.Bool.{not}
use mathlib.Core.Path.{◌≡◌, sym, ◌∙◌}
use mathlib.Core.Bool.{false}
use Rattle.reckon.proofs.TestLaws.{every_fails}
use Rattle.grid.specs.Marks.{closed}
use Rattle.checks.specs.Refusals.{square_ground_fine}
use Rattle.checks.proofs.CheckLaws.{fails_by, holds_by, or_decided, every_decided}
use Rattle.checks.proofs.refusals.ground_at_fine.Goals as goal
use Rattle.checks.proofs.refusals.ground_at_fine.Goals.{Else-is_closed}

-- ---- the places, each from the one after it

abbrev is_open : (c : Else-is_closed) → closed c.args.marks.now c.args.square ≡ false
is_open c = sym c.is_closed.ensures ∙ c.if-is_closed.false

pub returns-then-not-ground_fine : goal.returns-then-not-ground_fine
unfolding square_ground_fine
returns-then-not-ground_fine c = or_decided _ (is_open (goal.at.returns-then-not-ground_fine c).Else-is_closed) (sym (every_fails _ 0 (fails_by c.ground_fine.ensures (ap not c.if-not-ground_fine.true))))

pub returns : goal.returns
unfolding square_ground_fine
returns c =
    or_decided _ (is_open (goal.at.returns c).Else-is_closed)
    (every_decided _ 1 _ (sym c.rate_fine.ensures) (λ t. (holds_by c.ground_fine.ensures (ap not c.if-not-ground_fine.false), (sym c.rate_fine.ensures ∙ t, tt))))
