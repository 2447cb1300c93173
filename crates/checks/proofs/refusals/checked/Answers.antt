-- `checks::refusals::checked` meets its contract: the tests are made in the table's order, and the first that fails is given.
-- Assumes nothing.
use mathlib.Core.Path.{ap}
use mathlib.Core.Bool.{not}
use mathlib.Core.Path.{◌≡◌, sym, ◌∙◌}
use mathlib.Core.List.{List}
use Prim.Native.Nat.{ℕ}
use lib.ListN.{drop}
use Rattle.reckon.specs.Tests.{Row, refusal}
use Rattle.reckon.proofs.TestLaws.{each_every, every_fails, refusal_here, refusal_later, passed_refusal}
use Rattle.ledger.specs.Runs.{plan, run_fine, world, seen_of}
use Rattle.ledger.specs.Record.{room_slots, ring_of}
use Rattle.checks.specs.Given.{ground, given}
use Rattle.checks.specs.Refusals.{check_refusals}
use Rattle.checks.proofs.CheckLaws.{fails_by, holds_by, lent-fine, lent_marked, lent_ground, lent_water, run-fine_by, slots_by}
use Rattle.checks.proofs.refusals.checked.Goals as goal
use Rattle.checks.proofs.refusals.checked.Goals.{Else-not-five, Else-not-grounds_fine, Else-not-lent_fine, Else-not-tables_fine, Else-not-waters_fine, Start}

-- ---- the places, each by the one before it

-- ---- what is known there

-- the table for the arguments and a record room
abbrev rows : Start → List ℕ → List Row
rows s records =
    let a = s.args in
    let p = plan a.shape a.marks.now in
    let g = given (ground a.rules a.beds.now a.roughness.now a.rates.now) a.rain.now a.inflow.now in
    let w = world a.depths.now a.lasts.now records a.run in
    check_refusals p g a.five (ring_of p w) (seen_of w)

-- its first k rows do not apply
abbrev Past : ℕ → Start → Type 0
Past k s = (records : List ℕ) → refusal (rows s records) ≡ refusal (drop k (rows s records))

past-1 : (c : Else-not-lent_fine) → Past 1 (goal.at.Else-not-lent_fine c).Start
unfolding check_refusals
past-1 c records = refusal_later 1 _ (holds_by c.lent_fine.ensures (ap not c.if-not-lent_fine.false))

past-2 : (c : Else-not-grounds_fine) → Past 2 (goal.at.Else-not-grounds_fine c).Start
unfolding check_refusals
past-2 c records =
    past-1 (goal.at.Else-not-grounds_fine c).Else-not-lent_fine records ∙ refusal_later 2 _
    (each_every _ (holds_by c.marks_fine.ensures (ap not c.if-not-marks_fine.false), (holds_by (c.grounds_fine.ensures _) (ap not c.if-not-grounds_fine.false), tt)))

past-3 : (c : Else-not-waters_fine) → Past 3 (goal.at.Else-not-waters_fine c).Start
unfolding check_refusals
past-3 c records = past-2 (goal.at.Else-not-waters_fine c).Else-not-grounds_fine records ∙ refusal_later 3 _ (holds_by c.waters_fine.ensures (ap not c.if-not-waters_fine.false))

past-4 : (c : Else-not-tables_fine) → Past 4 (goal.at.Else-not-tables_fine c).Start
unfolding check_refusals
past-4 c records = past-3 (goal.at.Else-not-tables_fine c).Else-not-waters_fine records ∙ refusal_later 4 _ (holds_by c.tables_fine.ensures (ap not c.if-not-tables_fine.false))

past-5 : (c : Else-not-five) → Past 5 (goal.at.Else-not-five c).Start
unfolding check_refusals
past-5 c records = past-4 (goal.at.Else-not-five c).Else-not-tables_fine records ∙ refusal_later 5 _ (c.if-not-five.false)

-- ---- the answers

pub returns-then-not-lent_fine : goal.returns-then-not-lent_fine
unfolding check_refusals
returns-then-not-lent_fine c records long = sym (refusal_here 1 _ (fails_by c.lent_fine.ensures (ap not c.if-not-lent_fine.true)))

pub marks_fine-requires : goal.marks_fine-requires
marks_fine-requires c = lent_marked _ _ _ _ _ _ _ _ (holds_by c.lent_fine.ensures (ap not c.if-not-lent_fine.false))

pub returns-then-not-marks_fine : goal.returns-then-not-marks_fine
unfolding check_refusals
returns-then-not-marks_fine c records long = sym (past-1 (goal.at.returns-then-not-marks_fine c).Else-not-lent_fine records ∙ refusal_here 2 _ (every_fails _ 0 (fails_by c.marks_fine.ensures (ap not c.if-not-marks_fine.true))))

pub grounds_fine-requires : goal.grounds_fine-requires
grounds_fine-requires c = lent_ground _ _ _ _ _ _ _ _ (holds_by c.lent_fine.ensures (ap not c.if-not-lent_fine.false))

pub returns-then-not-grounds_fine : goal.returns-then-not-grounds_fine
unfolding check_refusals
returns-then-not-grounds_fine c records long = sym (past-1 (goal.at.returns-then-not-grounds_fine c).Else-not-lent_fine records ∙ refusal_here 2 _ (every_fails _ 1 (fails_by (c.grounds_fine.ensures _) (ap not c.if-not-grounds_fine.true))))

pub waters_fine-requires : goal.waters_fine-requires
waters_fine-requires c = lent_water _ _ _ _ _ _ _ _ (holds_by c.lent_fine.ensures (ap not c.if-not-lent_fine.false))

pub returns-then-not-waters_fine : goal.returns-then-not-waters_fine
unfolding check_refusals
returns-then-not-waters_fine c records long = sym (past-2 (goal.at.returns-then-not-waters_fine c).Else-not-grounds_fine records ∙ refusal_here 3 _ (fails_by c.waters_fine.ensures (ap not c.if-not-waters_fine.true)))

pub tables_fine-requires : goal.tables_fine-requires
tables_fine-requires c = lent_marked _ _ _ _ _ _ _ _ (holds_by c.lent_fine.ensures (ap not c.if-not-lent_fine.false))

pub returns-then-not-tables_fine : goal.returns-then-not-tables_fine
unfolding check_refusals
returns-then-not-tables_fine c records long = sym (past-3 (goal.at.returns-then-not-tables_fine c).Else-not-waters_fine records ∙ refusal_here 4 _ (fails_by c.tables_fine.ensures (ap not c.if-not-tables_fine.true)))

pub returns-then-not-five : goal.returns-then-not-five
unfolding check_refusals
returns-then-not-five c records long = sym (past-4 (goal.at.returns-then-not-five c).Else-not-tables_fine records ∙ refusal_here 5 _ (c.if-not-five.true))

pub slots_of-requires : goal.slots_of-requires
slots_of-requires c = lent-fine _ _ _ _ _ _ _ _ (holds_by c.lent_fine.ensures (ap not c.if-not-lent_fine.false))

pub returns-then-not-run_fine : goal.returns-then-not-run_fine
unfolding check_refusals run_fine room_slots
returns-then-not-run_fine c records long =
    sym
    (past-5 (goal.at.returns-then-not-run_fine c).Else-not-five records ∙ refusal_here 6 _ (fails_by (run-fine_by c.args.run c.run_fine.ensures (slots_by (plan c.args.shape c.args.marks.now) records c.slots_of.ensures long)) (ap not c.if-not-run_fine.true)))

pub returns : goal.returns
unfolding check_refusals run_fine room_slots
returns c records long =
    sym
    (past-5 (goal.at.returns c).Else-not-five records ∙ passed_refusal _ (holds_by (run-fine_by c.args.run c.run_fine.ensures (slots_by (plan c.args.shape c.args.marks.now) records c.slots_of.ensures long)) (ap not c.if-not-run_fine.false), tt))
