-- `ledger::take_back::early_refusal` meets its contract: the tests in the table's order, each after those before it passed.
-- Assumes nothing.
use mathlib.Core.Path.{◌≡◌, sym, ap, ◌∙◌}
use mathlib.Core.Bool.{true}
use Prim.Native.Nat.{ℕ}
use Rattle.grid.specs.Marks.{marks_fine}
use Rattle.ledger.specs.Runs.{Plan, World, plan, world, run_fine}
use Rattle.ledger.specs.Record.{room_slots}
use Rattle.ledger.specs.Checks.{waters_fine}
use Rattle.ledger.proofs.RecordLaws.{slots_of}
use Rattle.ledger.proofs.BackLaws.{sized, watered_of, looked_1, looked_2, looked_3, looked_6, looked_10, looked_none}
use Rattle.ledger.proofs.take_back.early_refusal.Goals as goal
use Rattle.ledger.proofs.take_back.early_refusal.Goals.{After-back_sizes_fine, After-run_fine, Else-not-back_sizes_fine, Else-not-marks_fine, Else-not-waters_fine}

-- ---- the places, each from the one after it

-- ---- what is known there: the tests that passed

abbrev ground : After-back_sizes_fine → Plan
ground c = plan c.args.shape c.args.marks.now

abbrev now_is : After-back_sizes_fine → World
now_is c = world c.args.depths.now c.args.lasts.now c.args.records.now c.args.run

sizes-pass : (c : Else-not-back_sizes_fine) → sized (ground (goal.at.Else-not-back_sizes_fine c).After-back_sizes_fine) (now_is (goal.at.Else-not-back_sizes_fine c).After-back_sizes_fine) ≡ true
sizes-pass c = sym c.back_sizes_fine.ensures ∙ c.if-not-back_sizes_fine.false

module _ (c : Else-not-marks_fine) where
  marks-pass : marks_fine (ground (goal.at.Else-not-marks_fine c).After-back_sizes_fine).shape (ground (goal.at.Else-not-marks_fine c).After-back_sizes_fine).marks ≡ true
  marks-pass = sym c.marks_fine.ensures ∙ c.if-not-marks_fine.false

module _ (c : Else-not-waters_fine) where
  abbrev p : Plan
  p = ground (goal.at.Else-not-waters_fine c).After-back_sizes_fine

  abbrev w : World
  w = now_is (goal.at.Else-not-waters_fine c).After-back_sizes_fine

  waters-pass : waters_fine p w.depths w.lasts ≡ true
  waters-pass = sym c.waters_fine.ensures ∙ c.if-not-waters_fine.false

-- the run is judged by the room's slots
run-judged :
    (c : After-run_fine) → c.run_fine.result ≡ run_fine (room_slots (p (goal.at.After-run_fine c).Else-not-waters_fine) (w (goal.at.After-run_fine c).Else-not-waters_fine).records) (w (goal.at.After-run_fine c).Else-not-waters_fine).run
run-judged c =
    c.run_fine.ensures
    ∙ ap (λ (k : ℕ). run_fine k (w (goal.at.After-run_fine c).Else-not-waters_fine).run)
    (slots_of (p (goal.at.After-run_fine c).Else-not-waters_fine) (w (goal.at.After-run_fine c).Else-not-waters_fine).records c.record_size.ensures c.slots_in.ensures)

pub returns-then-not-back_sizes_fine : goal.returns-then-not-back_sizes_fine
returns-then-not-back_sizes_fine c = looked_1 (ground (goal.at.returns-then-not-back_sizes_fine c).After-back_sizes_fine) (now_is (goal.at.returns-then-not-back_sizes_fine c).After-back_sizes_fine) (sym c.back_sizes_fine.ensures ∙ c.if-not-back_sizes_fine.true)

pub marks_fine-requires : goal.marks_fine-requires
marks_fine-requires c =
    let h = watered_of (ground (goal.at.marks_fine-requires c).After-back_sizes_fine) (now_is (goal.at.marks_fine-requires c).After-back_sizes_fine) (sizes-pass c) in
    record { fine = h.fine; whole = h.marks_long }

pub returns-then-not-marks_fine : goal.returns-then-not-marks_fine
returns-then-not-marks_fine c = looked_2 (ground (goal.at.returns-then-not-marks_fine c).After-back_sizes_fine) (now_is (goal.at.returns-then-not-marks_fine c).After-back_sizes_fine) (sizes-pass (goal.at.returns-then-not-marks_fine c).Else-not-back_sizes_fine) (sym c.marks_fine.ensures ∙ c.if-not-marks_fine.true)

pub waters_fine-requires : goal.waters_fine-requires
waters_fine-requires c = watered_of (ground (goal.at.waters_fine-requires c).After-back_sizes_fine) (now_is (goal.at.waters_fine-requires c).After-back_sizes_fine) (sizes-pass (goal.at.waters_fine-requires c).Else-not-back_sizes_fine)

pub returns-then-not-waters_fine : goal.returns-then-not-waters_fine
returns-then-not-waters_fine c =
    looked_3 (ground (goal.at.returns-then-not-waters_fine c).After-back_sizes_fine) (now_is (goal.at.returns-then-not-waters_fine c).After-back_sizes_fine) (sizes-pass (goal.at.returns-then-not-waters_fine c).Else-not-back_sizes_fine) (marks-pass (goal.at.returns-then-not-waters_fine c).Else-not-marks_fine)
    (sym c.waters_fine.ensures ∙ c.if-not-waters_fine.true)

pub record_size-requires : goal.record_size-requires
record_size-requires c = (watered_of (p c) (w c) (sizes-pass (goal.at.record_size-requires c).Else-not-back_sizes_fine)).fine

pub returns-then-not-run_fine : goal.returns-then-not-run_fine
returns-then-not-run_fine c =
    looked_6 (p (goal.at.returns-then-not-run_fine c).Else-not-waters_fine) (w (goal.at.returns-then-not-run_fine c).Else-not-waters_fine) (sizes-pass (goal.at.returns-then-not-run_fine c).Else-not-back_sizes_fine) (marks-pass (goal.at.returns-then-not-run_fine c).Else-not-marks_fine) (waters-pass (goal.at.returns-then-not-run_fine c).Else-not-waters_fine)
    (sym (run-judged (goal.at.returns-then-not-run_fine c).After-run_fine) ∙ c.if-not-run_fine.true)

pub returns-then-run-eq0 : goal.returns-then-run-eq0
returns-then-run-eq0 c =
    looked_10 (p (goal.at.returns-then-run-eq0 c).Else-not-waters_fine) (w (goal.at.returns-then-run-eq0 c).Else-not-waters_fine) (sizes-pass (goal.at.returns-then-run-eq0 c).Else-not-back_sizes_fine) (marks-pass (goal.at.returns-then-run-eq0 c).Else-not-marks_fine) (waters-pass (goal.at.returns-then-run-eq0 c).Else-not-waters_fine)
    (sym (run-judged (goal.at.returns-then-run-eq0 c).After-run_fine) ∙ c.if-not-run_fine.false) c.if-run-eq0.true

pub returns : goal.returns
returns c =
    looked_none (p (goal.at.returns c).Else-not-waters_fine) (w (goal.at.returns c).Else-not-waters_fine) (sizes-pass (goal.at.returns c).Else-not-back_sizes_fine) (marks-pass (goal.at.returns c).Else-not-marks_fine) (waters-pass (goal.at.returns c).Else-not-waters_fine)
    (sym (run-judged (goal.at.returns c).After-run_fine) ∙ c.if-not-run_fine.false) c.if-run-eq0.false
