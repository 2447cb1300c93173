-- `ledger::take_back::take_back` meets its contract: refused by what comes before 11, by the newest record, or restored.
-- Assumes nothing.
use mathlib.Core.Path.{◌≡◌, sym}
use mathlib.Core.Bool.{true}
use mathlib.Core.List.{List, []}
use Prim.Native.Nat.{ℕ, ◌+◌, ◌-◌, ◌≤◌}
use native.Mathlib.Omega.{arith}
use lib.ListN.{length, take, drop}
use Rattle.trials.specs.Ring.{slot_start}
use Rattle.grid.specs.Squares.{squares}
use Rattle.ledger.specs.Runs.{Plan, World, plan, world}
use Rattle.ledger.specs.Record.{newest_record}
use Rattle.ledger.specs.TakeBack.{restorable}
use Rattle.ledger.specs.Inner.TakeBack.{Kept, RecordAndDepths}
use Rattle.ledger.proofs.RecordLaws.{slots_of}
use Rattle.ledger.proofs.BackLaws.{takes_refused, takes_unfit, takes_back, clock_covers, squares-restorable, outflow_covers, soaked_covers, newest_below, kept_some, newest_fits, newest_is, newest_long, newest_led}
use Rattle.ledger.proofs.take_back.take_back.Goals as goal
use Rattle.ledger.proofs.take_back.take_back.Goals.{After-early_refusal-refused, After-slot_start-at, After-slots_in-slots, In-Some, Else-refused-ne0}

-- ---- what is known there

abbrev ground : After-early_refusal-refused → Plan
ground c = plan c.args.shape c.args.marks.now

abbrev now_is : After-early_refusal-refused → World
now_is c = world c.args.depths.now c.args.lasts.now c.args.records.now c.args.run

kept : (c : Else-refused-ne0) → Kept (ground (goal.at.Else-refused-ne0 c).After-early_refusal-refused) (now_is (goal.at.Else-refused-ne0 c).After-early_refusal-refused)
kept c = c.early_refusal-refused.ensures.passed c.if-refused-ne0.false

fits :
    (c : After-slots_in-slots) → let z = c.record_size-size.result in let w = now_is (goal.at.After-slots_in-slots c).After-early_refusal-refused in
    slot_start z w.run.newest + z ≤ length w.records
fits c =
    newest_fits (ground (goal.at.After-slots_in-slots c).After-early_refusal-refused) (now_is (goal.at.After-slots_in-slots c).After-early_refusal-refused) (kept (goal.at.After-slots_in-slots c).Else-refused-ne0) c.record_size-size.ensures c.slots_in-slots.ensures

-- the newest record, where it is lent from
module _ (c : After-slot_start-at) where
  abbrev p : Plan
  p = ground (goal.at.After-slot_start-at c).After-early_refusal-refused

  abbrev w : World
  w = now_is (goal.at.After-slot_start-at c).After-early_refusal-refused

  abbrev rec : List ℕ
  rec = let at = c.slot_start-at.result in let size = c.record_size-size.result in take (at + size - at) (drop at w.records)

  rec-is : rec ≡ newest_record p w
  rec-is =
      newest_is p w (kept (goal.at.After-slot_start-at c).Else-refused-ne0) c.record_size-size.ensures c.slots_in-slots.ensures c.slot_start-at.ensures

  rec-led : {depths : List ℕ} → length depths ≡ squares p.shape → RecordAndDepths p rec depths
  rec-led l =
      newest_led p w (kept (goal.at.After-slot_start-at c).Else-refused-ne0) c.record_size-size.ensures c.slots_in-slots.ensures c.slot_start-at.ensures l

restored : (c : In-Some) → restorable (p (goal.at.In-Some c).After-slot_start-at) (world (w (goal.at.In-Some c).After-slot_start-at).depths [] [] (w (goal.at.In-Some c).After-slot_start-at).run) (rec (goal.at.In-Some c).After-slot_start-at) ≡ true
restored c = sym c.in-Some.ensures.fits_is

pub returns-then-refused-ne0 : goal.returns-then-refused-ne0
returns-then-refused-ne0 c = takes_refused (ground (goal.at.returns-then-refused-ne0 c).After-early_refusal-refused) (now_is (goal.at.returns-then-refused-ne0 c).After-early_refusal-refused) c.if-refused-ne0.true c.early_refusal-refused.ensures

pub slot_start-at-requires : goal.slot_start-at-requires
slot_start-at-requires c = omega (arith, fits c)

pub overflow_add-end : goal.overflow_add-end
overflow_add-end c = omega (arith, fits (goal.at.overflow_add-end c).After-slots_in-slots, c.slot_start-at.ensures)

pub offset_bounds-records-at : goal.offset_bounds-records-at
offset_bounds-records-at c = omega (arith, fits (goal.at.offset_bounds-records-at c).After-slots_in-slots, c.slot_start-at.ensures)

pub slice_bounds-rec-end : goal.slice_bounds-rec-end
slice_bounds-rec-end c = omega (arith, fits (goal.at.slice_bounds-rec-end c).After-slots_in-slots, c.slot_start-at.ensures)

pub returns-in_default : goal.returns-in_default
returns-in_default c = takes_unfit (p (goal.at.returns-in_default c).After-slot_start-at) (w (goal.at.returns-in_default c).After-slot_start-at) (kept (goal.at.returns-in_default c).Else-refused-ne0) (rec-is (goal.at.returns-in_default c).After-slot_start-at) (sym c.in_default.ensures.fits_is)

pub restore_depths-requires : goal.restore_depths-requires
restore_depths-requires c = record {
  record_and_depths = rec-led (goal.at.restore_depths-requires c).After-slot_start-at (kept (goal.at.restore_depths-requires c).Else-refused-ne0).watered.depths_long;
  rec_value = squares-restorable (p (goal.at.restore_depths-requires c).After-slot_start-at) (w (goal.at.restore_depths-requires c).After-slot_start-at) (rec (goal.at.restore_depths-requires c).After-slot_start-at) (restored (goal.at.restore_depths-requires c).In-Some);
}

pub run_before-requires : goal.run_before-requires
run_before-requires c =
    let size = c.record_size-size.ensures in
    let slots = c.slots_in-slots.ensures in record {
      head_words_in_bounds = (
        omega (arith, newest_long (p (goal.at.run_before-requires c).After-slot_start-at) (w (goal.at.run_before-requires c).After-slot_start-at) (kept (goal.at.run_before-requires c).Else-refused-ne0) size slots c.slot_start-at.ensures),
        newest_below (p (goal.at.run_before-requires c).After-slot_start-at) (w (goal.at.run_before-requires c).After-slot_start-at) (kept (goal.at.run_before-requires c).Else-refused-ne0) size slots,
        kept_some (p (goal.at.run_before-requires c).After-slot_start-at) (w (goal.at.run_before-requires c).After-slot_start-at) (kept (goal.at.run_before-requires c).Else-refused-ne0) size slots,
      );
      rec_bound = (
        clock_covers (p (goal.at.run_before-requires c).After-slot_start-at) (w (goal.at.run_before-requires c).After-slot_start-at) (rec (goal.at.run_before-requires c).After-slot_start-at) (restored (goal.at.run_before-requires c).In-Some),
        omega (arith, c.in-Some.ensures.off_is, outflow_covers (p (goal.at.run_before-requires c).After-slot_start-at) (w (goal.at.run_before-requires c).After-slot_start-at) (rec (goal.at.run_before-requires c).After-slot_start-at) (restored (goal.at.run_before-requires c).In-Some)),
        omega (arith, c.in-Some.ensures.soaked_is, soaked_covers (p (goal.at.run_before-requires c).After-slot_start-at) (w (goal.at.run_before-requires c).After-slot_start-at) (rec (goal.at.run_before-requires c).After-slot_start-at) (restored (goal.at.run_before-requires c).In-Some)),
      );
    }

pub returns : goal.returns
returns c =
    takes_back (p (goal.at.returns c).After-slot_start-at) (w (goal.at.returns c).After-slot_start-at) (kept (goal.at.returns c).Else-refused-ne0) (rec-is (goal.at.returns c).After-slot_start-at) (restored (goal.at.returns c).In-Some)
    (slots_of (p (goal.at.returns c).After-slot_start-at) (w (goal.at.returns c).After-slot_start-at).records c.record_size-size.ensures c.slots_in-slots.ensures)
    (c.in-Some.ensures.off_is) (c.in-Some.ensures.soaked_is)
    c.run_before.ensures c.restore_depths.ensures
    c.restore_lasts.ensures
