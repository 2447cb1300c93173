-- `evenings::taking::run_line` meets its contract: the table is filled, the run is made, and its rates are kept.
-- Assumes nothing.
use mathlib.Core.Path.{◌≡◌, ap, ◌∙◌}
use mathlib.Core.List.{List}
use Prim.Native.Nat.{ℕ, ◌+◌, ◌≤◌}
use native.Mathlib.Omega.{arith}
use lib.ListN.{length, length-replicate}
use borrow.Author.Rules.{rules}
use Rattle.reckon.specs.Tables.{inflow_kind, table_room}
use Rattle.ledger.specs.Runs.{Plan, plan, world}
use Rattle.checks.specs.Given.{Given, ground, given}
use Rattle.flood.specs.Run.{run_to}
use Rattle.sheet.proofs.JudgeLaws.{taken_long}
use Rattle.hatches.specs.Log.{most_hatches, Evening, evening, hatch_rows}
use Rattle.hatches.specs.declared.lines.Entry.TheVariants.{Rate}
use Rattle.hatches.proofs.RefusalLaws.{Entered, entered_is, rate_number, rate_clock, rate_table, slots_are}
use Rattle.hatches.proofs.RowLaws.{table_is, table_next, table-room}
use Rattle.evenings.proofs.TakeLaws.{run_few, run_newest, rate_done}
use Rattle.evenings.proofs.taking.run_line.Goals as goal
use Rattle.evenings.proofs.taking.run_line.Goals.{Start}

-- what the arguments are
abbrev P : Start → Plan
P s = plan s.args.shape s.args.marks.now

abbrev G : Start → Given
G s = given (ground s.args.rules s.args.beds.now s.args.roughness.now s.args.rates.now) s.args.rain.now s.args.inflow.now

abbrev E : Start → Evening
E s = evening s.args.depths.now s.args.lasts.now s.args.records.now s.args.began.now s.args.log

entered : (s : Start) → Entered (P s) (G s) (E s) (Rate s.args.clock s.args.number s.args.rate)
entered s = entered_is (P s) (G s) (E s) _ s.requires

nine : (s : Start) → length s.args.log.litres ≡ most_hatches
nine s = search rules

fits : (s : Start) → length s.args.inflow.now + length (hatch_rows s.args.log.hatches s.args.log.litres) ≤ table_room inflow_kind
fits s = rate_table (P s) s.args.inflow.now s.args.log _ _ _ (entered s).draw

pub fill_table-length-requires : goal.fill_table-length-requires
fill_table-length-requires c = omega (arith, fits (goal.at.fill_table-length-requires c).Start, length-replicate {A = ℕ} (table_room inflow_kind) 0)

pub record_size-requires : goal.record_size-requires
record_size-requires c = (entered (goal.at.record_size-requires c).Start).lent.shape

pub slice_bounds-table-end : goal.slice_bounds-table-end
slice_bounds-table-end c =
    omega (
      arith,
      fits (goal.at.slice_bounds-table-end c).Start,
      table_next c.args.inflow.now c.args.log.hatches c.args.log.litres c.fill_table-length.ensures,
      table-room c.args.inflow.now c.args.log.hatches c.args.log.litres (omega (arith, fits (goal.at.slice_bounds-table-end c).Start, length-replicate {A = ℕ} (table_room inflow_kind) 0)) c.fill_table-length.ensures,
      length-replicate {A = ℕ} (table_room inflow_kind) 0,
    )

pub slice_bounds-run_to-end : goal.slice_bounds-run_to-end
slice_bounds-run_to-end c =
    taken_long {size = table_room inflow_kind} _ (omega (arith, fits (goal.at.slice_bounds-run_to-end c).Start, table_next c.args.inflow.now c.args.log.hatches c.args.log.litres c.fill_table-length.ensures))
    (table-room c.args.inflow.now c.args.log.hatches c.args.log.litres (omega (arith, fits (goal.at.slice_bounds-run_to-end c).Start, length-replicate {A = ℕ} (table_room inflow_kind) 0)) c.fill_table-length.ensures)

pub keep_made-requires : goal.keep_made-requires
keep_made-requires c =
    let k = slots_are (P (goal.at.keep_made-requires c).Start) c.args.records.now c.record_size.ensures c.slots_in-slots.ensures in
    (nine (goal.at.keep_made-requires c).Start, λ l. omega (arith, k, run_newest _ _ _ _ c.run_to-ran.ensures.ends l), omega (arith, k, (entered (goal.at.keep_made-requires c).Start).lent.room))

pub rates_with-written-requires : goal.rates_with-written-requires
rates_with-written-requires c = rate_number _ _ _ _ _ (entered (goal.at.rates_with-written-requires c).Start).line

pub overflow_add-log : goal.overflow_add-log
overflow_add-log c = omega (arith, run_few _ _ _ _ c.run_to-ran.ensures.ends, (entered (goal.at.overflow_add-log c).Start).steps_few, rate_clock _ _ _ _ _ (entered (goal.at.overflow_add-log c).Start).line)

pub returns : goal.returns
returns c =
    rate_done (P (goal.at.returns c).Start) (G (goal.at.returns c).Start) (E (goal.at.returns c).Start) c.args.clock c.args.number c.args.rate
    (c.run_to-ran.ensures.ends
    ∙ ap
    (λ (t : List ℕ). run_to (P (goal.at.returns c).Start) (given (G (goal.at.returns c).Start).lie (G (goal.at.returns c).Start).rain t) c.args.clock (world c.args.depths.now c.args.lasts.now c.args.records.now c.args.log.run))
    (table_is c.args.inflow.now c.args.log.hatches c.args.log.litres c.fill_table-length.ensures))
    (slots_are (P (goal.at.returns c).Start) c.args.records.now c.record_size.ensures c.slots_in-slots.ensures) c.keep_made.ensures
    c.rates_with-written.ensures c.further.ensures
