-- Laws of a line's refusals: what holds of what is lent, and of a line, where none applies.
-- Assumes nothing.
use mathlib.Core.Path.{◌≡◌, sym, ap, ap₂, ◌∙◌}
use mathlib.Core.Bool.{Bool, true}
use mathlib.Core.List.{List, []}
use Prim.Native.Nat.{ℕ, ◌+◌, ◌≤◌}
use native.Mathlib.Omega.{arith}
use lib.Dec.{leb}
use lib.ListN.{length, length-append}
use borrow.Author.Tests.{leb-true, eqb-true}
use Rattle.reckon.specs.Tests.{refusal}
use Rattle.reckon.specs.Ranges.{last_clock}
use Rattle.reckon.specs.Tables.{inflow_kind, table_room}
use Rattle.reckon.proofs.TestLaws.{every_each, refusal_passed}
use Rattle.trials.specs.Ring.{slots_in}
use Rattle.grid.specs.Squares.{ShapeInRange, squares}
use Rattle.grid.proofs.SquareLaws.{ranges_of_fine}
use Rattle.rule.specs.declared.rules.Rules.{Rules}
use Rattle.ledger.specs.Runs.{Plan, plan}
use Rattle.ledger.specs.Flows.{shut}
use Rattle.ledger.specs.Record.{record_size, room_slots}
use Rattle.ledger.specs.Checks.{one_each}
use Rattle.checks.specs.Given.{Given}
use Rattle.programs.specs.Program.{program_squares}
use Rattle.hatches.specs.Log.{Evening, most_hatches, is_named, hatch_rows, table_with, line_fine, lent_fine, draw_fine, standing_fine, kept_fine, entry_refusals}
use Rattle.hatches.specs.declared.lines.Entry.{Entry}
use Rattle.hatches.specs.declared.lines.Entry.TheVariants.{Hatch, Rate, Back}
use Rattle.hatches.specs.declared.log.Log.{Log}

-- ---- what is lent

pub record Lent (p : Plan) (depths records began : List ℕ) : Type 0 where
  pub shape : ShapeInRange p.shape
  pub few : squares p.shape ≤ program_squares
  pub marks_long : length p.marks ≡ squares p.shape
  pub depths_long : length depths ≡ squares p.shape
  pub room : room_slots p records ≤ slots_in most_hatches (length began)

pub lent_is : (p : Plan) (depths records began : List ℕ) → lent_fine p depths records began ≡ true → Lent p depths records began
unfolding lent_fine one_each
lent_is p depths records began e =
    let t = every_each _ e in
    record {
      shape = ranges_of_fine _ t.0;
      few = leb-true _ _ t.1.0;
      marks_long = eqb-true _ _ t.1.1.0;
      depths_long = eqb-true _ _ t.1.1.1.0;
      room = leb-true _ _ t.1.1.1.1.0;
    }

-- the slots, as they are counted
pub slots-judged :
    (p : Plan) (records began : List ℕ) {size a b : ℕ} → size ≡ record_size (plan p.shape []) → a ≡ slots_in size (length records) →
    b ≡ slots_in most_hatches (length began) → leb (room_slots p records) (slots_in most_hatches (length began)) ≡ leb a b
unfolding room_slots
slots-judged p records began e f g = sym (ap₂ leb (f ∙ ap (λ (n : ℕ). slots_in n (length records)) e) g)

pub slots_are : (p : Plan) (records : List ℕ) {size a : ℕ} → size ≡ record_size (plan p.shape []) → a ≡ slots_in size (length records) → a ≡ room_slots p records
unfolding room_slots
slots_are p records e f = f ∙ ap (λ (n : ℕ). slots_in n (length records)) e

-- ---- the table with the hatches

module _ (inflow : List ℕ) (log : Log) where
  same_table : length (table_with inflow log.hatches log.litres) ≡ length inflow + length (hatch_rows log.hatches log.litres)
  same_table = length-append inflow (hatch_rows log.hatches log.litres)

  pub table_judged : (more : ℕ) {r : Bool} → r ≡ leb (length inflow + length (hatch_rows log.hatches log.litres) + more) (table_room inflow_kind) →
      leb (length (table_with inflow log.hatches log.litres) + more) (table_room inflow_kind) ≡ r
  table_judged more e = sym (e ∙ ap (λ (n : ℕ). leb (n + more) (table_room inflow_kind)) (sym same_table))

  pub table_judged_as : {r : Bool} → r ≡ leb (length inflow + length (hatch_rows log.hatches log.litres) + 0) (table_room inflow_kind) →
      leb (length (table_with inflow log.hatches log.litres)) (table_room inflow_kind) ≡ r
  table_judged_as e =
      let z : length inflow + length (hatch_rows log.hatches log.litres) + 0 ≡ length (table_with inflow log.hatches log.litres) = omega (arith, same_table) in
      sym (e ∙ ap (λ (n : ℕ). leb n (table_room inflow_kind)) z)

-- ---- the square of a hatch

pub closed_at : (p : Plan) {at square : ℕ} {closed b : Bool} → at ≡ square → closed ≡ shut p at → closed ≡ b → shut p square ≡ b
closed_at p e h k = ap (shut p) (sym e) ∙ (sym h ∙ k)

-- ---- a line that is not refused before its steps

module _ (p : Plan) (g : Given) (e : Evening) where
  pub record Entered (entry : Entry) : Type 0 where
    pub line : line_fine g.lie.rules e.log entry ≡ true
    pub lent : Lent p e.depths e.records e.began
    pub draw : draw_fine p g.inflow e.log entry ≡ true
    pub steps_few : e.log.steps ≤ e.log.run.clock
    pub kept : kept_fine e.log entry ≡ true

  pub entered_is : (entry : Entry) → refusal (entry_refusals p g e entry) ≡ 0 → Entered entry
  unfolding entry_refusals standing_fine
  entered_is entry z =
      let rows = refusal_passed _ tt z in
      let stands = every_each _ rows.1.1.1.0 in
      record {
        line = rows.0;
        lent = lent_is _ _ _ _ rows.1.0;
        draw = rows.1.1.0;
        steps_few = leb-true _ _ stands.1.0;
        kept = rows.1.1.1.1.0;
      }

  pub entered_back : {entry : Entry} {count : ℕ} → refusal (entry_refusals p g e entry) ≡ 0 → entry ≡ Back count →
      ((ShapeInRange p.shape) × (room_slots p e.records ≤ slots_in most_hatches (length e.began))) ×
      ((standing_fine e.log ≡ true) × (kept_fine e.log (Back count) ≡ true))
  unfolding entry_refusals
  entered_back z h =
      let rows = refusal_passed _ tt z in
      let lent = lent_is _ _ _ _ rows.1.0 in
      ((lent.shape, lent.room), (rows.1.1.1.0, ap (kept_fine e.log) (sym h) ∙ rows.1.1.1.1.0))

pub standing_is : (log : Log) → standing_fine log ≡ true → (log.run.kept ≤ log.steps) × (log.steps ≤ log.run.clock)
unfolding standing_fine
standing_is log e = let t = every_each _ e in (leb-true _ _ t.0, leb-true _ _ t.1.0)

module _ (r : Rules) (log : Log) where
  -- a hatch's number, and a rate's with its clock
  pub hatch_number : (n row column : ℕ) → line_fine r log (Hatch n row column) ≡ true → (1 ≤ n) × (n ≤ most_hatches)
  unfolding line_fine
  hatch_number n row column e =
      let t = every_each _ (every_each _ e).1.0 in
      (leb-true _ _ t.0, leb-true _ _ t.1.0)

  pub rate_number : (clock n litres : ℕ) → line_fine r log (Rate clock n litres) ≡ true → (1 ≤ n) × (n ≤ most_hatches)
  unfolding line_fine is_named
  rate_number clock n litres e =
      let t = every_each _ (every_each _ e).0 in
      (leb-true _ _ t.0, leb-true _ _ t.1.0)

  pub rate_clock : (clock n litres : ℕ) → line_fine r log (Rate clock n litres) ≡ true → (clock ≤ last_clock) × (log.run.clock ≤ clock)
  unfolding line_fine
  rate_clock clock n litres e =
      let t = every_each _ e in
      (leb-true _ _ t.1.1.0, leb-true _ _ t.1.1.1.0)

module _ (p : Plan) (inflow : List ℕ) (log : Log) where
  pub rate_table : (clock n litres : ℕ) → draw_fine p inflow log (Rate clock n litres) ≡ true →
      length inflow + length (hatch_rows log.hatches log.litres) ≤ table_room inflow_kind
  unfolding draw_fine
  rate_table clock n litres e =
      let fits : length (table_with inflow log.hatches log.litres) ≤ table_room inflow_kind = leb-true _ _ (every_each _ e).1.0 in
      omega (arith, length-append inflow (hatch_rows log.hatches log.litres))

pub back_kept : (log : Log) (count : ℕ) → kept_fine log (Back count) ≡ true → count ≤ log.run.kept
unfolding kept_fine
back_kept log count e = leb-true _ _ e
