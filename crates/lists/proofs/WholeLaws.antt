-- A whole list worked from the texts of its sheets.
-- Assumes nothing.
use mathlib.Core.Path.{◌≡◌, refl, ap, ap₂, ◌∙◌}
use mathlib.Core.Bool.{Bool, true, false, ◌||◌}
use mathlib.Core.List.{List, [], ◌∷◌, ◌++◌}
use Prim.Native.Nat.{ℕ, suc, ◌/◌, ◌%◌}
use lib.Dec.{eqb}
use lib.ListN.{length}
use Rattle.reckon.specs.Tests.{pick, every, all_below, first_failing, refusal}
use Rattle.reckon.specs.Lists.{tabulate, filled, joined, placed, sum_below}
use Rattle.reckon.specs.Ranges.{water_fine, side_fine, rate_fine}
use Rattle.reckon.specs.Roots.{root_from, root_of}
use Rattle.reckon.specs.Soaking.{soak_by, soak_due}
use Rattle.reckon.specs.Tables.{row_gives, table_gives, rain_by, on_square, inflow_by, row_fine, table_fine}
use Rattle.trials.specs.Ring.{slot_after, slot_before, ring_fine}
use Rattle.trials.specs.Room.{record_in}
use Rattle.grid.specs.Squares.{beside, opposite, on_rim, shape_fine}
use Rattle.grid.specs.Marks.{closed, exit, mark_fine, marks_fine, inflow_square_fine, inflow_squares_fine}
use Rattle.rule.specs.Drops.{drop_off}
use Rattle.rule.specs.Length.{candidate, counts, side_candidates, candidates_of, least_from, held_between, fresh_length, is_update, length_at, duration_for}
use Rattle.rule.specs.Rules.{ground_fine, rules_fine}
use Rattle.rule.specs.Weighing.{lesser_positive, least_drop, greatest_drop, drop_sum, height_of, slope_of, critical_speed, manning_speed, speed_of, most_through, total_of, through_sides, nothing_unless, weighted_sides, directed_amount, directed_amounts, scaled_to, directed_sides, unlimited_total, unlimited_sides, weighed}
use Rattle.ledger.specs.Runs.{run_fine, run_values_fine}
use Rattle.ledger.specs.Flows.{gone, sent, came, off_side, off_square, off_grid, soaked_square, soaked_grid}
use Rattle.ledger.specs.Record.{leaves_in, last_in, added_in, soaked_in, square_record, record_of, room_slots, newest_record}
use Rattle.ledger.specs.After.{remains, new_depth, depths_fit, new_outflow, new_soaked, late_refusals, step_record, world_after}
use Rattle.ledger.specs.Checks.{one_each, waters_fine, times_fine}
use Rattle.adding.specs.Added.{added_for}
use Rattle.moves.specs.Drops.{side_drop, drops_of}
use Rattle.moves.specs.Moves.{square_candidates, candidates, leaves_for, soaked_for, step_length, step_duration}
use Rattle.checks.specs.Refusals.{square_ground_fine, grounds_fine, end_fine, check_refusals}
use Rattle.flood.specs.Step.{step_number, stepped}
use Rattle.checks.specs.Fresh.{fresh_run}
use Rattle.flood.specs.Run.{go_on, run_from, run_to}
use Rattle.text.specs.Reading.{is_byte, word_at, is_digit, digits_of, value_from, well_formed, number_from, number_at, field_at, before, read_fields, line_ended, read_rest, read_line, padded, as_fields, line_length, next_line, line_from}
use Rattle.sheet.specs.Lines.{as_grid, grid_line, as_run, run_line, closed_cell, as_open, open_cell, marked_cell, placed_cell, cell_line}
use Rattle.sheet.specs.Sheet.{cells_read, rows_read, table_rows, bad_line, cells_filled, rooms_filled, rooms_fine, checks_in, heading_of, judged, sheet_of}
use Rattle.text.specs.Bytes.{bytes_of}
use Rattle.ledger.specs.Runs.{Plan, plan}
use Rattle.ledger.specs.Flows.{shut}
use Rattle.grid.specs.Squares.{squares}
use Rattle.reckon.proofs.TestLaws.{pick_true, pick_false, pick_same}
use borrow.Author.Tests.{eq-eqb, ne_eqb}
use native.Mathlib.Omega.{arith}
use Rattle.flood.specs.Run.{steps_on}
use Rattle.reckon.specs.Most.{most_over}
use Rattle.peaks.specs.Peaks.{peak_of, peaks_over}
use Rattle.programs.specs.Reading.{sheet_within}
use Rattle.lists.specs.Sheets.{File, same_marks, same_plan, sheet_number, file_number, file_plan, sheet_peaks, file_peaks}
use Rattle.lists.specs.Sheets.File.{not_opened, holds}
use Rattle.lists.specs.Drowned.{Accepted, accepted, no_plan, begun_with, plan_with, drowned, deepest_of, first_with, first_gave, numbers_from, plan_from, accepted_from, numbers_text, refused_line, refused_lines, refused_many, numbers_of, first_plan, sheets_run, drowned_line, drowned_text}
use Rattle.lists.specs.Worked.{shallow, bank, deep, whole_list, whole_text}
use Rattle.text.specs.Writing.{digits_in, decimal, field_text, fields_text, rest_text}

-- ---- name after name

-- what the document tells of names from a place on: their numbers, the plan at their end, and the accepted ones
record From (begun : Bool) (q : Plan) (place : ℕ) (files : List File) (numbers : List ℕ) (p : Plan) (sheets : List Accepted) : Type 0 where
  numbers_are : numbers_from begun q files ≡ numbers
  plan_is : plan_from begun q files ≡ p
  sheets_are : accepted_from place begun q files ≡ sheets

from_none : (begun : Bool) (q : Plan) (place : ℕ) → From begun q place [] [] q []
unfolding numbers_from plan_from accepted_from
from_none begun q place = record { numbers_are = refl; plan_is = refl; sheets_are = refl }

module _ {begun : Bool} {q : Plan} {place : ℕ} {f : File} {rest : List File} {numbers : List ℕ} {p : Plan} {sheets : List Accepted} where
  from_refused :
      {n : ℕ} → file_number begun q f ≡ suc n → From begun q (suc place) rest numbers p sheets →
      From begun q place (f ∷ rest) (suc n ∷ numbers) p sheets
  unfolding numbers_from plan_from accepted_from
  from_refused {n} e later =
      record {
        numbers_are = ap₂ ◌∷◌ e (ap₂ (λ (b : Bool) (x : Plan). numbers_from b x rest) begun_is plan-kept ∙ later.numbers_are);
        plan_is = ap₂ (λ (b : Bool) (x : Plan). plan_from b x rest) begun_is plan-kept ∙ later.plan_is;
        sheets_are =
            pick_false _ _ not_zero
            ∙ (ap₂ (λ (b : Bool) (x : Plan). accepted_from (suc place) b x rest) begun_is plan-kept ∙ later.sheets_are);
      }
    where
      not_zero : eqb (file_number begun q f) 0 ≡ false
      not_zero = ne_eqb (file_number begun q f) 0 (λ z. omega (arith, z, e))

      or_none : (b : Bool) → (b || false) ≡ b
      or_none true = refl
      or_none false = refl

      begun_is : begun_with begun q f ≡ begun
      begun_is = ap (λ (c : Bool). begun || c) not_zero ∙ or_none begun

      plan-kept : plan_with begun q f ≡ q
      plan-kept = ap (λ (x : Plan). pick begun q x) (pick_false _ _ not_zero) ∙ pick_same begun q

  from_accepted :
      {q' : Plan} → file_number begun q f ≡ 0 → pick begun q (file_plan f) ≡ q' → From true q' (suc place) rest numbers p sheets →
      From begun q place (f ∷ rest) (0 ∷ numbers) p (accepted place (file_peaks f) ∷ sheets)
  unfolding numbers_from plan_from accepted_from
  from_accepted {q'} e g later =
      record {
        numbers_are = ap₂ ◌∷◌ e (ap₂ (λ (b : Bool) (x : Plan). numbers_from b x rest) begun_is plan-now ∙ later.numbers_are);
        plan_is = ap₂ (λ (b : Bool) (x : Plan). plan_from b x rest) begun_is plan-now ∙ later.plan_is;
        sheets_are =
            pick_true _ _ is_zero
            ∙ ap (λ (l : List Accepted). accepted place (file_peaks f) ∷ l)
            (ap₂ (λ (b : Bool) (x : Plan). accepted_from (suc place) b x rest) begun_is plan-now ∙ later.sheets_are);
      }
    where
      is_zero : eqb (file_number begun q f) 0 ≡ true
      is_zero = eq-eqb (file_number begun q f) 0 e

      or_all : (b : Bool) → (b || true) ≡ true
      or_all true = refl
      or_all false = refl

      begun_is : begun_with begun q f ≡ true
      begun_is = ap (λ (c : Bool). begun || c) is_zero ∙ or_all begun

      plan-now : plan_with begun q f ≡ q'
      plan-now = ap (λ (x : Plan). pick begun q x) (pick_true _ _ is_zero) ∙ g

-- ---- what is printed goes by these three

abbrev line_by : Plan → List Accepted → ℕ → List ℕ
line_by p sheets i =
    pick (shut p i) []
    (numbers_text (i / p.shape.columns ∷ i % p.shape.columns ∷ drowned i 10_000 sheets ∷ deepest_of i sheets ∷ first_gave i sheets ∷ []))

abbrev text_by : List ℕ → Plan → List Accepted → List ℕ
text_by numbers p sheets =
    joined (squares p.shape) (line_by p sheets) ++ (numbers_text (length sheets ∷ refused_many numbers ∷ []) ++ refused_lines 1 numbers)

text_is : (files : List File) → drowned_text 10_000 files ≡ text_by (numbers_of 10_000 files) (first_plan 10_000 files) (sheets_run 10_000 files)
unfolding drowned_text drowned_line
text_is files = refl

text-by :
    (files : List File) {numbers : List ℕ} {p : Plan} {sheets : List Accepted} → From false no_plan 1 files numbers p sheets →
    drowned_text 10_000 files ≡ text_by numbers p sheets
text-by files {numbers} {p} {sheets} h =
    text_is files
    ∙ (ap (λ (l : List ℕ). text_by l (first_plan 10_000 files) (sheets_run 10_000 files)) h.numbers_are
    ∙ (ap (λ (x : Plan). text_by numbers x (sheets_run 10_000 files)) h.plan_is ∙ ap (λ (l : List Accepted). text_by numbers p l) h.sheets_are))

-- ---- the sheets

-- one exit square
abbrev exit_plan : Plan
exit_plan = plan (record { rows = 1; columns = 1 }) (2 ∷ [])

record Judging : Type 0 where
  shallow_number : file_number false no_plan (holds shallow) ≡ 0
  shallow-plan : file_plan (holds shallow) ≡ exit_plan
  shallow-peaks : file_peaks (holds shallow) ≡ 10_000 ∷ []
  bank_number : file_number true exit_plan (holds bank) ≡ 14
  deep_number : file_number true exit_plan (holds deep) ≡ 0
  deep-peaks : file_peaks (holds deep) ≡ 12_000 ∷ []

judging : Judging
unfolding pick every all_below first_failing refusal tabulate filled joined placed sum_below water_fine side_fine rate_fine root_from root_of soak_by soak_due row_gives table_gives rain_by on_square inflow_by row_fine table_fine slot_after slot_before ring_fine record_in beside opposite on_rim shape_fine closed exit mark_fine marks_fine inflow_square_fine inflow_squares_fine drop_off candidate counts side_candidates candidates_of least_from held_between fresh_length is_update length_at duration_for ground_fine rules_fine lesser_positive least_drop greatest_drop drop_sum height_of slope_of critical_speed manning_speed speed_of most_through total_of through_sides nothing_unless weighted_sides directed_amount directed_amounts scaled_to directed_sides unlimited_total unlimited_sides weighed run_fine run_values_fine gone sent came off_side off_square off_grid soaked_square soaked_grid leaves_in last_in added_in soaked_in square_record record_of room_slots newest_record remains new_depth depths_fit new_outflow new_soaked late_refusals step_record world_after one_each waters_fine times_fine side_drop drops_of square_candidates candidates leaves_for soaked_for added_for step_length step_duration square_ground_fine grounds_fine end_fine check_refusals step_number stepped fresh_run go_on run_from run_to is_byte word_at is_digit digits_of value_from well_formed number_from number_at field_at before read_fields line_ended read_rest read_line padded as_fields line_length next_line line_from as_grid grid_line as_run run_line closed_cell as_open open_cell marked_cell placed_cell cell_line cells_read rows_read table_rows bad_line cells_filled rooms_filled rooms_fine checks_in heading_of judged sheet_of bytes_of steps_on most_over peak_of peaks_over sheet_within same_marks same_plan sheet_number file_number file_plan sheet_peaks file_peaks
judging =
    record {
      shallow_number = refl;
      shallow-plan = refl;
      shallow-peaks = refl;
      bank_number = refl;
      deep_number = refl;
      deep-peaks = refl;
    }

missing_number : file_number false no_plan not_opened ≡ 12
unfolding file_number
missing_number = refl

in-turn :
    From false no_plan 1 whole_list (12 ∷ 0 ∷ 14 ∷ 0 ∷ []) exit_plan
    (accepted 2 (file_peaks (holds shallow)) ∷ accepted 4 (file_peaks (holds deep)) ∷ [])
in-turn =
    from_refused missing_number
    (from_accepted judging.shallow_number (pick_false _ _ refl ∙ judging.shallow-plan)
    (from_refused judging.bank_number (from_accepted judging.deep_number (pick_true _ _ refl) (from_none true exit_plan 5))))

printed : text_by (12 ∷ 0 ∷ 14 ∷ 0 ∷ []) exit_plan (accepted 2 (10_000 ∷ []) ∷ accepted 4 (12_000 ∷ []) ∷ []) ≡ bytes_of whole_text
unfolding pick joined closed bytes_of digits_in decimal field_text fields_text rest_text drowned deepest_of first_with numbers_text refused_line refused_lines refused_many
printed = refl

pub whole-list : drowned_text 10_000 whole_list ≡ bytes_of whole_text
whole-list =
    text-by whole_list in-turn
    ∙ (ap₂ (λ (a b : List ℕ). text_by (12 ∷ 0 ∷ 14 ∷ 0 ∷ []) exit_plan (accepted 2 a ∷ accepted 4 b ∷ [])) judging.shallow-peaks judging.deep-peaks
    ∙ printed)
