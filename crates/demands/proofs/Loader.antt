-- The demands hold of the loader: its table is read row by row; a line that is found stands in the text as it would be written, its letter
-- too; rooms are filled but at closed squares.
-- Assumes nothing.
use mathlib.Core.Path.{◌≡◌, refl, sym, ap, ◌∙◌}
use mathlib.Core.Bool.{Bool, true, false}
use mathlib.Core.List.{List, [], ◌∷◌, ◌++◌}
use Prim.Native.Nat.{ℕ, zero, suc, ◌+◌, ◌/◌, ◌%◌, ◌≤◌, ◌<◌}
use native.Mathlib.Decide.{dec_lt}
use native.Mathlib.Omega.{arith}
use lib.Dec.{eqb}
use lib.ListN.{length, get_or, drop, get_or-eq_default}
use borrow.Author.Tests.{eq-eqb, ne_eqb, eqb-true, le-leb, lt-leb, leb-true}
use Rattle.reckon.specs.Tests.{pick, Row, ◌unless◌, refusal}
use Rattle.reckon.specs.Lists.{filled}
use Rattle.reckon.proofs.TestLaws.{not_both, pick_true, pick_false, failing_before}
use Rattle.reckon.proofs.ListLaws.{length-filled, filled_in, filled_past, filled_skipped}
use Rattle.grid.specs.Squares.{squares}
use Rattle.grid.specs.Marks.{closed}
use Rattle.checks.specs.Refusals.{check_refusals}
use Rattle.text.specs.Reading.{line_from}
use Rattle.text.proofs.LineLaws.{line_add}
use Rattle.sheet.specs.Lines.{x_letter, letter_of, line_head}
use Rattle.sheet.specs.Sheet.{Rooms, Reads, has_one, has_cell, cell_from, cells_at, cells_read, closed_from, cells_filled, rooms_filled, rooms_after, line_one, shape_of, rooms_fine, bad_line, checks_in, checks_of, heading_of, judged, sheet_of}
use Rattle.programs.specs.Program.{ended_text, run_text, meadow_text, sheet_text}
use Rattle.sheet.specs.declared.reading.Heading.{Heading}
use Rattle.sheet.specs.declared.reading.Sheet.{Sheet}
use Rattle.sheet.specs.declared.reading.Sheet.TheVariants.{Read, Refused}
use Rattle.sheet.proofs.SheetLaws.{rooms_cells}
use Rattle.sheet.proofs.NumberLaws.{never_one, never_six}
use Rattle.exports.specs.Sheets.{sheet_number, sheet_line}
use Rattle.demands.specs.Table.{rows_between}
use Rattle.demands.specs.Loader.{end_refusals, sheet_refusals, SheetSays, MeadowSays, LoaderRefuses, line_start, MarksAreLetters, ClosedLeft, AsLong, LoaderWalls}
use Rattle.demands.proofs.Table.{table_says}
use Rattle.sheet.proofs.LetterLaws.{cell_headed}

-- ---- the number and the line of a sheet

-- a table of rows 1 to 6 that gives neither 1 nor 6 gives what its rows 2 to 5 give
abbrev table : Bool → Bool → Bool → Bool → Bool → Bool → ℕ
table a b c d e n = refusal (1 unless a ∷ 2 unless b ∷ 3 unless c ∷ 4 unless d ∷ 5 unless e ∷ 6 unless n ∷ [])

two_to_five : (a b c d e n : Bool) → (table a b c d e n ≡ 1 → ⊥) → (table a b c d e n ≡ 6 → ⊥) →
    table a b c d e n ≡ refusal (2 unless b ∷ 3 unless c ∷ 4 unless d ∷ 5 unless e ∷ [])
unfolding refusal pick
two_to_five false b c d e n f g = absurd (f refl)
two_to_five true false c d e n f g = refl
two_to_five true true false d e n f g = refl
two_to_five true true true false e n f g = refl
two_to_five true true true true false n f g = refl
two_to_five true true true true true false f g = absurd (g refl)
two_to_five true true true true true true f g = refl

module _ (s : List ℕ) (lent : Rooms) where
  checks_are : rooms_fine (shape_of s) (line_one s).side lent ≡ true → checks_of s ≡ refusal (rows_between 2 5 (end_refusals s))
  unfolding checks_in check_refusals
  checks_are f = two_to_five _ _ _ _ _ _ (never_one s lent f) (never_six s lent f)

  -- the answer by its three tests and two numbers
  abbrev answer : Bool → Bool → ℕ → ℕ → Sheet
  answer first rooms_good bad check = pick first (pick rooms_good (judged bad check (heading_of s)) (Refused 1 0)) (Refused 12 1)

  number_by : (first rooms_good : Bool) (bad check : ℕ) (rows : List Row) → (rooms_good ≡ true → check ≡ refusal rows) →
      sheet_number (answer first rooms_good bad check) ≡ refusal (12 unless first ∷ 1 unless rooms_good ∷ 12 unless eqb bad 0 ∷ rows)
  unfolding sheet_number judged pick refusal
  number_by false rooms_good bad check rows q = refl
  number_by true false bad check rows q = refl
  number_by true true (suc bad) check rows q = sym (pick_false (refusal rows) 12 (ne_eqb (suc bad) 0 (λ z. omega (arith, z))))
  number_by true true zero zero rows q = q refl
  number_by true true zero (suc check) rows q = q refl

  pub sheet-number : sheet_number (sheet_of s lent) ≡ refusal (sheet_refusals s lent)
  unfolding sheet_of
  sheet-number = number_by (has_one s) (rooms_fine (shape_of s) (line_one s).side lent) (bad_line s) (checks_of s) _ checks_are

  read_by : (first rooms_good : Bool) (bad check : ℕ) → sheet_number (answer first rooms_good bad check) ≡ 0 → answer first rooms_good bad check ≡ Read (heading_of s)
  unfolding sheet_number judged pick
  read_by false rooms_good bad check z = absurd (omega (arith, z))
  read_by true false bad check z = absurd (omega (arith, z))
  read_by true true (suc bad) check z = absurd (omega (arith, z))
  read_by true true zero zero z = refl
  read_by true true zero (suc check) z = absurd (omega (arith, z))

  -- no number is that of a sheet that is read
  pub sheet_read : sheet_number (sheet_of s lent) ≡ 0 → sheet_of s lent ≡ Read (heading_of s)
  unfolding sheet_of
  sheet_read z = read_by (has_one s) (rooms_fine (shape_of s) (line_one s).side lent) (bad_line s) (checks_of s) z

  line_first : (first rooms_good : Bool) (bad check : ℕ) → first ≡ false → sheet_line (answer first rooms_good bad check) ≡ 1
  unfolding sheet_line pick
  line_first false rooms_good bad check e = refl
  line_first true rooms_good bad check e = not_both refl e

  line_later : (first rooms_good : Bool) (bad check : ℕ) → (rooms_good ≡ true → check ≡ 12 → ⊥) → first ≡ true → sheet_number (answer first rooms_good bad check) ≡ 12 →
      sheet_line (answer first rooms_good bad check) ≡ bad
  unfolding sheet_line sheet_number judged pick
  line_later false rooms_good bad check g e n = not_both e refl
  line_later true false bad check g e n = absurd (omega (arith, n))
  line_later true true (suc bad) check g e n = refl
  line_later true true zero zero g e n = absurd (omega (arith, n))
  line_later true true zero (suc check) g e n = absurd (g refl n)

  line_none : (first rooms_good : Bool) (bad check : ℕ) → (sheet_number (answer first rooms_good bad check) ≡ 12 → ⊥) → sheet_line (answer first rooms_good bad check) ≡ 0
  unfolding sheet_line sheet_number judged pick
  line_none false rooms_good bad check n = absurd (n refl)
  line_none true false bad check n = refl
  line_none true true (suc bad) check n = absurd (n refl)
  line_none true true zero zero n = refl
  line_none true true zero (suc check) n = refl

  -- rows 2 to 5 do not give 12
  never_twelve : (b c d e : Bool) → refusal (2 unless b ∷ 3 unless c ∷ 4 unless d ∷ 5 unless e ∷ []) ≡ 12 → ⊥
  unfolding refusal pick
  never_twelve false c d e q = omega (arith, q)
  never_twelve true false d e q = omega (arith, q)
  never_twelve true true false e q = omega (arith, q)
  never_twelve true true true false q = omega (arith, q)
  never_twelve true true true true q = omega (arith, q)

  checks_small : rooms_fine (shape_of s) (line_one s).side lent ≡ true → checks_of s ≡ 12 → ⊥
  unfolding check_refusals
  checks_small f q = never_twelve _ _ _ _ (sym (checks_are f) ∙ q)

  sheet_says : SheetSays s lent (sheet_number (sheet_of s lent)) (sheet_line (sheet_of s lent))
  unfolding sheet_of check_refusals
  sheet_says =
      record {
        number_is = rw sheet-number (table_says _ tt);
        first_line = line_first _ _ _ _;
        other_line = line_later _ _ _ _ checks_small;
        no_line = line_none _ _ _ _;
      }

-- ---- what `meadow` prints

module _ (s : List ℕ) where
  meadow_says : MeadowSays s
  unfolding meadow_text sheet_text run_text ended_text
  meadow_says =
      record {
        too_long = λ l. pick_false _ _ (lt-leb _ _ l);
        not-read = λ l number line e. pick_true _ _ (le-leb _ _ l) ∙ ap (sheet_text s) e;
        run-refused = λ l h e d. pick_true _ _ (le-leb _ _ l) ∙ (ap (sheet_text s) e ∙ pick_false _ _ (ne_eqb _ _ d));
        run_made = λ l h e z. pick_true _ _ (le-leb _ _ l) ∙ (ap (sheet_text s) e ∙ pick_true _ _ (eq-eqb _ _ z));
      }

pub loader_refuses : LoaderRefuses
unfolding rooms_after
loader_refuses =
    record {
      exactly_when = sheet_says;
      printed = meadow_says;
      leaves = λ s before after number line x. x.rooms_are;
    }

-- ---- a sheet that is read

module _ (s : List ℕ) (before after : Rooms) (h : Heading) (R : Reads s before (Read h) after) where
  -- the tests that it passed
  record Passes : Type 0 where
    rooms_good : rooms_fine (shape_of s) (line_one s).side before ≡ true
    text_good : bad_line s ≡ 0
    heading : h ≡ heading_of s

  passes : Passes
  unfolding sheet_of judged pick
  passes = go (has_one s) (rooms_fine (shape_of s) (line_one s).side before) (bad_line s) (checks_of s) refl refl R.answer
    where
      never : {number line : ℕ} → Read h ≡ Refused number line → Passes
      never e = absurd (let z : ◌≡◌ {A = ℕ} 0 1 = cc in omega arith)

      go : (first rooms_good : Bool) (bad check : ℕ) → rooms_fine (shape_of s) (line_one s).side before ≡ rooms_good → bad_line s ≡ bad →
          Read h ≡ answer s before first rooms_good bad check → Passes
      go false rooms_good bad check e f q = never q
      go true false bad check e f q = never q
      go true true (suc bad) check e f q = never q
      go true true zero (suc check) e f q = never q
      go true true zero zero e f q = record { rooms_good = e; text_good = f; heading = cc }

  shape_is : h.shape ≡ shape_of s
  unfolding heading_of
  shape_is = ap (λ (z : Heading). z.shape) passes.heading

  abbrev n : ℕ
  n = squares (shape_of s)

  -- the second row of three passes where none applies
  second : (a b c : Bool) (j k : ℕ) → refusal (2 unless a ∷ (j + 3) unless b ∷ (k + 3) unless c ∷ []) ≡ 0 → b ≡ true
  unfolding refusal pick
  second false b c j k q = absurd (omega (arith, q))
  second true false c j k q = absurd (omega (arith, q))
  second true true c j k q = refl

  found : (i : ℕ) → i < n → has_cell s (cells_at s) (shape_of s).columns i ≡ true
  unfolding bad_line cells_read
  found i l =
      let all = leb-true n _ (second _ _ _ _ _ passes.text_good) in
      failing_before n (has_cell s (cells_at s) (shape_of s).columns) i (omega (arith, all))

  good_marks : n ≤ length before.cells.marks
  good_marks = (rooms_cells (shape_of s) (line_one s).side before passes.rooms_good).0

  mark_is : (i : ℕ) → i < n → get_or after.cells.marks i 0 ≡ (cell_from s (cells_at s) (shape_of s).columns i).mark
  unfolding rooms_after rooms_filled cells_filled
  mark_is i l = ap (λ (z : Rooms). get_or z.cells.marks i 0) R.rooms_are ∙ filled_in n _ _ before.cells.marks i (omega (arith, good_marks)) l refl

  marks_are_letters : MarksAreLetters s h.shape after.cells.marks
  unfolding closed letter_of
  marks_are_letters =
      record {
        spelled = λ i l. rw shape_is (spelled i (rw (← shape_is) l));
        x_is_closed = λ i l e. eq-eqb _ _ (only_x (get_or after.cells.marks i 0) e);
        closed_is_x = λ i l e. ap letter_of (eqb-true (get_or after.cells.marks i 0) 0 e);
      }
    where
      only_x : (mark : ℕ) → letter_of mark ≡ x_letter → mark ≡ 0
      only_x zero e = refl
      only_x (suc zero) e = absurd (omega (arith, e))
      only_x (suc (suc zero)) e = absurd (omega (arith, e))
      only_x (suc (suc (suc mark))) e = absurd (omega (arith, e))

      spelled : (i : ℕ) → i < n →
          drop (line_start s i) s
          ≡ line_head (i / (shape_of s).columns) (i % (shape_of s).columns) (get_or after.cells.marks i 0) ++ drop (line_start s i + length (line_head (i / (shape_of s).columns) (i % (shape_of s).columns) (get_or after.cells.marks i 0))) s
      spelled i l =
          rw (mark_is i l, ← line_add s 0 2 i)
          (cell_headed s (line_from s (cells_at s) i) (i / (shape_of s).columns) (i % (shape_of s).columns) (found i l))

  -- a room filled but at closed squares
  left_alone : (f : ℕ → ℕ) (old new : List ℕ) → new ≡ filled n (closed_from s (cells_at s) (shape_of s).columns) f old → (i : ℕ) →
      closed after.cells.marks i ≡ true → get_or new i 0 ≡ get_or old i 0
  unfolding closed
  left_alone f old new e i c = ap (λ (l : List ℕ). get_or l i 0) e ∙ go (dec_lt i (length old)) (dec_lt i n)
    where
      skipped : ℕ → Bool
      skipped = closed_from s (cells_at s) (shape_of s).columns

      go : Dec (i < length old) → Dec (i < n) → get_or (filled n skipped f old) i 0 ≡ get_or old i 0
      go (no l) m =
          get_or-eq_default (filled n skipped f old) 0 (omega (arith, length-filled n skipped f old))
          ∙ sym (get_or-eq_default old 0 (omega arith))
      go (yes l) (no m) = filled_past n skipped f old i l (omega arith)
      go (yes l) (yes m) = filled_skipped n skipped f old i l (ap (λ (k : ℕ). eqb k 0) (sym (mark_is i m)) ∙ c)

  closed-left : ClosedLeft before.cells after.cells
  unfolding rooms_after rooms_filled cells_filled
  closed-left =
      record {
        beds = left_alone _ before.cells.beds _ (ap (λ (z : Rooms). z.cells.beds) R.rooms_are);
        roughness = left_alone _ before.cells.roughness _ (ap (λ (z : Rooms). z.cells.roughness) R.rooms_are);
        rates = left_alone _ before.cells.rates _ (ap (λ (z : Rooms). z.cells.rates) R.rooms_are);
        depths = left_alone _ before.cells.depths _ (ap (λ (z : Rooms). z.cells.depths) R.rooms_are);
      }

pub sheet_alike : (s : List ℕ) (a b : Rooms) → AsLong a b → sheet_of s a ≡ sheet_of s b
unfolding sheet_of rooms_fine
sheet_alike s a b l = rw (l.marks, l.beds, l.roughness, l.rates, l.depths, l.rain, l.inflow)

pub loader_walls : LoaderWalls
loader_walls = record { letters = marks_are_letters; none_altered = closed-left; none_depends = sheet_alike }
