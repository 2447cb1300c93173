-- A sheet that is read well, into rooms of any length, passes rows 1 to 6 of a run to its end from a fresh run: the rooms hold what the
-- sheet says at every square that is not closed.
-- Assumes nothing.
use mathlib.Core.Path.{◌≡◌, refl, sym, ap, subst, ◌∙◌}
use mathlib.Core.Bool.{Bool, false}
use mathlib.Core.List.{List}
use Prim.Native.Nat.{ℕ, ◌*◌, ◌≤◌, ◌<◌}
use native.Mathlib.Omega.{arith}
use lib.Dec.{eqb}
use lib.ListN.{length, get_or, take, replicate, length-replicate}
use lib.Seq.{ext_get_or, get_or-take, length-take-le}
use Rattle.reckon.specs.Tests.{refusal}
use Rattle.reckon.specs.Lists.{filled}
use Rattle.reckon.specs.Tables.{rain_kind, inflow_kind}
use Rattle.reckon.proofs.TestLaws.{not_both}
use Rattle.reckon.proofs.ListLaws.{length-filled, filled_in}
use Rattle.grid.specs.Squares.{squares}
use Rattle.grid.specs.Marks.{closed}
use Rattle.grid.proofs.MarkLaws.{closed_past}
use Rattle.ledger.specs.Runs.{plan, world}
use Rattle.ledger.specs.Record.{room_slots}
use Rattle.checks.specs.Given.{ground, given}
use Rattle.checks.specs.Refusals.{run_checks}
use Rattle.checks.specs.Fresh.{fresh_run}
use Rattle.text.proofs.ReadingLaws.{by_lt}
use Rattle.sheet.specs.Lines.{rain_word, inflow_word}
use Rattle.sheet.specs.Sheet.{Rooms, line_one, line_two, shape_of, cells_at, rain_at, rain_rows, inflow_at, inflow_rows, cell_from, closed_from, cells_filled, said, rooms_filled}
use Rattle.sheet.specs.declared.reading.Heading.{Heading}
use Rattle.sheet.proofs.JudgeLaws.{table_taken}
use Rattle.sheet.proofs.SheetLaws.{Well, rooms_cells}
use Rattle.sheet.proofs.RunLaws.{run_passes}

-- the numbers of squares not closed are the sheet's, whatever a room held before
module _ (n : ℕ) (skipped : ℕ → Bool) (f : ℕ → ℕ) (old other : List ℕ) (i : ℕ) (l : i < n) (k : skipped i ≡ false) where
  room_alike :
      n ≤ length old → n ≤ length other → get_or (take n (filled n skipped f old)) i 0 ≡ get_or (filled n skipped f other) i 0
  room_alike h g =
      get_or-take n (filled n skipped f old) i 0 l
      ∙ (filled_in n skipped f old i (omega arith) l k ∙ sym (filled_in n skipped f other i (omega arith) l k))

-- marks are written everywhere
marks_same :
    (n : ℕ) (f : ℕ → ℕ) (old : List ℕ) → n ≤ length old →
    take n (filled n (λ i. false) f old) ≡ filled n (λ i. false) f (replicate n 0)
marks_same n f old h =
    ext_get_or 0 _ _ (long ∙ sym (length-filled n (λ i. false) f (replicate n 0) ∙ zeros))
    (λ i l.
    room_alike n (λ j. false) f old (replicate n 0) i (omega (arith, l, long)) refl h (omega (arith, zeros)))
  where
    zeros : length (replicate {A = ℕ} n 0) ≡ n
    zeros = length-replicate n 0

    long : length (take n (filled n (λ i. false) f old)) ≡ n
    long = length-take-le n (filled n (λ i. false) f old) (omega (arith, h, length-filled n (λ i. false) f old))

-- the same of a room that skips closed squares
room_long : (n : ℕ) (skipped : ℕ → Bool) (f : ℕ → ℕ) (old : List ℕ) → n ≤ length old → length (take n (filled n skipped f old)) ≡ n
room_long n skipped f old h = length-take-le n (filled n skipped f old) (omega (arith, h, length-filled n skipped f old))

module _ (s : List ℕ) (before : Rooms) (h : Heading) (w : Well s before h) (lasts records : List ℕ) where
  -- what is asked of the last leaving and the record room, and what is then passed, where rooms hold these marks and tables
  abbrev Passes : List ℕ → List ℕ → List ℕ → Type 0
  Passes m t u =
      length lasts ≡ squares (shape_of s) → ((i : ℕ) → closed m i ≡ false → get_or lasts i 0 ≡ 0) →
      1 ≤ room_slots (plan (shape_of s) m) records →
      refusal
      (run_checks (plan (shape_of s) m)
      (given
      (ground (line_two s).rules (take (squares (shape_of s)) (rooms_filled s before).cells.beds)
      (take (squares (shape_of s)) (rooms_filled s before).cells.roughness)
      (take (squares (shape_of s)) (rooms_filled s before).cells.rates)) t u)
      (line_two s).end
      (world (take (squares (shape_of s)) (rooms_filled s before).cells.depths) lasts records
      (fresh_run (line_two s).rules (room_slots (plan (shape_of s) m) records)))) ≡ 0

  not_closed :
      (i : ℕ) → closed (said s).cells.marks i ≡ false →
      (i < squares (shape_of s)) × (closed_from s (cells_at s) (shape_of s).columns i ≡ false)
  unfolding closed cells_filled
  not_closed i k =
      let n : ℕ = squares (shape_of s) in
      let f : ℕ → ℕ = λ j. (cell_from s (cells_at s) (shape_of s).columns j).mark in
      let zeros : length (replicate {A = ℕ} n 0) ≡ n = length-replicate n 0 in
      let long : length (filled n (λ j. false) f (replicate n 0)) ≡ n = length-filled n (λ j. false) f (replicate n 0) ∙ zeros in
      by_lt i n
      (λ l. (l, sym (ap (λ (x : ℕ). eqb x 0) (filled_in n (λ j. false) f (replicate n 0) i (omega (arith, l, zeros)) l refl)) ∙ k))
      (λ l. not_both (closed_past (filled n (λ j. false) f (replicate n 0)) i (omega (arith, l, long))) k)

  said_passes : Passes (said s).cells.marks (said s).rain (said s).inflow
  unfolding cells_filled rooms_filled
  said_passes long none one =
      let n : ℕ = squares (shape_of s) in
      let cells = rooms_cells (shape_of s) (line_one s).side before w.fine in
      let zeros : length (replicate {A = ℕ} n 0) ≡ n = length-replicate n 0 in
      run_passes (shape_of s) (line_two s).rules (said s) (line_two s).end w.checks _ _ _ _ lasts records
      (record {
        beds_long = room_long n _ _ before.cells.beds cells.1;
        roughness_long = room_long n _ _ before.cells.roughness cells.2;
        rates_long = room_long n _ _ before.cells.rates cells.3;
        depths_long = room_long n _ _ before.cells.depths cells.4;
        lasts_long = long;
        beds_alike = λ i k. let o = not_closed i k in room_alike n _ _ before.cells.beds (replicate n 0) i o.0 o.1 cells.1 (omega (arith, zeros));
        roughness_alike = λ i k. let o = not_closed i k in room_alike n _ _ before.cells.roughness (replicate n 0) i o.0 o.1 cells.2 (omega (arith, zeros));
        rates_alike = λ i k. let o = not_closed i k in room_alike n _ _ before.cells.rates (replicate n 0) i o.0 o.1 cells.3 (omega (arith, zeros));
        depths_alike = λ i k. let o = not_closed i k in room_alike n _ _ before.cells.depths (replicate n 0) i o.0 o.1 cells.4 (omega (arith, zeros));
        lasts_none = none;
        slot_one = one;
      })

  pub sheet_passes :
      Passes (take (squares (shape_of s)) (rooms_filled s before).cells.marks) (take (rain_kind.width * rain_rows s) (rooms_filled s before).rain)
      (take (inflow_kind.width * inflow_rows s) (rooms_filled s before).inflow)
  unfolding cells_filled rooms_filled
  sheet_passes =
      let cells = rooms_cells (shape_of s) (line_one s).side before w.fine in
      let m = marks_same (squares (shape_of s)) _ before.cells.marks cells.0 in
      let t = table_taken s (rain_at s) rain_word rain_kind.width (omega arith) before.rain (rain_rows s) refl in
      let u = table_taken s (inflow_at s) inflow_word inflow_kind.width (omega arith) before.inflow (inflow_rows s) refl in
      subst
      (λ (x : List ℕ). Passes x (take (rain_kind.width * rain_rows s) (rooms_filled s before).rain) (take (inflow_kind.width * inflow_rows s) (rooms_filled s before).inflow))
      (sym m)
      (subst (λ (x : List ℕ). Passes (said s).cells.marks x (take (inflow_kind.width * inflow_rows s) (rooms_filled s before).inflow)) (sym t)
      (subst (λ (x : List ℕ). Passes (said s).cells.marks (said s).rain x) (sym u) said_passes))
