-- A sheet that is read is what would be written from its heading and from what the rooms hold afterwards: its lines stand one after the
-- other as they would be written, and nothing follows them.
-- Assumes nothing.
use mathlib.Core.Path.{◌≡◌, refl, sym, ap, subst, ◌∙◌}
use mathlib.Core.Bool.{Bool, true, false}
use mathlib.Core.List.{List, [], ◌∷◌, ◌++◌, append-nil}
use Prim.Native.Nat.{ℕ, ◌+◌, ◌*◌, ◌/◌, ◌%◌, ◌≤◌, ◌<◌}
use native.Mathlib.Nat.{zero-add, mul-suc, mul-le-mul_left}
use native.Mathlib.Omega.{arith}
use Rattle.std.proofs.Common.{Option, Some, None, is_some, option_map}
use lib.Dec.{eqb}
use lib.ListN.{length, get_or, drop, length-replicate, drop_of_length-le}
use lib.Seq.{get_or-take}
use borrow.Author.Tests.{leb-true}
use Rattle.reckon.specs.Tests.{pick, Row, ◌unless◌, refusal}
use Rattle.reckon.specs.Lists.{tabulate, filled, placed}
use Rattle.reckon.specs.Tables.{rain_kind, inflow_kind}
use Rattle.reckon.proofs.TestLaws.{not_both, pick_true, pick_false, failing_before}
use Rattle.reckon.proofs.ListLaws.{tabulate_ext, filled_in, placed_in, get_or-joined}
use Rattle.grid.specs.Squares.{squares}
use Rattle.grid.specs.Marks.{closed}
use Rattle.text.specs.Reading.{most_fields, line_of, next_line, line_from, LineOf}
use Rattle.text.specs.Writing.{line_text}
use Rattle.text.specs.Inner.Standing.{plain, StandsAt, LineStands}
use Rattle.text.specs.declared.reading.Fields.{Fields}
use Rattle.text.proofs.ReadingLaws.{by_test}
use Rattle.text.proofs.StandLaws.{stands_both}
use Rattle.text.proofs.LineLaws.{line_add, line-from, lines_stand}
use Rattle.text.proofs.RoundTrip.{line_found}
use Rattle.sheet.specs.Lines.{grid_word, run_word, rain_word, inflow_word, grid_fields, run_fields, as_grid, grid_line, as_run, run_line}
use Rattle.sheet.specs.Sheet.{Cells, Rooms, grid_or, run_or, fields_or, has_cell, cell_from, closed_from, cells_read, has_row, row_line, rows_read, table_rows, line_one, has_two, line_two, shape_of, cells_at, rain_at, rain_rows, rain_table, inflow_at, inflow_rows, inflow_table, after_all, bad_line, cells_filled, all_cells, no_cells, rooms_filled, said, heading_of, sheet_of, rooms_after, Reads}
use Rattle.sheet.specs.Written.{grid_written, run_written, ground_at, cell_written, row_written, lines_written, sheet_written}
use Rattle.sheet.specs.declared.lines.RunLine.{RunLine}
use Rattle.sheet.specs.declared.lines.CellLine.{CellLine}
use Rattle.sheet.specs.declared.reading.Heading.{Heading}
use Rattle.sheet.specs.declared.reading.Sheet.TheVariants.{Read}
use Rattle.sheet.proofs.KindLaws.{lined_next, row_lined, run_side}
use Rattle.sheet.proofs.LetterLaws.{first_of, ground_of, cell_stands, cell_marked}
use Rattle.sheet.proofs.ReadLaws.{plain-grid, plain-run, plain_rain, plain_inflow}
use Rattle.sheet.proofs.RoomLaws.{Within, row_long, table_long}
use Rattle.sheet.proofs.SheetLaws.{Well, well, rooms_cells, rooms-tables, rain_few, inflow_few}

-- ---- a line of a kind

row_stands :
    {f : Fields} (s : List ℕ) (p : ℕ) (word : List ℕ) (count : ℕ) → count ≤ most_fields → plain word ≡ true → LineOf s p word count (Some f) →
    StandsAt s p (line_text word (tabulate count (λ i. get_or f.values i 0))) (next_line s p)
row_stands {f} s p word count few w e =
    let a = line_found s p count few word e in
    let k : next_line s p ≡ f.next = lined_next (row_lined s p word count few w e) in
    subst (λ (q : ℕ). StandsAt s p (line_text word (tabulate count (λ i. get_or f.values i 0))) q) (sym k)
    (subst (λ (vs : List ℕ). StandsAt s p (line_text word vs) f.next) (first_of count f.values a.many) a.stands)

-- ---- what rooms hold of a sheet

-- the first squares and the first rows are those that its lines say
pub record Held (s : List ℕ) (held : Rooms) : Type 0 where
  pub mark : (i : ℕ) → i < squares (shape_of s) → get_or held.cells.marks i 0 ≡ (cell_from s (cells_at s) (shape_of s).columns i).mark
  pub ground : (i : ℕ) → i < squares (shape_of s) → ground_at held i ≡ ground_of (cell_from s (cells_at s) (shape_of s).columns i)
  pub rain : (m : ℕ) → m < rain_kind.width * rain_rows s → get_or held.rain m 0 ≡ get_or (rain_table s) m 0
  pub inflow : (m : ℕ) → m < inflow_kind.width * inflow_rows s → get_or held.inflow m 0 ≡ get_or (inflow_table s) m 0

-- a square of rooms that were filled
module _ (s : List ℕ) (old : Cells) (i : ℕ) (l : i < squares (shape_of s)) (in-old : Within i old) where
  abbrev line : CellLine
  line = cell_from s (cells_at s) (shape_of s).columns i

  filled_mark : get_or (all_cells s old).marks i 0 ≡ line.mark
  unfolding cells_filled
  filled_mark = filled_in (squares (shape_of s)) _ _ old.marks i in-old.marks l refl

  filled-closed : closed (all_cells s old).marks i ≡ eqb line.mark 0
  unfolding closed
  filled-closed = ap (λ (m : ℕ). eqb m 0) filled_mark

  filled-ground : (rain inflow : List ℕ) → ground_at (record { cells = all_cells s old; rain = rain; inflow = inflow }) i ≡ ground_of line
  unfolding ground_at ground_of cells_filled
  filled-ground rain inflow =
      by_test (eqb line.mark 0) (λ e. pick_true _ _ (filled-closed ∙ e) ∙ sym (pick_true _ _ e))
      (λ e.
      pick_false _ _ (filled-closed ∙ e)
      ∙ (four (number _ old.beds in-old.beds e) (number _ old.roughness in-old.roughness e) (number _ old.depths in-old.depths e)
      (number _ old.rates in-old.rates e)
      ∙ sym (pick_false _ _ e)))
    where
      -- of a room that skips closed squares
      number :
          (f : ℕ → ℕ) (room : List ℕ) → i < length room → eqb line.mark 0 ≡ false →
          get_or (filled (squares (shape_of s)) (closed_from s (cells_at s) (shape_of s).columns) f room) i 0 ≡ f i
      number f room h e = filled_in (squares (shape_of s)) (closed_from s (cells_at s) (shape_of s).columns) f room i h l e

      four : {a b c d x y z w : ℕ} → a ≡ x → b ≡ y → c ≡ z → d ≡ w → ◌≡◌ {A = List ℕ} (a ∷ b ∷ c ∷ d ∷ []) (x ∷ y ∷ z ∷ w ∷ [])
      four e f g h = cc

-- a table that was put into a room
table_put : (old new : List ℕ) → length new ≤ length old → (m : ℕ) → m < length new → get_or (placed old 0 new) m 0 ≡ get_or new m 0
table_put old new fits m l =
    ap (λ (k : ℕ). get_or (placed old 0 new) k 0) (sym (zero-add m)) ∙ placed_in old 0 new (omega (arith, fits)) m l

-- what a sheet says
pub held-said : (s : List ℕ) → Held s (said s)
held-said s =
    record {
      mark = λ i l. filled_mark s (no_cells (squares (shape_of s))) i l (within i l);
      ground = λ i l. filled-ground s (no_cells (squares (shape_of s))) i l (within i l) (rain_table s) (inflow_table s);
      rain = λ m l. refl;
      inflow = λ m l. refl;
    }
  where
    within : (i : ℕ) → i < squares (shape_of s) → Within i (no_cells (squares (shape_of s)))
    within i l =
        let h = length-replicate {A = ℕ} (squares (shape_of s)) 0 in
        record { marks = omega (arith, l, h); beds = omega (arith, l, h); roughness = omega (arith, l, h); rates = omega (arith, l, h); depths = omega (arith, l, h) }

-- the rooms after a sheet was read
module _ (s : List ℕ) (before after : Rooms) (h : Heading) (R : Reads s before (Read h) after) where
  is_well : Well s before h
  is_well = well s before h R.answer

  within : (i : ℕ) → i < squares (shape_of s) → Within i before.cells
  within i l =
      let h = rooms_cells (shape_of s) (line_one s).side before is_well.fine in
      record {
        marks = omega (arith, l, h.0);
        beds = omega (arith, l, h.1);
        roughness = omega (arith, l, h.2);
        rates = omega (arith, l, h.3);
        depths = omega (arith, l, h.4);
      }

  rain_put : (m : ℕ) → m < rain_kind.width * rain_rows s → get_or (placed before.rain 0 (rain_table s)) m 0 ≡ get_or (rain_table s) m 0
  rain_put m l =
      let long = table_long s (rain_at s) rain_word rain_kind.width (omega arith) (rain_rows s) in
      let rooms_good = (rooms-tables (shape_of s) (line_one s).side before is_well.fine).0 in
      table_put before.rain (rain_table s) (omega (arith, long, rooms_good, rain_few s is_well.checks)) m (omega (arith, long, l))

  inflow_put : (m : ℕ) → m < inflow_kind.width * inflow_rows s → get_or (placed before.inflow 0 (inflow_table s)) m 0 ≡ get_or (inflow_table s) m 0
  inflow_put m l =
      let long = table_long s (inflow_at s) inflow_word inflow_kind.width (omega arith) (inflow_rows s) in
      let rooms_good = (rooms-tables (shape_of s) (line_one s).side before is_well.fine).1 in
      table_put before.inflow (inflow_table s) (omega (arith, long, rooms_good, inflow_few s is_well.checks)) m (omega (arith, long, l))

  held_read : Held s after
  unfolding rooms_after rooms_filled
  held_read =
      subst (Held s) (sym R.rooms_are)
      (record {
        mark = λ i l. filled_mark s before.cells i l (within i l);
        ground = λ i l. filled-ground s before.cells i l (within i l) _ _;
        rain = rain_put;
        inflow = inflow_put;
      })

-- ---- the lines

-- each line stands in its place as it would be written, and the last one ends the text
pub record SheetStands (s : List ℕ) (h : Heading) (held : Rooms) : Type 0 where
  pub grid-line : LineStands s 0 (grid_written h)
  pub run-line : LineStands s 1 (run_written h)
  pub cells : (i : ℕ) → i < squares h.shape → LineStands s (2 + i) (cell_written h.shape.columns held i)
  pub marks : (i : ℕ) → i < squares h.shape → get_or held.cells.marks i 0 ≤ 2
  pub rain : (j : ℕ) → j < h.rain_rows → LineStands s (2 + squares h.shape + j) (row_written rain_word rain_kind.width held.rain j)
  pub inflow : (j : ℕ) → j < h.inflow_rows → LineStands s (2 + squares h.shape + h.rain_rows + j) (row_written inflow_word inflow_kind.width held.inflow j)
  pub nothing_left : drop (line_from s 0 (2 + squares h.shape + h.rain_rows + h.inflow_rows)) s ≡ []

row-found : (s : List ℕ) (p : ℕ) (word : List ℕ) (width j : ℕ) → j < rows_read s p word width → has_row s p word width j ≡ true
unfolding rows_read
row-found s p word width j l = failing_before (length s) (has_row s p word width) j l

row_there : (f : Option Fields) → is_some f ≡ true → Some (fields_or f) ≡ f
row_there (Some f) e = refl
row_there None e = not_both e refl

-- the lines of a table that starts at line a
rows_stand :
    (s : List ℕ) (p a : ℕ) (word : List ℕ) (width : ℕ) → width ≤ most_fields → plain word ≡ true → p ≡ line_from s 0 a → (table : List ℕ) →
    ((m : ℕ) → m < width * rows_read s p word width → get_or table m 0 ≡ get_or (table_rows s p word width (rows_read s p word width)) m 0) →
    (j : ℕ) → j < rows_read s p word width → LineStands s (a + j) (row_written word width table j)
unfolding row_written table_rows
rows_stand s p a word width few w at table same j l =
    let found : has_row s p word width j ≡ true = row-found s p word width j l in
    let numbers : tabulate width (λ k. get_or (row_line s p word width j).values k 0) ≡ tabulate width (λ k. get_or table (width * j + k) 0) =
    tabulate_ext width _ _
    (λ k g.
    sym
    (same (width * j + k) (omega (arith, g, mul-le-mul_left width l, mul-suc width j))
    ∙ (get_or-joined (rows_read s p word width) width _ (row_long s p word width few) j k l g ∙ get_or-take width (row_line s p word width j).values k 0 g))) in
    line-from s a j
    (subst (λ (q : ℕ). StandsAt s (line_from s q j) (line_text word (tabulate width (λ k. get_or table (width * j + k) 0))) (next_line s (line_from s q j))) at
    (subst (λ (vs : List ℕ). StandsAt s (line_from s p j) (line_text word vs) (next_line s (line_from s p j))) numbers
    (row_stands s (line_from s p j) word width few w (row_there _ found))))

-- where nothing is refused, a row that has a number passes
pub row-passes : (n : ℕ) (b : Bool) (rs : List Row) → 0 < n → refusal (n unless b ∷ rs) ≡ 0 → (b ≡ true) × (refusal rs ≡ 0)
unfolding refusal pick
row-passes n true rs l e = (refl, e)
row-passes n false rs l e = absurd (omega (arith, l, e))

-- what would be written of line 2
abbrev run_told : RunLine → List ℕ
run_told r =
    line_text run_word
    (r.rules.tolerance ∷ r.rules.shortest ∷ r.rules.longest ∷ r.rules.update ∷ r.end ∷ r.rules.edge ∷ r.rules.edition ∷ [])

module _ (s : List ℕ) (lent : Rooms) (h : Heading) (w : Well s lent h) where
  -- what a text with no bad line has
  pub record TextWhole : Type 0 where
    pub second_line : has_two s ≡ true
    pub all-cells : squares (shape_of s) ≤ cells_read s (cells_at s) (shape_of s)
    pub nothing_left : length s ≤ after_all s

  pub whole : TextWhole
  unfolding bad_line
  whole =
      let a = row-passes 2 (has_two s) _ (omega arith) w.text_good in
      let b = row-passes _ _ _ (omega arith) a.1 in
      let c = row-passes _ _ _ (omega arith) b.1 in
      record { second_line = a.0; all-cells = leb-true _ _ b.0; nothing_left = leb-true _ _ c.0 }

  grid_stands : LineStands s 0 (line_text grid_word ((shape_of s).rows ∷ (shape_of s).columns ∷ (line_one s).side ∷ []))
  unfolding grid_line as_grid tabulate line_from
  grid_stands = go (line_of s 0 grid_word grid_fields) refl w.first_line
    where
      go :
          (f : Option Fields) → LineOf s 0 grid_word grid_fields f → is_some (option_map as_grid f) ≡ true →
          LineStands s 0
          (line_text grid_word
          ((grid_or (option_map as_grid f)).shape.rows
          ∷ (grid_or (option_map as_grid f)).shape.columns
          ∷ (grid_or (option_map as_grid f)).side
          ∷ []))
      go (Some f) e t = row_stands s 0 grid_word grid_fields (omega arith) plain-grid e
      go None e t = not_both t refl

  run_stands : LineStands s 1 (run_written (heading_of s))
  unfolding run_line as_run tabulate line_from run_written heading_of
  run_stands = go (line_of s (line_from s 0 1) run_word run_fields) refl whole.second_line
    where
      go :
          (f : Option Fields) → LineOf s (line_from s 0 1) run_word run_fields f → is_some (option_map (as_run (line_one s).side) f) ≡ true →
          LineStands s 1 (run_told (run_or (line_one s).side (option_map (as_run (line_one s).side) f)))
      go (Some f) e t = row_stands s (line_from s 0 1) run_word run_fields (omega arith) plain-run e
      go None e t = not_both t refl

  -- D of line 2's rules is line 1's
  pub side_same : (line_two s).rules.square_side ≡ (line_one s).side
  side_same = run_side s (line_from s 0 1) (line_one s).side

  pub cell_found : (i : ℕ) → i < squares (shape_of s) → has_cell s (cells_at s) (shape_of s).columns i ≡ true
  unfolding cells_read
  cell_found i l =
      failing_before (squares (shape_of s)) (has_cell s (cells_at s) (shape_of s).columns) i (omega (arith, l, whole.all-cells))

  rain_start : rain_at s ≡ line_from s 0 (2 + squares (shape_of s))
  rain_start = line_add s 0 2 (squares (shape_of s))

  inflow_start : inflow_at s ≡ line_from s 0 (2 + squares (shape_of s) + rain_rows s)
  inflow_start = ap (λ (p : ℕ). line_from s p (rain_rows s)) rain_start ∙ line_add s 0 (2 + squares (shape_of s)) (rain_rows s)

  end-start : after_all s ≡ line_from s 0 (2 + squares (shape_of s) + rain_rows s + inflow_rows s)
  end-start = ap (λ (p : ℕ). line_from s p (inflow_rows s)) inflow_start ∙ line_add s 0 (2 + squares (shape_of s) + rain_rows s) (inflow_rows s)

  module _ (held : Rooms) (k : Held s held) where
    cells_stand : (i : ℕ) → i < squares (shape_of s) → LineStands s (2 + i) (cell_written (shape_of s).columns held i)
    unfolding cell_written
    cells_stand i l =
        line-from s 2 i
        (rw (k.mark i l, k.ground i l)
        (cell_stands s (line_from s (cells_at s) i) (i / (shape_of s).columns) (i % (shape_of s).columns) (cell_found i l)))

    sheet_stands : SheetStands s h held
    unfolding heading_of grid_written
    sheet_stands =
        subst (λ (g : Heading). SheetStands s g held) (sym w.heading)
        (record {
          grid-line = rw side_same grid_stands;
          run-line = run_stands;
          cells = cells_stand;
          marks = λ i l. rw (k.mark i l) (cell_marked s _ _ _);
          rain = rows_stand s (rain_at s) (2 + squares (shape_of s)) rain_word rain_kind.width (omega arith) plain_rain rain_start held.rain k.rain;
          inflow = rows_stand s (inflow_at s) (2 + squares (shape_of s) + rain_rows s) inflow_word inflow_kind.width (omega arith) plain_inflow inflow_start held.inflow k.inflow;
          nothing_left = ap (λ (p : ℕ). drop p s) (sym end-start) ∙ drop_of_length-le s whole.nothing_left;
        })

-- ---- the whole text

-- a sheet whose lines stand so is the text of what the rooms hold
pub stands_written : {s : List ℕ} {h : Heading} {held : Rooms} → SheetStands s h held → s ≡ sheet_written h held
unfolding sheet_written lines_written line_from
stands_written {s} {h} {held} a =
    let all =
    stands_both a.grid-line
    (stands_both a.run-line
    (stands_both (lines_stand s 2 (squares h.shape) _ a.cells)
    (stands_both (lines_stand s (2 + squares h.shape) h.rain_rows _ a.rain)
    (lines_stand s (2 + squares h.shape + h.rain_rows) h.inflow_rows _ a.inflow)))) in
    all.text ∙ (ap (λ (l : List ℕ). sheet_written h held ++ l) a.nothing_left ∙ append-nil (sheet_written h held))

-- ---- a sheet that is read well

-- by what it says
pub said_stands : (s : List ℕ) (lent : Rooms) (h : Heading) → Read h ≡ sheet_of s lent → SheetStands s h (said s)
said_stands s lent h e = sheet_stands s lent h (well s lent h e) (said s) (held-said s)

-- and by what the rooms hold afterwards
pub read_stands : (s : List ℕ) (before after : Rooms) (h : Heading) → Reads s before (Read h) after → SheetStands s h after
read_stands s before after h R = sheet_stands s before h (well s before h R.answer) after (held_read s before after h R)
