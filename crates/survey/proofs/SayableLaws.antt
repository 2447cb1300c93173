-- What a sheet that is read well says can be said: its numbers can be read, its marks have letters, its tables have whole rows.
-- Assumes nothing.
use Rattle.text.specs.declared.reading.Fields.{Fields}
use Rattle.std.proofs.Common.{take, Option, Some, None, is_some, option_map}
use Rattle.sheet.specs.declared.lines.RunLine.{RunLine}
use mathlib.Core.Path.{◌≡◌, refl, sym, ap, subst, ◌∙◌}
use mathlib.Core.Bool.{Bool, true, false}
use mathlib.Core.List.{List, [], ◌∷◌, ◌++◌}
use Prim.Native.Nat.{ℕ, zero, suc, ◌+◌, ◌/◌, ◌%◌, ◌≤◌, ◌<◌}
use native.Mathlib.Omega.{arith}
use lib.Dec.{eqb}
use lib.ListN.{length, get_or, replicate, length-replicate, get_or-replicate}
use Rattle.reckon.specs.Lists.{joined, tabulate, filled}
use Rattle.reckon.specs.Tables.{rain_kind, inflow_kind}
use Rattle.reckon.proofs.TestLaws.{not_both, failing_before}
use Rattle.reckon.proofs.ListLaws.{length-filled, filled_in, filled_skipped}
use Rattle.grid.specs.Squares.{squares}
use Rattle.grid.specs.Marks.{closed}
use Rattle.grid.proofs.MarkLaws.{closed_past}
use Rattle.text.specs.Reading.{fields_at, LineOf, RestOfLine, most_number, most_fields, rest_of_line, line_of, line_from}
use Rattle.text.specs.Inner.Standing.{Readable}
use Rattle.text.proofs.ReadingLaws.{by_lt}
use Rattle.text.proofs.RoundTrip.{rest_found, line_found}
use Rattle.sheet.specs.Lines.{cell_word, place_fields, grid_word, run_word, rain_word, inflow_word, grid_fields, run_fields, open_fields, as_grid, grid_line, as_run, run_line, closed_cell, as_open, open_cell, marked_cell, placed_cell, cell_line}
use Rattle.sheet.specs.Sheet.{grid_or, run_or, cell_or, fields_or, has_one, has_row, Rooms, cell_from, closed_from, rows_read, table_rows, line_one, shape_of, cells_at, rain_at, rain_rows, inflow_at, inflow_rows, cells_filled, said, heading_of}
use Rattle.sheet.specs.declared.lines.CellLine.{CellLine}
use Rattle.sheet.specs.declared.reading.Heading.{Heading}
use Rattle.sheet.proofs.KindLaws.{choice}
use Rattle.sheet.proofs.LetterLaws.{first_of, cell_marked}
use Rattle.sheet.proofs.RoomLaws.{table_long}
use Rattle.sheet.proofs.SheetLaws.{Well}
use Rattle.sheet.proofs.WrittenLaws.{held-said, whole, side_same, cell_found}
use Rattle.survey.specs.Inner.Writing.{Sayable}
use Rattle.survey.proofs.LinesBack.{readable_all}

-- ---- a square's line: its numbers can be read where it is found

abbrev Small : Option CellLine → Type 0
Small (Some c) = Readable (c.bed ∷ c.roughness ∷ c.depth ∷ c.rate ∷ [])
Small None = Unit {0}

small_of : (c : Option CellLine) → Small c → is_some c ≡ true →
    Readable ((cell_or c).bed ∷ (cell_or c).roughness ∷ (cell_or c).depth ∷ (cell_or c).rate ∷ [])
small_of (Some c) h e = h
small_of None h e = not_both e refl

closed_small : (s : List ℕ) (p : ℕ) → Small (closed_cell s p)
unfolding closed_cell
closed_small s p = choice Small _ (λ t. (omega arith, (omega arith, (omega arith, (omega arith, tt))))) (λ f. tt)

open_small : (s : List ℕ) (p mark : ℕ) → Small (open_cell s p mark)
unfolding open_cell as_open tabulate
open_small s p mark = go (rest_of_line s p open_fields) refl
  where
    go : (f : Option Fields) → RestOfLine s p open_fields f → Small (option_map (as_open mark) f)
    go (Some f) e =
        let a = rest_found {f = f} s p open_fields (omega arith) e in
        subst Readable (first_of open_fields f.values a.many) a.readable
    go None e = tt

marked_small : (s : List ℕ) (p : ℕ) → Small (marked_cell s p)
unfolding marked_cell
marked_small s p =
    choice Small _
    (λ t.
    choice Small _ (λ x. closed_small s (p + 2))
    (λ x. choice Small _ (λ o. open_small s (p + 2) 1) (λ o. choice Small _ (λ e. open_small s (p + 2) 2) (λ e. tt))))
    (λ t. tt)

cell_small : (s : List ℕ) (p row column : ℕ) → Small (cell_line s p row column)
unfolding cell_line placed_cell
cell_small s p row column = choice Small _ (λ w. go (fields_at s (p + length cell_word) place_fields)) (λ w. tt)
  where
    go : (f : Option Fields) → Small (placed_cell s row column f)
    go (Some f) = choice Small _ (λ r. choice Small _ (λ c. marked_small s f.next) (λ c. tt)) (λ r. tt)
    go None = tt

-- ---- a table

readable_both : (l m : List ℕ) → Readable l → Readable m → Readable (l ++ m)
readable_both [] m h g = g
readable_both (v ∷ l) m h g = (h.0, readable_both l m h.1 g)

readable_joined : (n : ℕ) (f : ℕ → List ℕ) → ((i : ℕ) → i < n → Readable (f i)) → Readable (joined n f)
unfolding joined
readable_joined zero f h = tt
readable_joined (suc n) f h = readable_both (joined n f) (f n) (readable_joined n f (λ i l. h i (omega arith))) (h n (omega arith))

-- its rows, as many as there are
pub table_small : (s : List ℕ) (p : ℕ) (word : List ℕ) (width : ℕ) → width ≤ most_fields → Readable
    (table_rows s p word width (rows_read s p word width))
unfolding table_rows rows_read
table_small s p word width few =
    readable_joined _ _
    (λ j l. small j _ refl (failing_before (length s) (has_row s p word width) j l))
  where
    small : (j : ℕ) (f : Option Fields) → LineOf s (line_from s p j) word width f → is_some f ≡ true → Readable (take width (fields_or f).values)
    small j (Some f) e t = (line_found s (line_from s p j) width few word e).readable
    small j None e t = not_both t refl

-- ---- lines 1 and 2

pub first_small : (s : List ℕ) → has_one s ≡ true → Readable ((shape_of s).rows ∷ (shape_of s).columns ∷ (line_one s).side ∷ [])
unfolding grid_line as_grid tabulate
first_small s t = go (line_of s 0 grid_word grid_fields) refl t
  where
    go : (f : Option Fields) → LineOf s 0 grid_word grid_fields f → is_some (option_map as_grid f) ≡ true →
        Readable
        ((grid_or (option_map as_grid f)).shape.rows ∷ (grid_or (option_map as_grid f)).shape.columns ∷ (grid_or (option_map as_grid f)).side ∷ [])
    go (Some f) e t =
        let a = line_found s 0 grid_fields (omega arith) grid_word e in
        subst Readable (first_of grid_fields f.values a.many) a.readable
    go None e t = not_both t refl

abbrev run_numbers : RunLine → List ℕ
run_numbers r =
    r.rules.tolerance ∷ r.rules.shortest ∷ r.rules.longest ∷ r.rules.update ∷ r.end ∷ r.rules.edge ∷ r.rules.edition ∷ []

pub second_small : (s : List ℕ) (p D : ℕ) → is_some (run_line s p D) ≡ true → Readable (run_numbers (run_or D (run_line s p D)))
unfolding run_line as_run tabulate
second_small s p D t = go (line_of s p run_word run_fields) refl t
  where
    go : (f : Option Fields) → LineOf s p run_word run_fields f → is_some (option_map (as_run D) f) ≡ true →
        Readable (run_numbers (run_or D (option_map (as_run D) f)))
    go (Some f) e t =
        let a = line_found s p run_fields (omega arith) run_word e in
        subst Readable (first_of run_fields f.values a.many) a.readable
    go None e t = not_both t refl

-- ---- one number a square: 0 where it is closed, and one that can be read where it is not

pub record Column (marks : List ℕ) (n : ℕ) (column : List ℕ) : Type 0 where
  pub long : length column ≡ n
  pub none : (i : ℕ) → i < n → closed marks i ≡ true → get_or column i 0 ≡ 0
  pub small : (i : ℕ) → closed marks i ≡ false → get_or column i 0 ≤ most_number

-- all its numbers can be read
pub column_readable : {marks : List ℕ} {n : ℕ} {column : List ℕ} → Column marks n column → Readable column
column_readable {marks} {n} {column} c = readable_all column (λ i l. go i (omega (arith, l, c.long)) (closed marks i) refl)
  where
    go : (i : ℕ) → i < n → (b : Bool) → closed marks i ≡ b → get_or column i 0 ≤ most_number
    go i l true e = omega (arith, c.none i l e)
    go i l false e = c.small i e

-- ---- the sheet

module _ (s : List ℕ) (lent : Rooms) (h : Heading) (well : Well s lent h) where
  pub sayable : Sayable (heading_of s) (said s)
  unfolding heading_of
  sayable =
      record {
        grid_small =
            subst (λ (d : ℕ). Readable ((shape_of s).rows ∷ (shape_of s).columns ∷ d ∷ [])) (sym (side_same s lent h well))
            (first_small s well.first_line);
        run_small = second_small s (line_from s 0 1) (line_one s).side (whole s lent h well).second_line;
        marks_low = λ i l.
            omega (
              arith,
              (held-said s).mark i l,
              cell_marked s (line_from s (cells_at s) i) (i / (shape_of s).columns) (i % (shape_of s).columns),
            );
        rain_long = table_long s (rain_at s) rain_word rain_kind.width (omega arith) (rain_rows s);
        rain_small = table_small s (rain_at s) rain_word rain_kind.width (omega arith);
        inflow_long = table_long s (inflow_at s) inflow_word inflow_kind.width (omega arith) (inflow_rows s);
        inflow_small = table_small s (inflow_at s) inflow_word inflow_kind.width (omega arith);
      }

  abbrev n : ℕ
  n = squares (shape_of s)

  abbrev marks : List ℕ
  marks = (said s).cells.marks

  abbrev line : ℕ → CellLine
  line i = cell_from s (cells_at s) (shape_of s).columns i

  zeros : length (replicate {A = ℕ} n 0) ≡ n
  zeros = length-replicate n 0

  pub marks_long : length marks ≡ n
  unfolding cells_filled
  marks_long = length-filled n (λ j. false) (λ j. (line j).mark) (replicate n 0) ∙ zeros

  closed_is : (i : ℕ) → i < n → closed marks i ≡ closed_from s (cells_at s) (shape_of s).columns i
  unfolding closed
  closed_is i l = ap (λ (m : ℕ). eqb m 0) ((held-said s).mark i l)

  -- a room that was filled from the lines
  filled-column : (f : ℕ → ℕ) → ((i : ℕ) → i < n → f i ≤ most_number) →
      Column marks n (filled n (closed_from s (cells_at s) (shape_of s).columns) f (replicate n 0))
  filled-column f small =
      record {
        long = length-filled n _ f (replicate n 0) ∙ zeros;
        none = λ i l e.
            filled_skipped n _ f (replicate n 0) i (omega (arith, zeros, l)) (sym (closed_is i l) ∙ e) ∙ get_or-replicate n i 0 0 l;
        small = λ i e.
            by_lt i n
            (λ l. rw (filled_in n _ f (replicate n 0) i (omega (arith, zeros, l)) l (sym (closed_is i l) ∙ e)) (small i l))
            (λ l. not_both (closed_past marks i (omega (arith, marks_long, l))) e);
      }

  numbers : (i : ℕ) → i < n → Readable ((line i).bed ∷ (line i).roughness ∷ (line i).depth ∷ (line i).rate ∷ [])
  numbers i l =
      small_of _ (cell_small s (line_from s (cells_at s) i) (i / (shape_of s).columns) (i % (shape_of s).columns)) (cell_found s lent h well i l)

  pub bed_column : Column marks n (said s).cells.beds
  unfolding cells_filled
  bed_column = filled-column (λ i. (line i).bed) (λ i l. (numbers i l).0)

  pub roughness_column : Column marks n (said s).cells.roughness
  unfolding cells_filled
  roughness_column = filled-column (λ i. (line i).roughness) (λ i l. (numbers i l).1.0)

  pub depth-column : Column marks n (said s).cells.depths
  unfolding cells_filled
  depth-column = filled-column (λ i. (line i).depth) (λ i l. (numbers i l).1.1.0)

  pub rate_column : Column marks n (said s).cells.rates
  unfolding cells_filled
  rate_column = filled-column (λ i. (line i).rate) (λ i l. (numbers i l).1.1.1.0)
