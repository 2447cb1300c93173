-- A sheet, a note and a grid of at most 4,096 squares and 64 rows in each table always fit into a file.
-- Assumes nothing.
use mathlib.Core.Path.{◌≡◌, ap}
use mathlib.Core.Bool.{false}
use mathlib.Core.List.{List, [], ◌∷◌, ◌++◌}
use Prim.Native.Nat.{ℕ, zero, suc, ◌+◌, ◌*◌, ◌/◌, ◌%◌, ◌^◌, ◌≤◌, ◌<◌}
use native.Mathlib.Nat.{not-suc-le-zero, le_of_suc-le-suc, div-le_self, mod-le}
use native.Mathlib.Omega.{arith}
use lib.ListN.{length, get_or, length-append}
use Rattle.reckon.specs.Lists.{tabulate}
use Rattle.reckon.specs.Tables.{rain_kind, inflow_kind}
use Rattle.reckon.proofs.TestLaws.{pick_true, pick_false}
use Rattle.reckon.proofs.ListLaws.{length-tabulate}
use Rattle.grid.specs.Squares.{most_squares, squares}
use Rattle.grid.specs.Marks.{closed}
use Rattle.text.specs.Reading.{tab, newline, most_number}
use Rattle.text.specs.Writing.{fields_text, rest_text, line_text}
use Rattle.text.specs.Inner.Standing.{Readable}
use Rattle.text.proofs.ReadingLaws.{by_test}
use Rattle.text.proofs.JoinedLaws.{joined-short}
use Rattle.text.proofs.WritingLaws.{fields_text_short, line_text_long}
use Rattle.raster.specs.declared.amounts.Scale.{Scale}
use Rattle.raster.proofs.LengthLaws.{grid-short}
use Rattle.sheet.specs.Lines.{grid_word, run_word, cell_word, rain_word, inflow_word, letter_of, line_head}
use Rattle.sheet.specs.Sheet.{Rooms}
use Rattle.sheet.specs.Written.{grid_written, run_written, ground_at, cell_written, row_written, lines_written, sheet_written}
use Rattle.sheet.specs.declared.reading.Heading.{Heading}
use Rattle.survey.specs.Sets.{most_file, mark_line, note_text, column_text}
use Rattle.survey.specs.Inner.Writing.{Writable}
use Rattle.survey.proofs.LinesBack.{readable_at, readable_tabulate}

-- ---- numbers that can be read

-- fields of so many such numbers
fields_short : (vs : List ℕ) → Readable vs → length (fields_text vs) ≤ 11 * length vs
fields_short vs h = omega (arith, fields_text_short 9 vs (λ i l. omega (arith, readable_at vs h i)))

line_short : (word vs : List ℕ) → Readable vs → length (line_text word vs) ≤ length word + 11 * length vs + 1
line_short word vs h = omega (arith, line_text_long word vs, fields_short vs h)

-- ---- the lines

-- what a square's line begins with, and the line
head_short : (i columns mark : ℕ) → i < most_squares → length (line_head (i / columns) (i % columns) mark) ≤ 16
head_short i columns mark l =
    let place = i / columns ∷ i % columns ∷ [] in
    omega (
      arith,
      length-append cell_word (fields_text place ++ (tab ∷ letter_of mark ∷ [])),
      length-append (fields_text place) (tab ∷ letter_of mark ∷ []),
      fields_text_short 3 place (below l),
    )
  where
    below : i < most_squares → (j : ℕ) → j < 2 → get_or (i / columns ∷ i % columns ∷ []) j 0 < 10 ^ 4
    below l zero h = omega (arith, div-le_self i columns, l)
    below l (suc zero) h = omega (arith, mod-le i columns, l)
    below l (suc (suc j)) h = absurd (not-suc-le-zero (le_of_suc-le-suc (le_of_suc-le-suc h)))

rest_short : (vs : List ℕ) → Readable vs → length (rest_text vs) ≤ 11 * length vs + 1
unfolding rest_text
rest_short vs h = omega (arith, length-append (fields_text vs) (newline ∷ []), fields_short vs h)

-- a row of a table
row-short : (word : List ℕ) (width : ℕ) (table : List ℕ) (j : ℕ) → ((i : ℕ) → get_or table i 0 ≤ most_number) →
    length (row_written word width table j) ≤ length word + 11 * width + 1
unfolding row_written
row-short word width table j small =
    let vs = tabulate width (λ k. get_or table (width * j + k) 0) in
    omega (
      arith,
      line_short word vs (readable_tabulate width (λ k. get_or table (width * j + k) 0) (λ k l. small (width * j + k))),
      length-tabulate width (λ k. get_or table (width * j + k) 0),
    )

module _ (h : Heading) (held : Rooms) (small : Writable h held) where
  -- the numbers of a square not closed
  abbrev numbers : ℕ → List ℕ
  numbers i =
      get_or held.cells.beds i 0
      ∷ get_or held.cells.roughness i 0
      ∷ get_or held.cells.depths i 0
      ∷ get_or held.cells.rates i 0
      ∷ []

  numbers_small : (i : ℕ) → Readable (numbers i)
  numbers_small i = (
    readable_at held.cells.beds small.beds i,
    (
      readable_at held.cells.roughness small.roughness i,
      (readable_at held.cells.depths small.depths i, (readable_at held.cells.rates small.rates i, tt)),
    ),
  )

  ground-short : (i : ℕ) → length (rest_text (ground_at held i)) ≤ 45
  unfolding ground_at
  ground-short i =
      by_test (closed held.cells.marks i)
      (λ e. omega (arith, ap (λ (vs : List ℕ). length (rest_text vs)) (pick_true [] (numbers i) e), rest_short [] tt))
      (λ e. omega (arith, ap (λ (vs : List ℕ). length (rest_text vs)) (pick_false [] (numbers i) e), rest_short (numbers i) (numbers_small i)))

  cell_short : (i : ℕ) → i < squares h.shape → length (cell_written h.shape.columns held i) ≤ 61
  unfolding cell_written
  cell_short i l =
      let head = line_head (i / h.shape.columns) (i % h.shape.columns) (get_or held.cells.marks i 0) in
      omega (
        arith,
        length-append head (rest_text (ground_at held i)),
        head_short i h.shape.columns (get_or held.cells.marks i 0) (omega (arith, l, small.shape.few)),
        ground-short i,
      )

  mark_short : (i : ℕ) → i < squares h.shape → length (mark_line h.shape.columns i (get_or held.cells.marks i 0)) ≤ 61
  unfolding mark_line
  mark_short i l =
      omega (
        arith,
        length-append (line_head (i / h.shape.columns) (i % h.shape.columns) (get_or held.cells.marks i 0)) (rest_text []),
        head_short i h.shape.columns (get_or held.cells.marks i 0) (omega (arith, l, small.shape.few)),
        rest_short [] tt,
      )

  grid-line : length (grid_written h) ≤ 38
  unfolding grid_written
  grid-line = omega (arith, line_short grid_word (h.shape.rows ∷ h.shape.columns ∷ h.rules.square_side ∷ []) small.say.grid_small)

  run-line : length (run_written h) ≤ 81
  unfolding run_written
  run-line =
      omega (
        arith,
        line_short run_word
            (h.rules.tolerance
            ∷ h.rules.shortest
            ∷ h.rules.longest
            ∷ h.rules.update
            ∷ h.end
            ∷ h.rules.edge
            ∷ h.rules.edition
            ∷ [])
            small.say.run_small,
      )

  lines_short : (cell : ℕ → List ℕ) → ((i : ℕ) → i < squares h.shape → length (cell i) ≤ 61) → length (lines_written h held cell) ≤ most_file
  unfolding lines_written
  lines_short cell short =
      let cells = joined-short (squares h.shape) 61 cell short in
      let rain = joined-short h.rain_rows 38 (row_written rain_word rain_kind.width held.rain)
      (λ j l. row-short rain_word rain_kind.width held.rain j (readable_at held.rain small.say.rain_small)) in
      let inflow = joined-short h.inflow_rows 62 (row_written inflow_word inflow_kind.width held.inflow)
      (λ j l. row-short inflow_word inflow_kind.width held.inflow j (readable_at held.inflow small.say.inflow_small)) in
      simp length-append (omega (arith, cells, rain, inflow, grid-line, run-line, small.shape.few, small.rain_few, small.inflow_few))

  pub sheet_fits : length (sheet_written h held) ≤ most_file
  unfolding sheet_written
  sheet_fits = lines_short (cell_written h.shape.columns held) cell_short

  pub note_fits : length (note_text h held) ≤ most_file
  unfolding note_text
  note_fits = lines_short (λ i. mark_line h.shape.columns i (get_or held.cells.marks i 0)) mark_short

  pub column_fits :
      (k : Scale) (col : List ℕ) → ((i : ℕ) → closed held.cells.marks i ≡ false → get_or col i 0 ≤ most_number) →
      length (column_text h held k col) ≤ most_file
  column_fits k col low =
      omega (
        arith,
        grid-short k held.cells.marks col low h.shape h.rules.square_side small.say.grid_small.1.0 small.say.grid_small.0
            small.say.grid_small.1.1.0,
        small.shape.few,
      )
