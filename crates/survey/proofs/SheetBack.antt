-- A sheet that is written of what can be said reads as it: each square's line, every line in its place, and what it says. So does the sheet
-- that a set is moved back to.
-- Assumes nothing.
use Rattle.std.proofs.Common.{Option, Some, None, is_some, option_map}
use mathlib.Core.Path.{◌≡◌, refl, sym, ap, ap₂, subst, ◌∙◌}
use mathlib.Core.Bool.{Bool, true, false}
use mathlib.Core.List.{List, [], ◌∷◌, ◌++◌, append_assoc}
use Prim.Native.Nat.{ℕ, zero, suc, ◌+◌, ◌/◌, ◌%◌, ◌≤◌, ◌<◌}
use native.Mathlib.Nat.{div-le_self, mod-le}
use native.Mathlib.Omega.{arith}
use lib.Dec.{eqb}
use lib.ListN.{length, get_or, replicate, length-replicate, get_or-replicate}
use lib.Seq.{ext_get_or}
use borrow.Author.Tests.{eq-eqb, eqb-true, eqb-false, le-leb}
use Rattle.reckon.specs.Tests.{pick}
use Rattle.reckon.specs.Lists.{tabulate, filled}
use Rattle.reckon.proofs.TestLaws.{pick_true, pick_false, passed_refusal, failing_none}
use Rattle.reckon.proofs.ListLaws.{length-filled, filled_in, filled_skipped}
use Rattle.grid.specs.Squares.{squares}
use Rattle.grid.specs.Marks.{closed}
use Rattle.grid.specs.declared.squares.Shape.{Shape}
use Rattle.text.specs.Reading.{tab, newline, is_byte, is_digit, read_fields, as_fields, padded, line_from}
use Rattle.text.specs.Reading.Reading.{read}
use Rattle.text.specs.Writing.{fields_text, rest_text}
use Rattle.text.specs.Inner.Standing.{Readable, StandsAt}
use Rattle.text.specs.declared.reading.Fields.{Fields}
use Rattle.text.proofs.ReadingLaws.{by_test, byte_here}
use Rattle.text.proofs.StandLaws.{stands_first, stands_second, byte_stands, stands_within, word_stands}
use Rattle.text.proofs.LineLaws.{plain_both, plain_fields}
use Rattle.text.proofs.RoundTrip.{tab-alone, fields_back, rest_back}
use Rattle.sheet.specs.Lines.{cell_word, x_letter, o_letter, e_letter, place_fields, closed_cell, as_open, open_cell, marked_cell, placed_cell, cell_line, letter_of, line_head}
use Rattle.sheet.specs.Sheet.{cell_or, has_cell, Rooms, rooms, cell_from, closed_from, cells_read, shape_of, cells_at, after_all, bad_line, no_cells, cells_filled, rooms_fine, checks_in, checks_of, said}
use Rattle.sheet.specs.Written.{ground_at, cell_written, lines_written}
use Rattle.sheet.specs.declared.lines.CellLine.{CellLine}
use Rattle.sheet.specs.declared.reading.Heading.{Heading}
use Rattle.sheet.proofs.SheetLaws.{Well}
use Rattle.survey.specs.Inner.Writing.{Writable}
use Rattle.survey.proofs.LinesBack.{Line, readable_at, one_there, two_back, two_there, shape_back, side_back, cell_at, rain_table_back, inflow_table_back, after-back, heading_back}
use Rattle.survey.proofs.NoteBack.{plain_head}
use Rattle.survey.proofs.SayableLaws.{Column}

-- ---- the line of a square

-- what a line with these numbers after its mark says
abbrev open_as : ℕ → ℕ → ℕ → ℕ → ℕ → ℕ → CellLine
open_as mark bed k d rate q = record { mark = mark; bed = bed; roughness = k; depth = d; rate = rate; next = q }

module _ {s : List ℕ} {p q : ℕ} (row column mark : ℕ) (vs : List ℕ) (small : Readable (row ∷ column ∷ [])) (ground : Readable vs)
    (a : StandsAt s p (line_head row column mark ++ rest_text vs) q) where
  abbrev place : List ℕ
  place = row ∷ column ∷ []

  -- the position after row and column, and that after the mark
  abbrev r : ℕ
  r = p + length cell_word + length (fields_text place)

  head : StandsAt s p (line_head row column mark) (p + length (line_head row column mark))
  head = stands_first (line_head row column mark) (rest_text vs) a

  word : StandsAt s p cell_word (p + length cell_word)
  word = stands_first cell_word (fields_text place ++ (tab ∷ letter_of mark ∷ [])) head

  tail : StandsAt s (p + length cell_word) (fields_text place ++ (tab ∷ letter_of mark ∷ [])) (p + length (line_head row column mark))
  tail = stands_second cell_word (fields_text place ++ (tab ∷ letter_of mark ∷ [])) head

  letter : StandsAt s r (tab ∷ letter_of mark ∷ []) (p + length (line_head row column mark))
  letter = stands_second (fields_text place) (tab ∷ letter_of mark ∷ []) tail

  inside : p + length cell_word ≤ length s
  inside = omega (arith, stands_within letter, letter.after)

  here : read_fields s (p + length cell_word) place_fields ≡ read place r
  here =
      fields_back place
      (record {
        stands = stands_first (fields_text place) (tab ∷ letter_of mark ∷ []) tail;
        alone = ap is_digit (byte_stands letter).0 ∙ tab-alone;
        readable = small;
      })

  placed : cell_line s p row column ≡ marked_cell s r
  unfolding cell_line placed_cell as_fields padded pick tabulate
  placed =
      pick_true _ _ (word_stands inside word)
      ∙ (ap (λ (f : Option Fields). placed_cell s row column f) (ap as_fields here)
      ∙ (pick_true _ _ (eq-eqb row row refl) ∙ pick_true _ _ (eq-eqb column column refl)))

  after_mark : p + length (line_head row column mark) ≡ r + 2
  after_mark = letter.after

  ground_here : StandsAt s (r + 2) (rest_text vs) q
  ground_here = subst (λ (k : ℕ). StandsAt s k (rest_text vs) q) after_mark (stands_second (line_head row column mark) (rest_text vs) a)

  byte_is : (b : ℕ) → is_byte s (r + 1) b ≡ eqb (letter_of mark) b
  byte_is b =
      let two = stands_second (tab ∷ []) (letter_of mark ∷ []) letter in
      byte_here s (r + 1) b (omega (arith, stands_within two, two.after)) ∙ ap (λ (x : ℕ). eqb x b) (byte_stands two).0

  tab_here : is_byte s r tab ≡ true
  tab_here = (byte_stands letter).1

-- a closed square's line, and that of another
closed_back : {s : List ℕ} {p q : ℕ} (row column : ℕ) → Readable (row ∷ column ∷ []) → StandsAt s p (line_head row column 0 ++ rest_text []) q →
    cell_line s p row column ≡ Some (open_as 0 0 0 0 0 q)
unfolding marked_cell closed_cell rest_text fields_text letter_of
closed_back {s} {p} {q} row column small a =
    let end = ground_here row column 0 [] small tt a in
    placed row column 0 [] small tt a
    ∙ (pick_true _ _ (tab_here row column 0 [] small tt a)
    ∙ (pick_true _ _ (byte_is row column 0 [] small tt a x_letter)
    ∙ (pick_true _ _ (byte_stands end).1 ∙ ap (λ (k : ℕ). Some (open_as 0 0 0 0 0 k)) (sym end.after))))

module _ {s : List ℕ} {p q : ℕ} (row column mark bed k d rate : ℕ) (small : Readable (row ∷ column ∷ []))
    (ground : Readable (bed ∷ k ∷ d ∷ rate ∷ [])) (a : StandsAt s p (line_head row column mark ++ rest_text (bed ∷ k ∷ d ∷ rate ∷ [])) q) where
  abbrev numbers : List ℕ
  numbers = bed ∷ k ∷ d ∷ rate ∷ []

  abbrev at : ℕ
  at = r row column mark numbers small ground a

  opened : open_cell s (r row column mark numbers small ground a + 2) mark ≡ Some (open_as mark bed k d rate q)
  unfolding open_cell as_open as_fields padded tabulate
  opened =
      ap (λ (x : Option Fields). option_map (as_open mark) x) (ap as_fields (rest_back numbers (ground_here row column mark numbers small ground a) ground))

  open_back : 0 < mark → mark < 3 → cell_line s p row column ≡ Some (open_as mark bed k d rate q)
  unfolding marked_cell letter_of
  open_back low high =
      placed row column mark numbers small ground a
      ∙ (pick_true _ _ (tab_here row column mark numbers small ground a) ∙ by_letter mark low high refl)
    where
      is : (b : ℕ) (m : ℕ) → mark ≡ m → is_byte s (at + 1) b ≡ eqb (letter_of m) b
      is b m e = byte_is row column mark numbers small ground a b ∙ ap (λ (x : ℕ). eqb (letter_of x) b) e

      by_letter :
          (m : ℕ) → 0 < m → m < 3 → mark ≡ m →
          pick (is_byte s (at + 1) x_letter) (closed_cell s (at + 2))
          (pick (is_byte s (at + 1) o_letter) (open_cell s (at + 2) 1) (pick (is_byte s (at + 1) e_letter) (open_cell s (at + 2) 2) None))
          ≡ Some (open_as mark bed k d rate q)
      by_letter zero l h e = absurd (omega (arith, l))
      by_letter (suc zero) l h e =
          pick_false _ _ (is x_letter 1 e) ∙ (pick_true _ _ (is o_letter 1 e) ∙ (ap (open_cell s (at + 2)) (sym e) ∙ opened))
      by_letter (suc (suc zero)) l h e =
          pick_false _ _ (is x_letter 2 e)
          ∙ (pick_false _ _ (is o_letter 2 e) ∙ (pick_true _ _ (is e_letter 2 e) ∙ (ap (open_cell s (at + 2)) (sym e) ∙ opened)))
      by_letter (suc (suc (suc m))) l h e = absurd (omega (arith, h))

-- ---- the whole sheet

-- a square is closed where its mark is 0
module _ (h : Heading) (held : Rooms) (w : Writable h held) where
  abbrev mark : ℕ → ℕ
  mark i = get_or held.cells.marks i 0

  abbrev cell : ℕ → List ℕ
  cell = cell_written h.shape.columns held

  cell_lined : (i : ℕ) → i < squares h.shape → Line (cell i)
  unfolding cell_written rest_text
  cell_lined i l =
      let head = line_head (i / h.shape.columns) (i % h.shape.columns) (mark i) in
      record {
        text = head ++ fields_text (ground_at held i);
        plain_is = plain_both head (fields_text (ground_at held i)) (plain_head (i / h.shape.columns) (i % h.shape.columns) (mark i)) (plain_fields (ground_at held i));
        same = sym (append_assoc head (fields_text (ground_at held i)) (newline ∷ []));
      }

  abbrev lines : List ℕ
  lines = lines_written h held cell

  place_small : (i : ℕ) → i < squares h.shape → Readable (i / h.shape.columns ∷ i % h.shape.columns ∷ [])
  place_small i l = (
    omega (arith, div-le_self i h.shape.columns, l, w.shape.few),
    (omega (arith, mod-le i h.shape.columns, l, w.shape.few), tt),
  )

  abbrev numbers_at : ℕ → List ℕ
  numbers_at i =
      get_or held.cells.beds i 0
      ∷ get_or held.cells.roughness i 0
      ∷ get_or held.cells.depths i 0
      ∷ get_or held.cells.rates i 0
      ∷ []

  numbers_small : (i : ℕ) → Readable (numbers_at i)
  numbers_small i = (
    readable_at held.cells.beds w.beds i,
    (
      readable_at held.cells.roughness w.roughness i,
      (readable_at held.cells.depths w.depths i, (readable_at held.cells.rates w.rates i, tt)),
    ),
  )

  -- the line of square i as it is read
  abbrev read_at : ℕ → CellLine
  read_at i = cell_from lines (cells_at lines) h.shape.columns i

  abbrev cell_at_place : ℕ → Option CellLine
  cell_at_place i = cell_line lines (line_from lines (cells_at lines) i) (i / h.shape.columns) (i % h.shape.columns)

  module _ (i : ℕ) (l : i < squares h.shape) where
    abbrev from : ℕ
    from = line_from lines (cells_at lines) i

    abbrev after : ℕ
    after = line_from lines (cells_at lines) (suc i)

    stands : StandsAt lines from (cell i) after
    stands = cell_at h held w.say cell cell_lined i l

    closed_there : closed held.cells.marks i ≡ true → cell_at_place i ≡ Some (open_as 0 0 0 0 0 after)
    unfolding closed cell_written ground_at
    closed_there e =
        let zero-mark : mark i ≡ 0 = eqb-true (mark i) 0 e in
        let none : ground_at held i ≡ [] = ground_none e in
        closed_back (i / h.shape.columns) (i % h.shape.columns) (place_small i l)
        (subst (λ (t : List ℕ). StandsAt lines from t after) (written_as zero-mark none) stands)
      where
        ground_none : closed held.cells.marks i ≡ true → ground_at held i ≡ []
        ground_none e = pick_true _ _ e

        written_as :
            mark i ≡ 0 → ground_at held i ≡ [] →
            cell i ≡ line_head (i / h.shape.columns) (i % h.shape.columns) 0 ++ rest_text []
        written_as e f = ap₂ (λ (m : ℕ) (vs : List ℕ). line_head (i / h.shape.columns) (i % h.shape.columns) m ++ rest_text vs) e f

    open_there :
        closed held.cells.marks i ≡ false →
        cell_at_place i
        ≡ Some (open_as (mark i) (get_or held.cells.beds i 0) (get_or held.cells.roughness i 0) (get_or held.cells.depths i 0)
        (get_or held.cells.rates i 0) after)
    unfolding closed cell_written ground_at
    open_there e =
        open_back (i / h.shape.columns) (i % h.shape.columns) (mark i) (get_or held.cells.beds i 0) (get_or held.cells.roughness i 0)
        (get_or held.cells.depths i 0) (get_or held.cells.rates i 0) (place_small i l) (numbers_small i)
        (subst (λ (t : List ℕ). StandsAt lines from t after)
        (ap (λ (vs : List ℕ). line_head (i / h.shape.columns) (i % h.shape.columns) (mark i) ++ rest_text vs) (pick_false [] (numbers_at i) e))
        stands)
        (omega (arith, eqb-false (mark i) 0 e)) (w.say.marks_low i l)

    closed_read : closed held.cells.marks i ≡ true → read_at i ≡ open_as 0 0 0 0 0 after
    closed_read e = ap cell_or (closed_there e)

    open_read :
        closed held.cells.marks i ≡ false →
        read_at i
        ≡ open_as (mark i) (get_or held.cells.beds i 0) (get_or held.cells.roughness i 0) (get_or held.cells.depths i 0)
        (get_or held.cells.rates i 0) after
    open_read e = ap cell_or (open_there e)

    found_read : has_cell lines (cells_at lines) h.shape.columns i ≡ true
    found_read =
        by_test (closed held.cells.marks i) (λ e. ap is_some (closed_there e))
        (λ e. ap is_some (open_there e))

    mark_read : (read_at i).mark ≡ mark i
    unfolding closed
    mark_read =
        by_test (closed held.cells.marks i) (λ e. ap (λ (c : CellLine). c.mark) (closed_read e) ∙ sym (eqb-true (mark i) 0 e))
        (λ e. ap (λ (c : CellLine). c.mark) (open_read e))

    closed_same_lem : closed_from lines (cells_at lines) h.shape.columns i ≡ closed held.cells.marks i
    unfolding closed
    closed_same_lem = ap (λ (m : ℕ). eqb m 0) mark_read

  -- ---- what it says

  abbrev n : ℕ
  n = squares h.shape

  zeros : length (replicate {A = ℕ} n 0) ≡ n
  zeros = length-replicate n 0

  marks_back : filled n (λ i. false) (λ i. (read_at i).mark) (replicate n 0) ≡ held.cells.marks
  marks_back =
      ext_get_or 0 _ _ (length-filled n (λ i. false) (λ i. (read_at i).mark) (replicate n 0) ∙ (zeros ∙ sym w.each.marks))
      (λ i k.
      let l : i < n = omega (arith, k, length-filled n (λ j. false) (λ j. (read_at j).mark) (replicate n 0), zeros) in
      filled_in n (λ j. false) (λ j. (read_at j).mark) (replicate n 0) i (omega (arith, l, zeros)) l refl ∙ mark_read i l)

  -- a room that is filled from the lines
  column_back :
      (g : CellLine → ℕ) (col : List ℕ) → Column held.cells.marks n col →
      ((i : ℕ) → i < n → closed held.cells.marks i ≡ false → g (read_at i) ≡ get_or col i 0) →
      filled n (closed_from lines (cells_at lines) h.shape.columns) (λ i. g (read_at i)) (replicate n 0) ≡ col
  column_back g col c same =
      ext_get_or 0 _ _ (long ∙ (zeros ∙ sym c.long)) (λ i k. at_square i (omega (arith, k, long, zeros)))
    where
      skipped : ℕ → Bool
      skipped = closed_from lines (cells_at lines) h.shape.columns

      long : length (filled n skipped (λ i. g (read_at i)) (replicate n 0)) ≡ length (replicate {A = ℕ} n 0)
      long = length-filled n skipped (λ i. g (read_at i)) (replicate n 0)

      at_square : (i : ℕ) → i < n → get_or (filled n skipped (λ j. g (read_at j)) (replicate n 0)) i 0 ≡ get_or col i 0
      at_square i l =
          by_test (closed held.cells.marks i)
          (λ e.
          filled_skipped n skipped (λ j. g (read_at j)) (replicate n 0) i (omega (arith, l, zeros)) (closed_same_lem i l ∙ e)
          ∙ (get_or-replicate n i 0 0 l ∙ sym (c.none i l e)))
          (λ e.
          filled_in n skipped (λ j. g (read_at j)) (replicate n 0) i (omega (arith, l, zeros)) l (closed_same_lem i l ∙ e) ∙ same i l e)

  shaped : shape_of lines ≡ h.shape
  shaped = shape_back h held w.say cell cell_lined

  module _ (beds : Column held.cells.marks n held.cells.beds) (roughness : Column held.cells.marks n held.cells.roughness)
      (rates : Column held.cells.marks n held.cells.rates) (depths : Column held.cells.marks n held.cells.depths) where
    pub says_back : said lines ≡ held
    unfolding cells_filled
    says_back =
        (λ j.
        record {
          cells = cells_filled lines (cells_at lines) (shaped j).columns (squares (shaped j)) (no_cells (squares (shaped j)));
          rain = rain_table_back h held w.say cell cell_lined j;
          inflow = inflow_table_back h held w.say cell cell_lined j;
        })
        ∙ (λ j.
        rooms (marks_back j)
        (column_back (λ c. c.bed) held.cells.beds beds (λ i l e. ap (λ (c : CellLine). c.bed) (open_read i l e)) j)
        (column_back (λ c. c.roughness) held.cells.roughness roughness (λ i l e. ap (λ (c : CellLine). c.roughness) (open_read i l e)) j)
        (column_back (λ c. c.rate) held.cells.rates rates (λ i l e. ap (λ (c : CellLine). c.rate) (open_read i l e)) j)
        (column_back (λ c. c.depth) held.cells.depths depths (λ i l e. ap (λ (c : CellLine). c.depth) (open_read i l e)) j) held.rain
        held.inflow)

    -- ---- it reads well

    cells_all : cells_read lines (cells_at lines) (shape_of lines) ≡ squares (shape_of lines)
    unfolding cells_read
    cells_all =
        ap (λ (g : Shape). cells_read lines (cells_at lines) g) shaped
        ∙ (failing_none n (has_cell lines (cells_at lines) h.shape.columns) found_read ∙ ap squares (sym shaped))

    nothing_bad : bad_line lines ≡ 0
    unfolding bad_line
    nothing_bad =
        passed_refusal _ (
          ap is_some (two_there h held w.say cell cell_lined),
          (
            le-leb (squares (shape_of lines)) (cells_read lines (cells_at lines) (shape_of lines)) (omega (arith, cells_all)),
            (le-leb (length lines) (after_all lines) (omega (arith, after-back h held w.say cell cell_lined)), tt),
          ),
        )

    checks_are : checks_of lines ≡ checks_in h.shape h.rules held h.end
    checks_are =
        λ j. checks_in (shaped j) (two_back h held w.say cell cell_lined j).rules (says_back j) (two_back h held w.say cell cell_lined j).end

    pub well_back : (lent : Rooms) → rooms_fine h.shape h.rules.square_side lent ≡ true → checks_in h.shape h.rules held h.end ≡ 0 → Well lines lent h
    well_back lent fine checks =
        record {
          first_line = ap is_some (one_there h held w.say cell cell_lined);
          fine = ap₂ (λ (x : Shape) (D : ℕ). rooms_fine x D lent) shaped (side_back h held w.say cell cell_lined) ∙ fine;
          text_good = nothing_bad;
          checks = checks_are ∙ checks;
          heading = sym (heading_back h held w.say cell cell_lined);
        }
