-- A sheet as it is written reads back: line by line it says what it was written from. So the sheet that is written where every `?` was reached
-- reads well, and says the beds given and all else as before.
-- Assumes nothing.
use mathlib.Core.Path.{◌≡◌, refl, sym, ap, ap₂, subst, ◌∙◌}
use mathlib.Core.Bool.{true, false}
use mathlib.Core.List.{List, [], ◌∷◌, ◌++◌, append_assoc}
use Prim.Native.Nat.{ℕ, zero, suc, ◌+◌, ◌/◌, ◌%◌, ◌≤◌, ◌<◌}
use native.Mathlib.Nat.{div-le_self, mod-le}
use native.Mathlib.Omega.{arith}
use Rattle.std.proofs.Common.{Option, Some}
use Rattle.std.specs.Prelude.{is_some, option_map}
use lib.Dec.{eqb}
use lib.ListN.{length, get_or, replicate, length-append, length-replicate, get_or-replicate}
use lib.Seq.{ext_get_or}
use borrow.Author.Tests.{eq-eqb, ne_eqb, eqb-false, le-leb}
use Rattle.reckon.specs.Tests.{pick}
use Rattle.reckon.specs.Lists.{tabulate, filled}
use Rattle.reckon.specs.Ranges.{most_bed}
use Rattle.reckon.proofs.TestLaws.{pick_true, pick_false, failing_none, passed_refusal, refusal_passed, every_each, each_every, all_of, all_at, or_of, or_right}
use Rattle.reckon.proofs.ListLaws.{length-filled, filled_in, filled_skipped}
use Rattle.grid.specs.Squares.{squares}
use Rattle.grid.specs.Marks.{closed}
use Rattle.grid.specs.declared.squares.Shape.{Shape}
use Rattle.text.specs.Reading.{tab, newline, most_number, is_byte, word_at, is_digit, read_fields, as_fields, padded, line_from}
use Rattle.text.specs.Reading.Reading.{read}
use Rattle.text.specs.Reading as Reading
use Rattle.text.specs.Writing.{fields_text, rest_text}
use Rattle.text.specs.Inner.Standing.{Readable, StandsAt}
use Rattle.text.proofs.ReadingLaws.{by_test, by_lt, byte_here}
use Rattle.text.proofs.RoundTrip.{fields_back, rest_back, tab-alone}
use Rattle.text.proofs.StandLaws.{stands_first, stands_second, stands_within, byte_stands, word_stands}
use Rattle.text.proofs.LineLaws.{plain_both, plain_fields}
use Rattle.sheet.specs.Lines.{cell_word, x_letter, o_letter, letter_of, line_head, closed_cell, as_open, open_cell, marked_cell, placed_cell, cell_line}
use Rattle.sheet.specs.declared.lines.CellLine.{CellLine}
use Rattle.sheet.specs.Sheet.{Rooms, rooms, has_cell, cell_or, cell_from, closed_from, cells_read, line_one, line_two, shape_of, cells_at, after_all, bad_line, cells_filled, said, rooms_fine, plan_in, checks_in, checks_of, heading_of, judged, sheet_of}
use Rattle.sheet.specs.Written.{ground_at, cell_written, lines_written, sheet_written}
use Rattle.sheet.specs.declared.lines.RunLine.{RunLine}
use Rattle.sheet.specs.declared.reading.Heading.{Heading}
use Rattle.sheet.specs.declared.reading.Sheet.TheVariants.{Read}
use Rattle.sheet.proofs.SheetLaws.{Well, well}
use Rattle.sheet.proofs.WrittenLaws.{side_same}
use Rattle.rule.specs.Rules.{ground_fine}
use Rattle.rule.specs.declared.rules.Rules.{Rules}
use Rattle.ledger.specs.Checks.{one_each}
use Rattle.checks.specs.Given.{ground}
use Rattle.checks.specs.Refusals.{square_ground_fine, grounds_fine, check_refusals}
use Rattle.programs.specs.Program.{program_rooms}
use Rattle.survey.specs.Inner.Writing.{Sayable}
use Rattle.survey.proofs.LinesBack.{Line, one_there, two_there, two_back, shape_back, side_back, cell_at, rain_table_back, inflow_table_back, after-back, heading_back}
use Rattle.survey.proofs.NoteBack.{plain_head}
use Rattle.survey.proofs.SayableLaws.{Column, sayable, marks_long, roughness_column, depth-column, rate_column}
use Rattle.holes.specs.Rounds.{no_bed, after_rounds, filled_beds, BedsSeen}
use Rattle.holes.specs.Holes.{is_hole, plugged}
use Rattle.holes.specs.Repaired.{marks_read, beds_read, seen_beds, beds_after, sheet_after, other_beds}
use Rattle.holes.proofs.RoundLaws.{by_eq, none_above}
use Rattle.holes.proofs.FillLaws.{known_later}
use Rattle.holes.proofs.RepairLaws.{seen_at, seen_low}
use Rattle.holes.proofs.ReaderLaws.{heading-shape, few_squares, beds_low}
use Rattle.holes.proofs.RepairsLaws.{repairs}

-- ---- a square's line

-- what a line says: it is found, its mark, and the numbers of a square not closed
pub record Says (line : Option CellLine) (m b k d r : ℕ) : Type 0 where
  pub found : is_some line ≡ true
  pub mark : (cell_or line).mark ≡ m
  pub bed : (m ≡ 0 → ⊥) → (cell_or line).bed ≡ b
  pub roughness : (m ≡ 0 → ⊥) → (cell_or line).roughness ≡ k
  pub depth : (m ≡ 0 → ⊥) → (cell_or line).depth ≡ d
  pub rate : (m ≡ 0 → ⊥) → (cell_or line).rate ≡ r

parts : (a b c d : List ℕ) → (a ++ (b ++ c)) ++ d ≡ a ++ (b ++ (c ++ d))
parts a b c d = append_assoc a (b ++ c) d ∙ ap (λ (l : List ℕ). a ++ l) (append_assoc b c d)

module _ {s : List ℕ} {p q : ℕ} (row column m : ℕ) (vs : List ℕ) (place : Readable (row ∷ column ∷ [])) (a : StandsAt s p (line_head row column m ++ rest_text vs) q) where
  abbrev F : List ℕ
  F = fields_text (row ∷ column ∷ [])

  abbrev M : List ℕ
  M = tab ∷ letter_of m ∷ []

  whole : StandsAt s p (cell_word ++ (F ++ (M ++ rest_text vs))) q
  whole = subst (λ (t : List ℕ). StandsAt s p t q) (parts cell_word F M (rest_text vs)) a

  second : StandsAt s (p + length cell_word) (F ++ (M ++ rest_text vs)) q
  second = stands_second cell_word (F ++ (M ++ rest_text vs)) whole

  abbrev end : ℕ
  end = p + length cell_word + length F

  third : StandsAt s end (M ++ rest_text vs) q
  third = stands_second F (M ++ rest_text vs) second

  inside : q ≤ length s
  inside = stands_within third

  word_is : word_at s p cell_word ≡ true
  word_is =
      word_stands (omega (arith, inside, whole.after, length-append cell_word (F ++ (M ++ rest_text vs)))) (stands_first cell_word (F ++ (M ++ rest_text vs)) whole)

  fields_are : read_fields s (p + length cell_word) 2 ≡ read (row ∷ column ∷ []) end
  fields_are =
      fields_back (row ∷ column ∷ [])
      (record {
        stands = stands_first F (M ++ rest_text vs) second;
        alone = ap is_digit (byte_stands third).0 ∙ tab-alone;
        readable = place;
      })

  placed_is : cell_line s p row column ≡ marked_cell s end
  unfolding cell_line placed_cell as_fields padded tabulate
  placed_is =
      pick_true _ _ word_is
      ∙ (ap (λ (r : Reading.Reading). placed_cell s row column (as_fields r)) fields_are
      ∙ (pick_true _ _ (eq-eqb row row refl) ∙ pick_true _ _ (eq-eqb column column refl)))

  letter_at : StandsAt s (end + 1) (letter_of m ∷ rest_text vs) q
  letter_at = stands_second (tab ∷ []) (letter_of m ∷ rest_text vs) third

  rest_at : StandsAt s (end + 2) (rest_text vs) q
  rest_at =
      let z : end + 1 + length (letter_of m ∷ []) ≡ end + 2 = omega arith in
      subst (λ (k : ℕ). StandsAt s k (rest_text vs) q) z (stands_second (letter_of m ∷ []) (rest_text vs) letter_at)

  other_letter : (b : ℕ) → (letter_of m ≡ b → ⊥) → is_byte s (end + 1) b ≡ false
  other_letter b d =
      let h : end + 1 < length s = omega (arith, letter_at.after, inside) in
      byte_here s (end + 1) b h ∙ ne_eqb _ _ (λ z. d (sym (byte_stands letter_at).0 ∙ z))

abbrev four : ℕ → ℕ → ℕ → ℕ → List ℕ
four b k d r = b ∷ k ∷ d ∷ r ∷ []

module _ (s : List ℕ) (p q row column b k d r : ℕ) (place : Readable (row ∷ column ∷ [])) where
  says_closed : StandsAt s p (line_head row column 0 ++ rest_text []) q → Says (cell_line s p row column) 0 b k d r
  unfolding marked_cell closed_cell letter_of rest_text fields_text
  says_closed a =
      let e : ℕ = end {s = s} {p = p} {q = q} row column 0 [] place a in
      let line : cell_line s p row column ≡ Some (record { mark = 0; bed = 0; roughness = 0; depth = 0; rate = 0; next = e + 2 + 1 }) =
      placed_is row column 0 [] place a
      ∙ (pick_true _ _ (byte_stands (third row column 0 [] place a)).1
      ∙ (pick_true _ _ (byte_stands (letter_at row column 0 [] place a)).1 ∙ pick_true _ _ (byte_stands (rest_at row column 0 [] place a)).1)) in
      record {
        found = ap is_some line;
        mark = ap (λ (c : Option CellLine). (cell_or c).mark) line;
        bed = λ z. absurd (z refl);
        roughness = λ z. absurd (z refl);
        depth = λ z. absurd (z refl);
        rate = λ z. absurd (z refl);
      }

  open_said : (m e : ℕ) → Readable (four b k d r) → StandsAt s (e + 2) (rest_text (four b k d r)) q → cell_line s p row column ≡ open_cell s (e + 2) m → Says (cell_line s p row column) m b k d r
  unfolding open_cell as_open as_fields padded tabulate
  open_said m e small rest line =
      let w = line ∙ ap (λ (z : Reading.Reading). option_map (as_open m) (as_fields z)) (rest_back (four b k d r) rest small) in
      record {
        found = ap is_some w;
        mark = ap (λ (c : Option CellLine). (cell_or c).mark) w;
        bed = λ z. ap (λ (c : Option CellLine). (cell_or c).bed) w;
        roughness = λ z. ap (λ (c : Option CellLine). (cell_or c).roughness) w;
        depth = λ z. ap (λ (c : Option CellLine). (cell_or c).depth) w;
        rate = λ z. ap (λ (c : Option CellLine). (cell_or c).rate) w;
      }

  says_open : Readable (four b k d r) → StandsAt s p (line_head row column 1 ++ rest_text (four b k d r)) q → Says (cell_line s p row column) 1 b k d r
  unfolding marked_cell letter_of
  says_open small a =
      open_said 1 (end {s = s} {p = p} {q = q} row column 1 (four b k d r) place a) small (rest_at row column 1 (four b k d r) place a)
      (placed_is row column 1 (four b k d r) place a
      ∙ (pick_true _ _ (byte_stands (third row column 1 (four b k d r) place a)).1
      ∙ (pick_false _ _ (other_letter row column 1 (four b k d r) place a x_letter (λ z. omega (arith, z)))
      ∙ pick_true _ _ (byte_stands (letter_at row column 1 (four b k d r) place a)).1)))

  says_exit : Readable (four b k d r) → StandsAt s p (line_head row column 2 ++ rest_text (four b k d r)) q → Says (cell_line s p row column) 2 b k d r
  unfolding marked_cell letter_of
  says_exit small a =
      open_said 2 (end {s = s} {p = p} {q = q} row column 2 (four b k d r) place a) small (rest_at row column 2 (four b k d r) place a)
      (placed_is row column 2 (four b k d r) place a
      ∙ (pick_true _ _ (byte_stands (third row column 2 (four b k d r) place a)).1
      ∙ (pick_false _ _ (other_letter row column 2 (four b k d r) place a x_letter (λ z. omega (arith, z)))
      ∙ (pick_false _ _ (other_letter row column 2 (four b k d r) place a o_letter (λ z. omega (arith, z)))
      ∙ pick_true _ _ (byte_stands (letter_at row column 2 (four b k d r) place a)).1))))

  pub cell_says :
      (m : ℕ) → m < 3 → ((m ≡ 0 → ⊥) → Readable (four b k d r)) → StandsAt s p (line_head row column m ++ rest_text (pick (eqb m 0) [] (four b k d r))) q →
      Says (cell_line s p row column) m b k d r
  unfolding pick
  cell_says zero h small a = says_closed a
  cell_says (suc zero) h small a = says_open (small (λ z. omega (arith, z))) a
  cell_says (suc (suc zero)) h small a = says_exit (small (λ z. omega (arith, z))) a
  cell_says (suc (suc (suc m))) h small a = absurd (omega (arith, h))

-- ---- a sheet as it is written

module _ (h : Heading) (held : Rooms) (say : Sayable h held)
    (small : (i : ℕ) → i < squares h.shape → closed held.cells.marks i ≡ false →
    Readable (get_or held.cells.beds i 0 ∷ get_or held.cells.roughness i 0 ∷ get_or held.cells.depths i 0 ∷ get_or held.cells.rates i 0 ∷ []))
    (few : squares h.shape ≤ most_number) where
  abbrev cell : ℕ → List ℕ
  cell = cell_written h.shape.columns held

  abbrev U : List ℕ
  U = lines_written h held cell

  lined : (i : ℕ) → i < squares h.shape → Line (cell i)
  unfolding cell_written rest_text
  lined i l =
      let t : List ℕ = line_head (i / h.shape.columns) (i % h.shape.columns) (get_or held.cells.marks i 0) in
      record {
        text = t ++ fields_text (ground_at held i);
        plain_is = plain_both t (fields_text (ground_at held i)) (plain_head _ _ _) (plain_fields (ground_at held i));
        same = sym (append_assoc t (fields_text (ground_at held i)) (newline ∷ []));
      }

  abbrev told : ℕ → Option CellLine
  told i = cell_line U (line_from U (cells_at U) i) (i / (shape_of U).columns) (i % (shape_of U).columns)

  abbrev line : ℕ → CellLine
  line i = cell_from U (cells_at U) (shape_of U).columns i

  same_columns : (shape_of U).columns ≡ h.shape.columns
  same_columns = ap (λ (g : Shape). g.columns) (shape_back h held say cell lined)

  line_says : (i : ℕ) → i < squares h.shape → Says (told i) (get_or held.cells.marks i 0) (get_or held.cells.beds i 0) (get_or held.cells.roughness i 0) (get_or held.cells.depths i 0) (get_or held.cells.rates i 0)
  unfolding cell_written ground_at closed
  line_says i l =
      subst (λ (g : ℕ). Says (cell_line U (line_from U (cells_at U) i) (i / g) (i % g)) (get_or held.cells.marks i 0) (get_or held.cells.beds i 0) (get_or held.cells.roughness i 0) (get_or held.cells.depths i 0) (get_or held.cells.rates i 0))
      (sym same_columns)
      (cell_says U (line_from U (cells_at U) i) (line_from U (cells_at U) (suc i)) (i / h.shape.columns) (i % h.shape.columns) (get_or held.cells.beds i 0) (get_or held.cells.roughness i 0) (get_or held.cells.depths i 0) (get_or held.cells.rates i 0)
      (omega (arith, div-le_self i h.shape.columns, l, few), (omega (arith, mod-le i h.shape.columns, l, few), tt))
      (get_or held.cells.marks i 0) (say.marks_low i l) (λ d. small i l (ne_eqb _ _ d)) (cell_at h held say cell lined i l))

  no_bad : bad_line U ≡ 0
  unfolding bad_line cells_read
  no_bad =
      let same = ap squares (shape_back h held say cell lined) in
      let all : cells_read U (cells_at U) (shape_of U) ≡ squares (shape_of U) =
      failing_none (squares (shape_of U)) (has_cell U (cells_at U) (shape_of U).columns) (λ i l. (line_says i (omega (arith, l, same))).found) in
      passed_refusal _ (
        ap is_some (two_there h held say cell lined),
        (
          le-leb (squares (shape_of U)) (cells_read U (cells_at U) (shape_of U)) (omega (arith, all)),
          (le-leb (length U) (after_all U) (omega (arith, after-back h held say cell lined)), tt),
        ),
      )

  -- ---- what it says

  abbrev n : ℕ
  n = squares (shape_of U)

  same_count : n ≡ squares h.shape
  same_count = ap squares (shape_back h held say cell lined)

  closed_is : (i : ℕ) → i < n → closed_from U (cells_at U) (shape_of U).columns i ≡ closed held.cells.marks i
  unfolding closed
  closed_is i l = ap (λ (m : ℕ). eqb m 0) (line_says i (omega (arith, l, same_count))).mark

  zeros : length (replicate {A = ℕ} n 0) ≡ n
  zeros = length-replicate {A = ℕ} n 0

  marks_are : length held.cells.marks ≡ squares h.shape → (said U).cells.marks ≡ held.cells.marks
  unfolding cells_filled
  marks_are long =
      ext_get_or 0 _ _ (length-filled n (λ i. false) (λ i. (line i).mark) (replicate n 0) ∙ (zeros ∙ (same_count ∙ sym long)))
      (λ i l.
      let m : i < n = omega (arith, l, length-filled n (λ i. false) (λ i. (line i).mark) (replicate n 0), zeros) in
      filled_in n (λ i. false) (λ i. (line i).mark) (replicate n 0) i (omega (arith, m, zeros)) m refl
      ∙ (line_says i (omega (arith, m, same_count))).mark)

  module _ (f : ℕ → ℕ) where
    abbrev filled-column : List ℕ
    filled-column = filled n (closed_from U (cells_at U) (shape_of U).columns) f (replicate n 0)

    column_long : length filled-column ≡ squares h.shape
    column_long = length-filled n (closed_from U (cells_at U) (shape_of U).columns) f (replicate n 0) ∙ (zeros ∙ same_count)

    column_open : (i : ℕ) → i < squares h.shape → closed held.cells.marks i ≡ false → get_or filled-column i 0 ≡ f i
    column_open i l c =
        let m : i < n = omega (arith, l, same_count) in
        filled_in n (closed_from U (cells_at U) (shape_of U).columns) f (replicate n 0) i (omega (arith, m, zeros)) m (closed_is i m ∙ c)

    column_is :
        (col : List ℕ) → Column held.cells.marks (squares h.shape) col →
        ((i : ℕ) → i < squares h.shape → closed held.cells.marks i ≡ false → f i ≡ get_or col i 0) → filled-column ≡ col
    column_is col c same =
        ext_get_or 0 filled-column col (column_long ∙ sym c.long)
        (λ i l.
        let k : i < squares h.shape = omega (arith, l, column_long) in
        let m : i < n = omega (arith, k, same_count) in
        by_test (closed held.cells.marks i)
        (λ t.
        filled_skipped n (closed_from U (cells_at U) (shape_of U).columns) f (replicate n 0) i (omega (arith, m, zeros)) (closed_is i m ∙ t)
        ∙ (get_or-replicate n i 0 0 m ∙ sym (c.none i k t)))
        (λ t. column_open i k t ∙ same i k t))

-- ---- the checks, with other beds

module _ (shape : Shape) (r : Rules) (held : Rooms) (end : ℕ) (beds : List ℕ) (long : length beds ≡ squares shape)
    (low : (i : ℕ) → i < squares shape → closed held.cells.marks i ≡ false → get_or beds i 0 ≤ most_bed) where
  grounds : grounds_fine (plan_in shape r held) (ground r held.cells.beds held.cells.roughness held.cells.rates) ≡ true →
      grounds_fine (plan_in shape r held) (ground r beds held.cells.roughness held.cells.rates) ≡ true
  unfolding grounds_fine square_ground_fine ground_fine
  grounds e =
      all_of (squares shape) _
      (λ i l.
      or_of (closed held.cells.marks i) _
      (λ c.
      let t = every_each _ (or_right (closed held.cells.marks i) _ (all_at (squares shape) _ e i l) c) in
      let g = every_each _ t.0 in
      each_every _ (each_every _ (le-leb (get_or beds i 0) most_bed (low i l c), (g.1.0, (g.1.1.0, tt))), (t.1.0, tt))))

  pub other_beds_pass : checks_in shape r held end ≡ 0 → checks_in shape r (other_beds held beds) end ≡ 0
  unfolding checks_in check_refusals one_each
  other_beds_pass e =
      let t = refusal_passed _ tt e in
      let one = every_each _ t.0 in
      let two = every_each _ t.1.0 in
      passed_refusal _ (
        each_every _ (one.0, (one.1.0, (one.1.1.0, (eq-eqb (length beds) (squares shape) long, one.1.1.1.1)))),
        (each_every _ (two.0, (grounds two.1.0, tt)), t.1.1),
      )

-- ---- the sheet that is written, where every `?` was reached

rooms_same :
    {m m' b b' k k' r r' d d' x x' y y' : List ℕ} → m ≡ m' → b ≡ b' → k ≡ k' → r ≡ r' → d ≡ d' → x ≡ x' → y ≡ y' →
    rooms m b k r d x y ≡ rooms m' b' k' r' d' x' y'
rooms_same a b c d e f g = cc

module _ (s : List ℕ) (h : Heading) (e : Read h ≡ sheet_of (plugged s) program_rooms)
    (reached : (i : ℕ) → i < squares (shape_of s) → is_hole s i ≡ true → get_or (beds_after s) i 0 ≡ no_bed → ⊥) where
  abbrev P : List ℕ
  P = plugged s

  w : Well P program_rooms h
  w = well P program_rooms h e

  abbrev after : Rooms
  after = other_beds (said P) (beds_after s)

  shape_is : shape_of P ≡ h.shape
  unfolding heading_of
  shape_is = sym (ap (λ (g : Heading). g.shape) w.heading)

  same_squares : squares h.shape ≡ squares (shape_of s)
  same_squares = ap squares (heading-shape s e)

  say_read : Sayable h (said P)
  say_read = subst (λ (g : Heading). Sayable g (said P)) (sym w.heading) (sayable P program_rooms h w)

  say : Sayable h after
  say =
      record {
        grid_small = say_read.grid_small;
        run_small = say_read.run_small;
        marks_low = say_read.marks_low;
        rain_long = say_read.rain_long;
        rain_small = say_read.rain_small;
        inflow_long = say_read.inflow_long;
        inflow_small = say_read.inflow_small;
      }

  of : {col : List ℕ} → Column (marks_read s) (squares (shape_of P)) col → Column (marks_read s) (squares h.shape) col
  of {col} c = subst (λ (g : Shape). Column (marks_read s) (squares g) col) shape_is c

  -- the beds given are in range
  seen : BedsSeen (shape_of s) (marks_read s) (seen_beds s)
  seen = seen_low s (marks_read s) (beds_read s) (beds_low s e)

  bed_low : (i : ℕ) → i < squares h.shape → closed (marks_read s) i ≡ false → get_or (beds_after s) i 0 ≤ most_bed
  unfolding filled_beds after_rounds
  bed_low i l c =
      let m : i < squares (shape_of s) = omega (arith, l, same_squares) in
      let most : get_or (beds_after s) i 0 ≤ no_bed = none_above (shape_of s) (marks_read s) (seen_beds s) seen (squares (shape_of s)) i c in
      by_test (is_hole s i) (λ t. by_eq (get_or (beds_after s) i 0) no_bed (λ z. absurd (reached i m t z)) (λ d. below most d))
      (λ t.
      let start : get_or (seen_beds s) i 0 ≡ get_or (beds_read s) i 0 = seen_at s (marks_read s) (beds_read s) i m ∙ pick_false _ _ t in
      let z : 0 + squares (shape_of s) ≡ squares (shape_of s) = omega arith in
      let kept : get_or (beds_after s) i 0 ≡ get_or (beds_read s) i 0 =
      ap (λ (k : ℕ). get_or (after_rounds (shape_of s) (marks_read s) (seen_beds s) k) i 0) (sym z)
      ∙ (known_later (shape_of s) (marks_read s) (seen_beds s) seen 0 (squares (shape_of s)) i m
      (λ y. omega (arith, sym start ∙ y, beds_low s e i m c))
      ∙ start) in
      omega (arith, kept, beds_low s e i m c))
    where
      below : {x : ℕ} → x ≤ no_bed → (x ≡ no_bed → ⊥) → x ≤ most_bed
      below {x} a d = by_lt x no_bed (λ l. omega (arith, l)) (λ l. absurd (d (omega (arith, a, l))))

  small :
      (i : ℕ) → i < squares h.shape → closed (marks_read s) i ≡ false →
      Readable (get_or (beds_after s) i 0 ∷ get_or (said P).cells.roughness i 0 ∷ get_or (said P).cells.depths i 0 ∷ get_or (said P).cells.rates i 0 ∷ [])
  small i l c = (
    omega (arith, bed_low i l c),
    ((roughness_column P program_rooms h w).small i c, ((depth-column P program_rooms h w).small i c, ((rate_column P program_rooms h w).small i c, tt))),
  )

  few : squares h.shape ≤ most_number
  few = omega (arith, same_squares, few_squares s e)

  abbrev T : List ℕ
  T = lines_written h after (cell_written h.shape.columns after)

  written : sheet_after s ≡ T
  unfolding sheet_written
  written = (repairs s).says_beds h e reached

  not_wall : (i : ℕ) → closed (marks_read s) i ≡ false → get_or (marks_read s) i 0 ≡ 0 → ⊥
  unfolding closed
  not_wall i c = eqb-false _ _ c

  abbrev beds_there : List ℕ
  beds_there = (said T).cells.beds

  says : said T ≡ other_beds (said P) beds_there
  unfolding cells_filled
  says =
      rooms_same (marks_are h after say small few (marks_long P program_rooms h w ∙ ap squares shape_is)) refl
      (column_is h after say small few _ (said P).cells.roughness (of (roughness_column P program_rooms h w)) (λ i l c. (line_says h after say small few i l).roughness (not_wall i c)))
      (column_is h after say small few _ (said P).cells.rates (of (rate_column P program_rooms h w)) (λ i l c. (line_says h after say small few i l).rate (not_wall i c)))
      (column_is h after say small few _ (said P).cells.depths (of (depth-column P program_rooms h w)) (λ i l c. (line_says h after say small few i l).depth (not_wall i c)))
      (rain_table_back h after say _ (lined h after say small few)) (inflow_table_back h after say _ (lined h after say small few))

  bed_there : (i : ℕ) → i < squares h.shape → closed (marks_read s) i ≡ false → get_or beds_there i 0 ≡ get_or (beds_after s) i 0
  unfolding cells_filled
  bed_there i l c = column_open h after say small few _ i l c ∙ (line_says h after say small few i l).bed (not_wall i c)

  beds_there_long : length beds_there ≡ squares h.shape
  unfolding cells_filled
  beds_there_long = column_long h after say small few _

  passes : checks_of T ≡ 0
  unfolding heading_of
  passes =
      let two = two_back h after say _ (lined h after say small few) in
      let before : checks_in h.shape h.rules (said P) h.end ≡ 0 =
      ap (λ (g : Heading). checks_in g.shape g.rules (said P) g.end) w.heading ∙ w.checks in
      ap (λ (g : Shape). checks_in g (line_two T).rules (said T) (line_two T).end) (shape_back h after say _ (lined h after say small few))
      ∙ (ap (λ (g : RunLine). checks_in h.shape g.rules (said T) g.end) two
      ∙ (ap (λ (z : Rooms). checks_in h.shape h.rules z h.end) says
      ∙ other_beds_pass h.shape h.rules (said P) h.end beds_there beds_there_long
      (λ i l c. omega (arith, bed_there i l c, bed_low i l c)) before))

  fine : rooms_fine (shape_of T) (line_one T).side program_rooms ≡ true
  unfolding heading_of
  fine =
      let side : h.rules.square_side ≡ (line_one P).side =
      ap (λ (g : Heading). g.rules.square_side) w.heading ∙ side_same P program_rooms h w in
      ap₂ (λ (g : Shape) (d : ℕ). rooms_fine g d program_rooms) (shape_back h after say _ (lined h after say small few) ∙ sym shape_is)
      (side_back h after say _ (lined h after say small few) ∙ side)
      ∙ w.fine

  reads : sheet_of T program_rooms ≡ Read h
  unfolding sheet_of judged
  reads =
      pick_true _ _ (ap is_some (one_there h after say _ (lined h after say small few)))
      ∙ (pick_true _ _ fine
      ∙ (rw (no_bad h after say small few, passes) (ap Read (heading_back h after say _ (lined h after say small few)))))

  pub reads_back :
      (Read h ≡ sheet_of (sheet_after s) program_rooms)
      × ((said (sheet_after s) ≡ other_beds (said P) (said (sheet_after s)).cells.beds)
      × ((i : ℕ) → i < squares (shape_of s) → closed (marks_read s) i ≡ false → get_or (said (sheet_after s)).cells.beds i 0 ≡ get_or (beds_after s) i 0))
  reads_back =
      subst
      (λ (t : List ℕ).
      (Read h ≡ sheet_of t program_rooms)
      × ((said t ≡ other_beds (said P) (said t).cells.beds)
      × ((i : ℕ) → i < squares (shape_of s) → closed (marks_read s) i ≡ false → get_or (said t).cells.beds i 0 ≡ get_or (beds_after s) i 0)))
      (sym written)
      (sym reads, (says, λ i l c. bed_there i (omega (arith, l, same_squares)) c))
