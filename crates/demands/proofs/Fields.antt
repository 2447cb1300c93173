-- Each field of a sheet is the number that is stored, and each number printed is the one it is said to be: the lines stand in the text as
-- they would be written, and words written in letters are those bytes.
-- Assumes nothing.
use mathlib.Core.Path.{◌≡◌, refl, sym, ap, ◌∙◌}
use mathlib.Core.Bool.{Bool}
use mathlib.Core.List.{List, [], ◌∷◌, ◌++◌, append_assoc}
use Prim.Native.Nat.{ℕ, suc, ◌+◌, ◌*◌, ◌/◌, ◌%◌, ◌<◌}
use native.Mathlib.Nat.{add-zero, mul-suc, mul-le-mul_left}
use native.Mathlib.Omega.{arith}
use lib.Dec.{eqb}
use lib.ListN.{get_or, drop}
use borrow.Author.Tests.{eq-eqb, ne_eqb}
use Rattle.reckon.specs.Lists.{tabulate, joined}
use Rattle.reckon.specs.Tables.{rain_kind, inflow_kind}
use Rattle.reckon.proofs.TestLaws.{pick_true, pick_false}
use Rattle.reckon.proofs.ListLaws.{tabulate_ext, joined_ext}
use Rattle.grid.specs.Squares.{squares}
use Rattle.grid.specs.Marks.{closed}
use Rattle.text.specs.Bytes.{bytes_of}
use Rattle.text.specs.Reading.{tab, line_from}
use Rattle.text.specs.Writing.{fields_text, rest_text, line_text}
use Rattle.text.specs.Inner.Standing.{LineStands}
use Rattle.text.proofs.ReadingLaws.{by_test}
use Rattle.sheet.specs.Lines.{cell_word, rain_word, inflow_word, letter_of}
use Rattle.sheet.specs.Sheet.{Rooms}
use Rattle.sheet.specs.Written.{grid_written, run_written, ground_at, cell_written, row_written, lines_written, sheet_written}
use Rattle.sheet.specs.declared.reading.Heading.{Heading}
use Rattle.sheet.proofs.WrittenLaws.{SheetStands, said_stands, read_stands, stands_written}
use Rattle.answer.specs.Printed.{refused_text, cell_text, cells_text, totals_text, made_text}
use Rattle.answer.proofs.ApartLaws.{made_apart, refused_apart, made_not_refused}
use Rattle.demands.specs.Fields.{LineIs, place_of, ground_in, SheetFields, SaysSame, SheetTold, AnswerTold}

-- ---- the lines of a sheet

-- the line of a square by its mark
module _ (h : Heading) (held : Rooms) (i : ℕ) where
  abbrev mark : ℕ
  mark = get_or held.cells.marks i 0

  abbrev numbers : List ℕ
  numbers = fields_text (i / h.shape.columns ∷ i % h.shape.columns ∷ [])

  parts : (letter rest : List ℕ) → (cell_word ++ (numbers ++ letter)) ++ rest ≡ (cell_word ++ numbers) ++ (letter ++ rest)
  parts letter rest =
      append_assoc cell_word (numbers ++ letter) rest
      ∙ (ap (λ (l : List ℕ). cell_word ++ l) (append_assoc numbers letter rest) ∙ sym (append_assoc cell_word numbers (letter ++ rest)))

  closed-ground : mark ≡ 0 → ground_at held i ≡ []
  unfolding ground_at closed
  closed-ground e = pick_true _ _ (eq-eqb mark 0 e)

  closed_line : mark ≡ 0 → cell_written h.shape.columns held i ≡ place_of h i ++ bytes_of "\tx\n"
  unfolding cell_written letter_of rest_text fields_text bytes_of
  closed_line e = parts (tab ∷ letter_of mark ∷ []) (rest_text (ground_at held i)) ∙ rw (e, closed-ground e)

  other_ground : (mark ≡ 0 → ⊥) → ground_at held i ≡ ground_in held i
  unfolding ground_at closed
  other_ground d = pick_false _ _ (ne_eqb mark 0 d)

  letter_line : (letter : ℕ) → (mark ≡ 0 → ⊥) → letter_of mark ≡ letter →
      cell_written h.shape.columns held i ≡ place_of h i ++ ((tab ∷ letter ∷ []) ++ rest_text (ground_in held i))
  unfolding cell_written bytes_of
  letter_line letter d e = parts (tab ∷ letter_of mark ∷ []) (rest_text (ground_at held i)) ∙ rw (e, other_ground d)

  open_line : mark ≡ 1 → cell_written h.shape.columns held i ≡ place_of h i ++ (bytes_of "\to" ++ rest_text (ground_in held i))
  unfolding letter_of bytes_of
  open_line e = letter_line 111 (λ z. omega (arith, z, e)) (ap letter_of e)

  exit_line : mark ≡ 2 → cell_written h.shape.columns held i ≡ place_of h i ++ (bytes_of "\te" ++ rest_text (ground_in held i))
  unfolding letter_of bytes_of
  exit_line e = letter_line 101 (λ z. omega (arith, z, e)) (ap letter_of e)

rain_line : (table : List ℕ) (j : ℕ) →
    row_written rain_word rain_kind.width table j ≡ line_text (bytes_of "rain") (get_or table (3 * j) 0 ∷ get_or table (3 * j + 1) 0 ∷ get_or table (3 * j + 2) 0 ∷ [])
unfolding row_written tabulate bytes_of
rain_line table j = rw add-zero

inflow_line : (table : List ℕ) (j : ℕ) →
    row_written inflow_word inflow_kind.width table j
    ≡ line_text (bytes_of "inflow")
    (get_or table (5 * j) 0 ∷ get_or table (5 * j + 1) 0 ∷ get_or table (5 * j + 2) 0 ∷ get_or table (5 * j + 3) 0 ∷ get_or table (5 * j + 4) 0 ∷ [])
unfolding row_written tabulate bytes_of
inflow_line table j = rw add-zero

module _ {s : List ℕ} {h : Heading} {held : Rooms} (a : SheetStands s h held) where
  -- a line that stands, in other words
  line_as : (k : ℕ) {t u : List ℕ} → t ≡ u → LineStands s k t → LineIs s k u
  line_as k e l = l.text ∙ ap (λ (x : List ℕ). x ++ drop (line_from s 0 (suc k)) s) e

  stands_fields : SheetFields s h held
  unfolding grid_written run_written bytes_of
  stands_fields =
      record {
        grid = a.grid-line.text;
        run = a.run-line.text;
        closed-cell = λ i l e. line_as _ (closed_line h held i e) (a.cells i l);
        open-cell = λ i l e. line_as _ (open_line h held i e) (a.cells i l);
        exit_cell = λ i l e. line_as _ (exit_line h held i e) (a.cells i l);
        no_other_mark = a.marks;
        rain = λ j l. line_as _ (rain_line held.rain j) (a.rain j l);
        inflow = λ j l. line_as _ (inflow_line held.inflow j) (a.inflow j l);
        no_other_line = a.nothing_left;
        whole = stands_written a;
      }

-- ---- sheets that say the same

module _ (h : Heading) (a b : Rooms) (same : SaysSame h a b) where
  ground_same : (i : ℕ) → i < squares h.shape → ground_at a i ≡ ground_at b i
  unfolding ground_at closed
  ground_same i l =
      by_test (eqb (get_or a.cells.marks i 0) 0) (λ c. pick_true _ _ c ∙ sym (pick_true _ _ (other c)))
      (λ c.
      pick_false _ _ c
      ∙ (four (same.beds i l c) (same.roughness i l c) (same.depths i l c) (same.rates i l c) ∙ sym (pick_false _ _ (other c))))
    where
      other : {c : Bool} → eqb (get_or a.cells.marks i 0) 0 ≡ c → eqb (get_or b.cells.marks i 0) 0 ≡ c
      other e = ap (λ (m : ℕ). eqb m 0) (sym (same.marks i l)) ∙ e

      four : {k m n o x y z w : ℕ} → k ≡ x → m ≡ y → n ≡ z → o ≡ w → ◌≡◌ {A = List ℕ} (k ∷ m ∷ n ∷ o ∷ []) (x ∷ y ∷ z ∷ w ∷ [])
      four e f g i = cc

  cell_same : (i : ℕ) → i < squares h.shape → cell_written h.shape.columns a i ≡ cell_written h.shape.columns b i
  unfolding cell_written
  cell_same i l = rw (same.marks i l, ground_same i l)

  rows_same : (word : List ℕ) (width rows : ℕ) (t u : List ℕ) → ((m : ℕ) → m < width * rows → get_or t m 0 ≡ get_or u m 0) →
      joined rows (row_written word width t) ≡ joined rows (row_written word width u)
  unfolding row_written
  rows_same word width rows t u e =
      joined_ext rows _ _
      (λ j l. ap (line_text word) (tabulate_ext width _ _ (λ k g. e (width * j + k) (omega (arith, g, mul-le-mul_left width l, mul-suc width j)))))

  written_same : sheet_written h a ≡ sheet_written h b
  unfolding sheet_written lines_written
  written_same =
      rw (
        joined_ext (squares h.shape) (cell_written h.shape.columns a) (cell_written h.shape.columns b) cell_same,
        rows_same rain_word rain_kind.width h.rain_rows a.rain b.rain same.rain,
        rows_same inflow_word inflow_kind.width h.inflow_rows a.inflow b.inflow same.inflow,
      )

pub sheet_told : SheetTold
sheet_told =
    record {
      read = λ s before after h R. stands_fields (read_stands s before after h R);
      run_on = λ s lent h e. stands_fields (said_stands s lent h (sym e));
      one_text = λ s t before after other-before other_after h R Q same.
          stands_written (read_stands s before after h R)
          ∙ (written_same h after other_after same ∙ sym (stands_written (read_stands t other-before other_after h Q)));
    }

-- ---- what is printed

pub answer_told : AnswerTold
unfolding made_text totals_text cells_text refused_text cell_text bytes_of
answer_told =
    record {
      world = λ p depths u steps. refl;
      refusal = λ number line. refl;
      world-told = λ p d e u v steps others q.
          let a = made_apart p d e u v steps others q in
          record { depths = a.0; outflow = a.1; soaked = a.2; steps_same = a.3; clock = a.4 };
      refusal-told = λ number line other-number other_line q. refused_apart number other-number line other_line q;
      never_both = made_not_refused;
    }
