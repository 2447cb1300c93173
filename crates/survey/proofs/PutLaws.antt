-- Laws of lines put into a room piece by piece: each piece fits, and together they are the whole.
-- Assumes nothing.
use mathlib.Core.Path.{◌≡◌, refl, sym, ap, subst, ◌∙◌}
use mathlib.Core.Bool.{true, false}
use mathlib.Core.List.{List, [], ◌∷◌, ◌++◌, append-nil}
use Prim.Native.Nat.{ℕ, zero, suc, ◌+◌, ◌*◌, ◌/◌, ◌%◌, ◌≤◌, ◌<◌}
use native.Mathlib.Omega.{arith}
use lib.ListN.{length, get_or, drop, length-append}
use Rattle.reckon.specs.Lists.{joined, tabulate}
use Rattle.reckon.specs.Tables.{rain_kind, inflow_kind}
use Rattle.reckon.proofs.TestLaws.{pick_true, pick_false}
use Rattle.reckon.proofs.ListLaws.{length-tabulate, get_or-tabulate}
use Rattle.grid.specs.Squares.{squares}
use Rattle.grid.specs.Marks.{closed}
use Rattle.text.specs.Reading.{newline}
use Rattle.text.specs.Writing.{field_text, fields_text, rest_text, line_text, Wrote}
use Rattle.text.proofs.WritingLaws.{Left, left_all, left_fits, left_step, left_none, wrote_length, wrote_both, fields_text_more, fields_text_end}
use Rattle.sheet.specs.Lines.{rain_word, inflow_word, e_letter, letter_of, line_head}
use Rattle.sheet.specs.Sheet.{Cells, Rooms}
use Rattle.sheet.specs.Written.{grid_written, run_written, ground_at, cell_written, row_written, lines_written, sheet_written}
use Rattle.sheet.specs.declared.reading.Heading.{Heading}
use Rattle.answer.proofs.PrintLaws.{written_as}
use Rattle.survey.specs.Sets.{note_text, mark_line}
use Rattle.survey.specs.Inner.Writing.{only_cells}

-- ---- a text that is two texts, or three, one after the other

module _ {t : List ℕ} (u v : List ℕ) (same : t ≡ u ++ v) (at : ℕ) (old : List ℕ) (fits : at + length t ≤ length old) where
  long : at + length u + length v ≤ length old
  long = omega (arith, fits, ap length same, length-append u v)

  pub one_fits : at + length u ≤ length old
  one_fits = omega (arith, long)

  module _ {a : List ℕ} {p : ℕ} (x : Wrote u at old a p) where
    pub two_fits : p + length v ≤ length a
    two_fits = omega (arith, long, x.next, wrote_length one_fits x)

    pub both_put : {new : List ℕ} {r : ℕ} → Wrote v p a new r → Wrote t at old new r
    both_put y = written_as same (wrote_both long x y)

module _ {t : List ℕ} (u v w : List ℕ) (same : t ≡ u ++ (v ++ w)) (at : ℕ) (old : List ℕ) (fits : at + length t ≤ length old) where
  pub first_fits : at + length u ≤ length old
  first_fits = one_fits u (v ++ w) same at old fits

  module _ {a : List ℕ} {p : ℕ} (x : Wrote u at old a p) where
    rest_fits : p + length (v ++ w) ≤ length a
    rest_fits = two_fits u (v ++ w) same at old fits x

    pub second_fits : p + length v ≤ length a
    second_fits = one_fits v w refl p a rest_fits

    module _ {b : List ℕ} {q : ℕ} (y : Wrote v p a b q) where
      pub third_fits : q + length w ≤ length b
      third_fits = two_fits v w refl p a rest_fits y

      pub three_put : {new : List ℕ} {r : ℕ} → Wrote w q b new r → Wrote t at old new r
      three_put z = both_put u (v ++ w) same at old fits x (both_put v w refl p a rest_fits y z)

-- ---- a square's line

pub third_letter : (mark : ℕ) → mark < 3 → (mark ≡ 0 → ⊥) → (mark ≡ 1 → ⊥) → e_letter ≡ letter_of mark
unfolding letter_of
third_letter zero h a b = absurd (a refl)
third_letter (suc zero) h a b = absurd (b refl)
third_letter (suc (suc zero)) h a b = refl
third_letter (suc (suc (suc mark))) h a b = absurd (omega (arith, h))

pub mark_line_is : (columns i mark : ℕ) → mark_line columns i mark ≡ line_head (i / columns) (i % columns) mark ++ (newline ∷ [])
unfolding mark_line rest_text fields_text
mark_line_is columns i mark = refl

-- its four numbers and its end
module _ {a b c d x y z w : ℕ} (e : a ≡ x) (f : b ≡ y) (g : c ≡ z) (h : d ≡ w) (at : ℕ) (old : List ℕ)
    (fits : at + length (rest_text (x ∷ y ∷ z ∷ w ∷ [])) ≤ length old) where
  ground_is : rest_text (x ∷ y ∷ z ∷ w ∷ []) ≡ fields_text (a ∷ b ∷ c ∷ d ∷ []) ++ (newline ∷ [])
  unfolding rest_text
  ground_is = rw (e, f, g, h) refl

  pub ground_fits : at + length (fields_text (a ∷ b ∷ c ∷ d ∷ [])) ≤ length old
  ground_fits = one_fits (fields_text (a ∷ b ∷ c ∷ d ∷ [])) (newline ∷ []) ground_is at old fits

  module _ {n : List ℕ} {p : ℕ} (put : Wrote (fields_text (a ∷ b ∷ c ∷ d ∷ [])) at old n p) where
    pub end_fits : p < length n
    end_fits = omega (arith, two_fits (fields_text (a ∷ b ∷ c ∷ d ∷ [])) (newline ∷ []) ground_is at old fits put)

    pub ground_put : {new : List ℕ} {r : ℕ} → Wrote (newline ∷ []) p n new r → Wrote (rest_text (x ∷ y ∷ z ∷ w ∷ [])) at old new r
    ground_put v = both_put (fields_text (a ∷ b ∷ c ∷ d ∷ [])) (newline ∷ []) ground_is at old fits put v

module _ (columns i : ℕ) (held : Cells) where
  abbrev head : List ℕ
  head = line_head (i / columns) (i % columns) (get_or held.marks i 0)

  pub cell_is : cell_written columns (only_cells held) i ≡ head ++ rest_text (ground_at (only_cells held) i)
  unfolding cell_written
  cell_is = refl

  pub closed_cell_is : closed held.marks i ≡ true → cell_written columns (only_cells held) i ≡ head ++ (newline ∷ [])
  unfolding cell_written ground_at rest_text fields_text
  closed_cell_is e = ap (λ (vs : List ℕ). head ++ rest_text vs) (pick_true _ _ e)

  pub open_cell_is :
      closed held.marks i ≡ false →
      cell_written columns (only_cells held) i
      ≡ head ++ rest_text (get_or held.beds i 0 ∷ get_or held.roughness i 0 ∷ get_or held.depths i 0 ∷ get_or held.rates i 0 ∷ [])
  unfolding cell_written ground_at
  open_cell_is e = ap (λ (vs : List ℕ). head ++ rest_text vs) (pick_false _ _ e)

-- ---- a row of a table

-- its numbers: what is left of them from number i on
module _ (table : List ℕ) (first width : ℕ) where
  abbrev pub numbers : List ℕ
  numbers = tabulate width (λ k. get_or table (first + k) 0)

  module _ {n i p at : ℕ} {room total old : List ℕ} (l : i < width) (e : n ≡ get_or table (first + i) 0)
      (left : Left (fields_text (drop i numbers)) p room total at old) where
    next_left : Left (field_text n ++ fields_text (drop (i + 1) numbers)) p room total at old
    next_left =
        let many = length-tabulate width (λ k. get_or table (first + k) 0) in
        let value : get_or numbers i 0 ≡ n = get_or-tabulate width (λ k. get_or table (first + k) 0) i l ∙ sym e in
        let more = fields_text_more numbers i (omega (arith, l, many)) in
        subst (λ (t : List ℕ). Left t p room total at old)
        (more ∙ ap (λ (v : ℕ). field_text v ++ fields_text (drop (i + 1) numbers)) value) left

    pub number_fits : p + length (field_text n) ≤ length room
    number_fits = omega (arith, left_fits (field_text n) (fields_text (drop (i + 1) numbers)) next_left)

    pub number_put : {new : List ℕ} {q : ℕ} → Wrote (field_text n) p room new q → Left (fields_text (drop (i + 1) numbers)) q new total at old
    number_put w = left_step next_left w

  pub numbers_put : (i : ℕ) {p at : ℕ} {room total old : List ℕ} → width ≤ i → Left
      (fields_text (drop i numbers)) p room total at old → Wrote total at old room p
  numbers_put i {p} {at} {room} {total} {old} h left =
      left_none
      (subst (λ (t : List ℕ). Left t p room total at old)
      (fields_text_end numbers i (omega (arith, h, length-tabulate width (λ k. get_or table (first + k) 0)))) left)

pub row_is : (word : List ℕ) (width : ℕ) (table : List ℕ) (j : ℕ) →
    row_written word width table j ≡ word ++ (fields_text (numbers table (width * j) width) ++ (newline ∷ []))
unfolding row_written line_text rest_text
row_is word width table j = refl

-- ---- the whole: lines 1 and 2, the squares', and the tables

module _ (h : Heading) (held : Rooms) (cell : ℕ → List ℕ) (old : List ℕ) (fits : length (lines_written h held cell) ≤ length old) where
  abbrev total : List ℕ
  total = lines_written h held cell

  abbrev cells : List ℕ
  cells = joined (squares h.shape) cell

  abbrev rain : List ℕ
  rain = joined h.rain_rows (row_written rain_word rain_kind.width held.rain)

  abbrev inflow : List ℕ
  inflow = joined h.inflow_rows (row_written inflow_word inflow_kind.width held.inflow)

  left_0 : Left (grid_written h ++ (run_written h ++ (cells ++ (rain ++ inflow)))) 0 old total 0 old
  unfolding lines_written
  left_0 = left_all total 0 old (omega (arith, fits))

  pub grid_fits : 0 + length (grid_written h) ≤ length old
  grid_fits = omega (arith, left_fits (grid_written h) (run_written h ++ (cells ++ (rain ++ inflow))) left_0)

  module _ {a : List ℕ} {p : ℕ} (u : Wrote (grid_written h) 0 old a p) where
    left_1 : Left (run_written h ++ (cells ++ (rain ++ inflow))) p a total 0 old
    left_1 = left_step left_0 u

    pub run_fits : p + length (run_written h) ≤ length a
    run_fits = omega (arith, left_fits (run_written h) (cells ++ (rain ++ inflow)) left_1)

    module _ {b : List ℕ} {q : ℕ} (v : Wrote (run_written h) p a b q) where
      left_2 : Left (cells ++ (rain ++ inflow)) q b total 0 old
      left_2 = left_step left_1 v

      pub cells_fit : q + length cells ≤ length b
      cells_fit = omega (arith, left_fits cells (rain ++ inflow) left_2)

      module _ {c : List ℕ} {r : ℕ} (w : Wrote cells q b c r) where
        left_3 : Left (rain ++ inflow) r c total 0 old
        left_3 = left_step left_2 w

        pub rain_fits : r + length rain ≤ length c
        rain_fits = omega (arith, left_fits rain inflow left_3)

        module _ {d : List ℕ} {e : ℕ} (x : Wrote rain r c d e) where
          left_4 : Left (inflow ++ []) e d total 0 old
          left_4 = subst (λ (k : List ℕ). Left k e d total 0 old) (sym (append-nil inflow)) (left_step {v = rain} {rest = inflow} left_3 x)

          pub inflow_fits : e + length inflow ≤ length d
          inflow_fits = omega (arith, left_fits inflow [] left_4)

          pub lines_put : {new : List ℕ} {end : ℕ} → Wrote inflow e d new end → Wrote total 0 old new end
          lines_put y = left_none (left_step left_4 y)

-- a sheet, by what its squares' lines look at
pub sheet_lines :
    (h : Heading) (held : Rooms) → sheet_written h held ≡ lines_written h held (cell_written h.shape.columns (only_cells held.cells))
unfolding sheet_written cell_written ground_at
sheet_lines h held = refl

pub note_lines : (h : Heading) (held : Rooms) → note_text h held ≡ lines_written h held
    (λ i. mark_line h.shape.columns i (get_or held.cells.marks i 0))
unfolding note_text
note_lines h held = refl
