-- Laws of a square's line: one that is found stands in the text as it would be written, the letter of its mark and its numbers too.
-- Assumes nothing.
use mathlib.Core.Path.{◌≡◌, refl, sym, ap, ◌∙◌, subst}
use mathlib.Core.Bool.{true}
use mathlib.Core.List.{List, [], ◌∷◌, ◌++◌, append_assoc}
use Prim.Native.Nat.{ℕ, ◌+◌, ◌≤◌}
use native.Mathlib.Omega.{arith}
use Rattle.std.proofs.Common.{Option, Some, None, is_some, option_map}
use lib.Dec.{eqb}
use lib.ListN.{length, get_or, take, drop}
use lib.Seq.{get_or-take}
use borrow.Author.Tests.{eqb-true}
use Rattle.reckon.specs.Tests.{pick}
use Rattle.reckon.specs.Lists.{tabulate}
use Rattle.reckon.proofs.TestLaws.{not_both}
use Rattle.reckon.proofs.ListLaws.{is_tabulate}
use Rattle.text.specs.Reading.{tab, newline, is_byte, word_at, fields_at, rest_of_line, next_line, FieldsAt, RestOfLine}
use Rattle.text.specs.Writing.{fields_text, rest_text}
use Rattle.text.specs.Inner.Standing.{StandsAt}
use Rattle.text.specs.declared.reading.Fields.{Fields}
use Rattle.text.proofs.StandLaws.{stands_both, stands_first, stands_byte, stands_word}
use Rattle.text.proofs.RoundTrip.{fields_found, rest_found}
use Rattle.sheet.specs.Lines.{cell_word, x_letter, o_letter, e_letter, open_fields, place_fields, closed_cell, as_open, open_cell, marked_cell, placed_cell, cell_line, letter_of, line_head}
use Rattle.sheet.specs.Sheet.{cell_or}
use Rattle.sheet.specs.declared.lines.CellLine.{CellLine}
use Rattle.sheet.proofs.KindLaws.{choice, lined_next, ended, cell_ends}

-- the first k of a list that has them, one by one
pub first_of : (k : ℕ) (l : List ℕ) → length (take k l) ≡ k → take k l ≡ tabulate k (λ i. get_or l i 0)
first_of k l e = is_tabulate k (λ i. get_or l i 0) (take k l) e (λ i h. get_or-take k l i 0 h)

-- ---- the mark, and what follows it

-- the numbers after the mark
unfoldable pub ground_of : CellLine → List ℕ
ground_of c = pick (eqb c.mark 0) [] (c.bed ∷ c.roughness ∷ c.depth ∷ c.rate ∷ [])

-- where the line is found, its mark's letter stands after a tab, and then its numbers up to the line's end
abbrev Lettered : List ℕ → ℕ → Option CellLine → Type 0
Lettered s p (Some c) = StandsAt s p ((tab ∷ letter_of c.mark ∷ []) ++ rest_text (ground_of c)) c.next
Lettered s p None = Unit {0}

module _ (s : List ℕ) (p : ℕ) where
  module _ (t : is_byte s p tab ≡ true) where
    letter_stands : (letter : ℕ) → is_byte s (p + 1) letter ≡ true → StandsAt s p (tab ∷ letter ∷ []) (p + 2)
    letter_stands letter h =
        let e : p + 1 + 1 ≡ p + 2 = omega arith in
        subst (λ (q : ℕ). StandsAt s p (tab ∷ letter ∷ []) q) e (stands_both (stands_byte s p tab t) (stands_byte s (p + 1) letter h))

    closed_lettered : is_byte s (p + 1) x_letter ≡ true → Lettered s p (closed_cell s (p + 2))
    unfolding closed_cell letter_of ground_of rest_text fields_text pick
    closed_lettered h =
        choice (Lettered s p) (is_byte s (p + 2) newline) (λ n. stands_both (letter_stands x_letter h) (stands_byte s (p + 2) newline n))
        (λ n. tt)

    rest_stands : {f : Fields} → RestOfLine s (p + 2) open_fields (Some f) →
        StandsAt s (p + 2) (rest_text (get_or f.values 0 0 ∷ get_or f.values 1 0 ∷ get_or f.values 2 0 ∷ get_or f.values 3 0 ∷ [])) f.next
    unfolding tabulate
    rest_stands {f} e =
        let a = rest_found {f = f} s (p + 2) open_fields (omega arith) e in
        subst (λ (vs : List ℕ). StandsAt s (p + 2) (rest_text vs) f.next) (first_of open_fields f.values a.many) a.stands

    open_lettered : is_byte s (p + 1) o_letter ≡ true → Lettered s p (open_cell s (p + 2) 1)
    unfolding open_cell as_open letter_of ground_of pick
    open_lettered h = go (rest_of_line s (p + 2) open_fields) refl
      where
        go : (f : Option Fields) → RestOfLine s (p + 2) open_fields f → Lettered s p (option_map (as_open 1) f)
        go (Some f) e = stands_both (letter_stands o_letter h) (rest_stands e)
        go None e = tt

    exit_lettered : is_byte s (p + 1) e_letter ≡ true → Lettered s p (open_cell s (p + 2) 2)
    unfolding open_cell as_open letter_of ground_of pick
    exit_lettered h = go (rest_of_line s (p + 2) open_fields) refl
      where
        go : (f : Option Fields) → RestOfLine s (p + 2) open_fields f → Lettered s p (option_map (as_open 2) f)
        go (Some f) e = stands_both (letter_stands e_letter h) (rest_stands e)
        go None e = tt

  marked_lettered : Lettered s p (marked_cell s p)
  unfolding marked_cell
  marked_lettered =
      choice (Lettered s p) (is_byte s p tab)
      (λ t.
      choice (Lettered s p) (is_byte s (p + 1) x_letter) (closed_lettered t)
      (λ n.
      choice (Lettered s p) (is_byte s (p + 1) o_letter) (open_lettered t)
      (λ m. choice (Lettered s p) (is_byte s (p + 1) e_letter) (exit_lettered t) (λ k. tt))))
      (λ n. tt)

-- ---- the line

module _ (s : List ℕ) (p row column : ℕ) where
  -- where the line is found it is this
  abbrev Whole : Option CellLine → Type 0
  Whole (Some c) = StandsAt s p (line_head row column c.mark ++ rest_text (ground_of c)) c.next
  Whole None = Unit {0}

  whole_of : (c : Option CellLine) → Whole c → is_some c ≡ true →
      StandsAt s p (line_head row column (cell_or c).mark ++ rest_text (ground_of (cell_or c))) (cell_or c).next
  whole_of (Some c) w e = w
  whole_of None w e = not_both e refl

  parts : (a b c d : List ℕ) → a ++ (b ++ (c ++ d)) ≡ (a ++ (b ++ c)) ++ d
  parts a b c d = sym (append_assoc a (b ++ c) d ∙ ap (λ (l : List ℕ). a ++ l) (append_assoc b c d))

  placed_whole : {f : Fields} → word_at s p cell_word ≡ true → FieldsAt s (p + length cell_word) place_fields (Some f) →
      get_or f.values 0 0 ≡ row → get_or f.values 1 0 ≡ column → Whole (marked_cell s f.next)
  unfolding tabulate
  placed_whole {f} w e r c = go (marked_cell s f.next) (marked_lettered s f.next)
    where
      go : (m : Option CellLine) → Lettered s f.next m → Whole m
      go (Some m) l =
          let written = fields_found {f = f} s (p + length cell_word) place_fields (omega arith) e in
          let values : take place_fields f.values ≡ row ∷ column ∷ [] = first_of place_fields f.values written.many ∙ rw (r, c) in
          subst (λ (t : List ℕ). StandsAt s p t m.next)
          (parts cell_word (fields_text (row ∷ column ∷ [])) (tab ∷ letter_of m.mark ∷ []) (rest_text (ground_of m)))
          (stands_both (stands_word s p cell_word w)
          (stands_both (subst (λ (vs : List ℕ). StandsAt s (p + length cell_word) (fields_text vs) f.next) values written.stands) l))
      go None l = tt

  cell_whole : Whole (cell_line s p row column)
  unfolding cell_line placed_cell
  cell_whole = choice Whole (word_at s p cell_word) (λ w. go w (fields_at s (p + length cell_word) place_fields) refl) (λ n. tt)
    where
      go : word_at s p cell_word ≡ true → (f : Option Fields) → FieldsAt s (p + length cell_word) place_fields f → Whole (placed_cell s row column f)
      go w (Some f) e =
          choice Whole (eqb (get_or f.values 0 0) row)
          (λ r. choice Whole (eqb (get_or f.values 1 0) column) (λ c. placed_whole w e (eqb-true _ _ r) (eqb-true _ _ c)) (λ n. tt))
          (λ n. tt)
      go w None e = tt

  module _ (e : is_some (cell_line s p row column) ≡ true) where
    abbrev cell : CellLine
    cell = cell_or (cell_line s p row column)

    -- a square's line that is found stands as it would be written
    pub cell_stands : StandsAt s p (line_head row column cell.mark ++ rest_text (ground_of cell)) (next_line s p)
    cell_stands =
        subst (λ (q : ℕ). StandsAt s p (line_head row column cell.mark ++ rest_text (ground_of cell)) q)
        (sym (lined_next (ended s p _ (cell_ends s p row column) e))) (whole_of _ cell_whole e)

    -- and begins with its word, the row, the column and the letter of its mark
    pub cell_headed : drop p s ≡ line_head row column cell.mark ++ drop (p + length (line_head row column cell.mark)) s
    cell_headed = (stands_first (line_head row column cell.mark) (rest_text (ground_of cell)) cell_stands).text

-- ---- the mark

-- "mark: 0 closed, 1 open, 2 exit": a line has no other
abbrev Marked : Option CellLine → Type 0
Marked c = (cell_or c).mark ≤ 2

none_marked : Marked None
none_marked = omega arith

open_marked : (s : List ℕ) (p mark : ℕ) → mark ≤ 2 → Marked (open_cell s p mark)
unfolding open_cell as_open
open_marked s p mark h = go (rest_of_line s p open_fields)
  where
    go : (f : Option Fields) → Marked (option_map (as_open mark) f)
    go (Some f) = h
    go None = none_marked

marked_marked : (s : List ℕ) (p : ℕ) → Marked (marked_cell s p)
unfolding marked_cell closed_cell
marked_marked s p =
    choice Marked _
    (λ t.
    choice Marked _ (λ x. choice Marked _ (λ n. omega arith) (λ n. none_marked))
    (λ x.
    choice Marked _ (λ o. open_marked s (p + 2) 1 (omega arith))
    (λ o. choice Marked _ (λ e. open_marked s (p + 2) 2 (omega arith)) (λ e. none_marked))))
    (λ t. none_marked)

pub cell_marked : (s : List ℕ) (p row column : ℕ) → Marked (cell_line s p row column)
unfolding cell_line placed_cell
cell_marked s p row column = choice Marked _ (λ w. go (fields_at s (p + length cell_word) place_fields)) (λ w. none_marked)
  where
    go : (f : Option Fields) → Marked (placed_cell s row column f)
    go (Some f) = choice Marked _ (λ r. choice Marked _ (λ c. marked_marked s f.next) (λ c. none_marked)) (λ r. none_marked)
    go None = none_marked
