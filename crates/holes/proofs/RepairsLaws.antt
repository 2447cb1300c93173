-- What holds of a text that is repaired: nothing else changes, a sheet with no `?` comes back, the rounds start from the sheet's own beds, and
-- the ordinary reader gives 12 for a `?`.
-- Assumes nothing.
use mathlib.Core.Path.{◌≡◌, refl, sym, ap, ap₂, subst, ◌∙◌}
use mathlib.Core.Bool.{true, false}
use mathlib.Core.List.{List, [], ◌∷◌, ◌++◌, append_assoc, append-nil}
use Prim.Native.Nat.{ℕ, zero, suc, ◌+◌, ◌/◌, ◌%◌, ◌≤◌, ◌<◌}
use native.Mathlib.Nat.{not-suc-le-zero}
use native.Mathlib.Omega.{arith}
use Rattle.std.proofs.Common.{is_some}
use lib.Dec.{eqb}
use lib.ListN.{length, get_or, drop, length-append}
use borrow.Author.Tests.{le-leb, lt-leb}
use Rattle.reckon.specs.Lists.{joined}
use Rattle.reckon.proofs.TestLaws.{not_both, pick_true, pick_false, no_more, failing_before, refusal_here, refusal_later}
use Rattle.grid.specs.Squares.{squares}
use Rattle.text.specs.Reading.{tab, newline, next_line}
use Rattle.text.specs.Writing.{decimal, field_text, fields_text, rest_text}
use Rattle.text.specs.Inner.Standing.{StandsAt}
use Rattle.text.proofs.ReadingLaws.{by_test, by_lt}
use Rattle.text.proofs.RoundTrip.{front_after}
use Rattle.text.proofs.StandLaws.{stands_first, stands_second, byte_stands}
use Rattle.text.proofs.WritingLaws.{decimal_small, decimal_large}
use Rattle.sheet.specs.Lines.{line_head, cell_line}
use Rattle.sheet.specs.Lines.{grid_line}
use Rattle.sheet.specs.Sheet.{Rooms, cell_or, has_cell, has_one, has_two, rooms_fine, line_one, shape_of, cells_at, cells_read, bad_line, checks_of, heading_of, judged, sheet_of}
use Rattle.sheet.specs.declared.lines.CellLine.{CellLine}
use Rattle.sheet.specs.declared.reading.Heading.{Heading}
use Rattle.sheet.specs.declared.reading.Sheet.TheVariants.{Read, Refused}
use Rattle.sheet.proofs.LetterLaws.{ground_of, cell_stands}
use Rattle.programs.specs.Program.{most_text, program_rooms}
use Rattle.holes.specs.Holes.{question, up_to_bed, hole_at, bed_at, looked_at, start_of, is_hole}
use Rattle.holes.specs.Repaired.{list_line, repaired_with, repaired_text, repair_text, marks_read, beds_read, Repairs}
use Rattle.holes.proofs.HoleLaws.{head_long, hole_spot, all_same, kept, looked_some}
use Rattle.holes.proofs.PutLaws.{no_line_lem}
use Rattle.holes.proofs.RepairLaws.{seen_at, seen_low}
use Rattle.holes.proofs.ReaderLaws.{line_one_stays, all_looked, beds_low}
use Rattle.holes.proofs.WrittenLaws.{says_beds}

-- ---- a sheet with no `?`

module _ (s : List ℕ) (none : (i : ℕ) → i < squares (shape_of s) → is_hole s i ≡ false) where
  -- as many as are looked at are not more than there are
  none_looked : (i : ℕ) → i < looked_at s → is_hole s i ≡ false
  none_looked i l = none i (omega (arith, l, (looked_some (grid_line s) l).all))

  list_none : (marks beds : List ℕ) (n : ℕ) → n ≤ looked_at s → joined n (list_line s marks beds) ≡ []
  unfolding joined
  list_none marks beds zero h = refl
  list_none marks beds (suc n) h =
      ap₂ ◌++◌ (list_none marks beds n (omega arith))
      (no_line_lem s (start_of s n) (n / (shape_of s).columns) (n % (shape_of s).columns) _ _ (none_looked n (omega arith)))

  no_holes : (h : Heading) → length s ≤ most_text → Read h ≡ sheet_of s program_rooms → repair_text s ≡ s
  unfolding repair_text repaired_text repaired_with
  no_holes h short e =
      pick_true _ _ (le-leb (length s) most_text short)
      ∙ (ap (λ (t : List ℕ). repaired_text s (sheet_of t program_rooms)) (kept s (λ i. 48 ∷ []) none_looked)
      ∙ (ap (repaired_text s) (sym e)
      ∙ (ap₂ ◌++◌ (kept s _ none_looked) (list_none (marks_read s) (beds_read s) (looked_at s) (omega arith)) ∙ append-nil s)))

-- ---- the ordinary reader's word for `?`

-- a number begins with a digit
digit-first : (f n : ℕ) → n < f → (rest : List ℕ) → get_or (decimal n ++ rest) 0 0 ≡ question → ⊥
digit-first zero n h rest e = absurd (not-suc-le-zero h)
digit-first (suc f) n h rest e =
    by_lt n 10
    (λ l. omega (arith, l, sym (ap (λ (t : List ℕ). get_or (t ++ rest) 0 0) (decimal_small n l)) ∙ e))
    (λ l.
    digit-first f (n / 10) (omega arith) (((48 + n % 10) ∷ []) ++ rest)
    (sym
    (ap (λ (t : List ℕ). get_or (t ++ rest) 0 0) (decimal_large n l)
    ∙ ap (λ (t : List ℕ). get_or t 0 0) (append_assoc (decimal (n / 10)) ((48 + n % 10) ∷ []) rest))
    ∙ e))

-- so no `?` stands where a number does
no_question : (s : List ℕ) (q n r : ℕ) (u v : List ℕ) → StandsAt s q ((decimal n ++ u) ++ v) r → get_or s q 0 ≡ question → ⊥
no_question s q n r u v a e =
    digit-first (suc n) n (omega arith) (u ++ (v ++ drop r s))
    (sym
    (sym (front_after s q)
    ∙ ap (λ (l : List ℕ). get_or l 0 0)
    (a.text ∙ (append_assoc (decimal n ++ u) v (drop r s) ∙ append_assoc (decimal n) u (v ++ drop r s))))
    ∙ e)

module _ (s : List ℕ) (p row column : ℕ) (t : hole_at s p row column ≡ true) where
  -- what follows the letter: a tab and a `?`
  after_letter : (mark : ℕ) → (get_or s (p + length (line_head row column mark)) 0 ≡ tab) × (get_or s (p + length (line_head row column mark) + 1) 0 ≡ question)
  after_letter mark =
      let k = hole_spot s p row column t in
      let a = stands_first (up_to_bed s p row column k.mark) (question ∷ tab ∷ []) k.stands in
      let b = stands_second (line_head row column k.mark) (tab ∷ []) a in
      let h = head_long row column k.mark mark in
      let z : bed_at s p row column ≡ p + length (line_head row column mark) + 1 =
      omega (arith, length-append (line_head row column 1) (tab ∷ []), head_long row column 1 mark) in
      (subst (λ (n : ℕ). get_or s (p + n) 0 ≡ tab) h (byte_stands b).0, ap (λ (n : ℕ). get_or s n 0) (sym z) ∙ k.byte)

  abbrev cell : CellLine
  cell = cell_or (cell_line s p row column)

  unread_line : is_some (cell_line s p row column) ≡ false
  unfolding ground_of rest_text fields_text field_text
  unread_line =
      no_more (is_some (cell_line s p row column))
      (λ e.
      let end : ℕ = p + length (line_head row column cell.mark) in
      let a : StandsAt s end (rest_text (ground_of cell)) (next_line s p) =
      stands_second (line_head row column cell.mark) (rest_text (ground_of cell)) (cell_stands s p row column e) in
      let g = after_letter cell.mark in
      by_test (eqb cell.mark 0)
      (λ z.
      let c = subst (λ (vs : List ℕ). StandsAt s end (rest_text vs) (next_line s p)) (pick_true _ _ z) a in
      omega (arith, (byte_stands c).0, g.0))
      (λ z.
      let rest : List ℕ = fields_text (cell.roughness ∷ cell.depth ∷ cell.rate ∷ []) in
      let c = subst (λ (vs : List ℕ). StandsAt s end (rest_text vs) (next_line s p)) (pick_false _ _ z) a in
      no_question s (end + 1) cell.bed (next_line s p) rest (newline ∷ [])
      (stands_second (tab ∷ []) ((decimal cell.bed ++ rest) ++ (newline ∷ [])) c) g.1))

module _ (s : List ℕ) (i : ℕ) (l : i < squares (shape_of s)) (t : is_hole s i ≡ true) where
  few_cells : cells_read s (cells_at s) (shape_of s) ≤ i
  unfolding cells_read
  few_cells =
      by_lt i (cells_read s (cells_at s) (shape_of s))
      (λ m.
      not_both (failing_before (squares (shape_of s)) (has_cell s (cells_at s) (shape_of s).columns) i m)
      (unread_line s (start_of s i) (i / (shape_of s).columns) (i % (shape_of s).columns) t))
      (λ m. m)

  -- a line cannot be read
  bad : (k : ℕ) × (bad_line s ≡ suc k)
  unfolding bad_line
  bad =
      by_test (has_two s)
      (λ e. (
        cells_read s (cells_at s) (shape_of s) + 2,
        refusal_later 2 _ e
            ∙ (refusal_here _ _ (lt-leb (squares (shape_of s)) (cells_read s (cells_at s) (shape_of s)) (omega (arith, l, few_cells))) ∙ omega arith),
      ))
      (λ e. (1, refusal_here 2 _ e))

  twelve :
      (lent : Rooms) → rooms_fine (shape_of s) (line_one s).side lent ≡ true → (line : ℕ) × (Refused 12 line ≡ sheet_of s lent)
  unfolding sheet_of judged
  twelve lent fine =
      by_test (has_one s)
      (λ e. (
        suc bad.0,
        sym (pick_true _ _ e ∙ (pick_true _ _ fine ∙ ap (λ (n : ℕ). judged n (checks_of s) (heading_of s)) bad.1)),
      ))
      (λ e. (1, sym (pick_false _ _ e)))

-- ---- all of it

pub repairs : (s : List ℕ) → Repairs s
repairs s =
    record {
      nothing_else = all_same s;
      line_one_stays = line_one_stays s;
      no_holes = λ h short e none. no_holes s none h short e;
      known_bed = λ i l t. seen_at s (marks_read s) (beds_read s) i l ∙ pick_false _ _ t;
      hole_unknown = λ i l t. seen_at s (marks_read s) (beds_read s) i l ∙ pick_true _ _ t;
      beds-seen = λ h e. seen_low s (marks_read s) (beds_read s) (beds_low s e);
      all_looked = λ h e. all_looked s e;
      says_beds = λ h e reached. says_beds s e reached;
      reader_twelve = λ lent fine i l t. twelve s i l t lent fine;
    }
