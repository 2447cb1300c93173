-- Laws of what is printed of a text: the beds that are seen, the sheet and the list by what rooms hold, and how long they can get.
-- Assumes nothing.
use mathlib.Core.Path.{◌≡◌, sym, ap, ap₂, subst, ◌∙◌}
use mathlib.Core.Bool.{true, false, not}
use mathlib.Core.List.{List, [], ◌∷◌, ◌++◌}
use Prim.Native.Nat.{ℕ, zero, suc, ◌+◌, ◌*◌, ◌/◌, ◌%◌, ◌^◌, ◌≤◌, ◌<◌}
use native.Mathlib.Nat.{div-le_self, mod-le}
use native.Mathlib.Omega.{arith}
use lib.ListN.{length, get_or, replicate, length-append, length-replicate, get_or-replicate, get_or-eq_default}
use borrow.Author.Tests.{ne_eqb}
use Rattle.reckon.specs.Tests.{pick}
use Rattle.reckon.specs.Lists.{filled, joined}
use Rattle.reckon.specs.Ranges.{most_bed}
use Rattle.reckon.proofs.TestLaws.{pick_true, pick_false, pick_both, failing_le}
use Rattle.reckon.proofs.ListLaws.{length-tabulate, get_or-tabulate, is_tabulate, length-filled, filled_in, filled_skipped, joined_ext}
use Rattle.grid.specs.Squares.{squares}
use Rattle.grid.specs.Marks.{closed}
use Rattle.grid.specs.declared.squares.Shape.{Shape}
use Rattle.text.specs.Reading.{tab, newline}
use Rattle.text.specs.Writing.{decimal, field_text, fields_text, Wrote}
use Rattle.text.proofs.ReadingLaws.{by_test, by_lt}
use Rattle.text.proofs.WritingLaws.{decimal_small, decimal-short, fields_text_short, written_as}
use Rattle.text.proofs.JoinedLaws.{joined-short}
use Rattle.sheet.specs.Lines.{grid_line}
use Rattle.sheet.specs.Sheet.{shape_of}
use Rattle.holes.specs.Rounds.{no_bed, filled_beds, round_filling, BedsSeen}
use Rattle.holes.specs.Holes.{hole_at, looked_at, start_of, is_hole, with_beds, plugged}
use Rattle.holes.specs.Repaired.{bed_text, given_text, hole_text, seen_in, beds_in, list_line, repaired_with, most_repaired}
use Rattle.holes.specs.Inner.Steps.{RoundsMade, Looked, beds_put, listed_line, listed, Repairable, PutsRepaired}
use Rattle.holes.proofs.RoundLaws.{by_eq, long}
use Rattle.holes.proofs.HoleLaws.{looked_few, with_ext, with_bounded}
use Rattle.holes.proofs.PutLaws.{unknown_text, known_text, unknown_given, known_given, no_line_lem, a-line, other_fits, both_put}

-- ---- how long the words can get

pub bed_short : (bed : ℕ) → bed < 2 ^ 32 → length (bed_text bed) ≤ 10
bed_short bed h =
    by_eq bed no_bed (λ e. omega (arith, ap length (unknown_text bed e)))
    (λ d. omega (arith, ap length (known_text bed d), decimal-short 9 bed (omega (arith, h))))

-- the most bytes of a line of the list
abbrev line_most : ℕ
line_most = 44

two_below : (a b : ℕ) → a < 2 ^ 32 → b < 2 ^ 32 → (i : ℕ) → i < 2 → get_or (a ∷ b ∷ []) i 0 < 10 ^ 10
two_below a b h g zero l = omega (arith, h)
two_below a b h g (suc zero) l = omega (arith, g)
two_below a b h g (suc (suc i)) l = absurd (omega (arith, l))

field-short : (n : ℕ) → n < 2 ^ 32 → length (field_text n) ≤ 11
unfolding field_text
field-short n h = omega (arith, decimal-short 9 n (omega (arith, h)))

given-short :
    (row column bed turn : ℕ) → row < 2 ^ 32 → column < 2 ^ 32 → bed < 2 ^ 32 → turn < 2 ^ 32 → length (given_text row column bed turn) ≤ line_most
given-short row column bed turn a b c d =
    by_eq bed no_bed
    (λ e.
    omega (
      arith,
      ap length (unknown_given row column bed turn e),
      length-append (decimal row) (field_text column ++ (tab ∷ 45 ∷ tab ∷ 45 ∷ newline ∷ [])),
      length-append (field_text column) (tab ∷ 45 ∷ tab ∷ 45 ∷ newline ∷ []),
      decimal-short 9 row (omega (arith, a)),
      field-short column b,
    ))
    (λ e.
    omega (
      arith,
      ap length (known_given row column bed turn e),
      length-append (decimal row) (field_text column ++ (fields_text (bed ∷ turn ∷ []) ++ (newline ∷ []))),
      length-append (field_text column) (fields_text (bed ∷ turn ∷ []) ++ (newline ∷ [])),
      length-append (fields_text (bed ∷ turn ∷ [])) (newline ∷ []),
      decimal-short 9 row (omega (arith, a)),
      field-short column b,
      fields_text_short 9 (bed ∷ turn ∷ []) (two_below bed turn c d),
    ))

hole_short :
    (s : List ℕ) (p row column bed turn : ℕ) → row < 2 ^ 32 → column < 2 ^ 32 → bed < 2 ^ 32 → turn < 2 ^ 32 →
    length (hole_text s p row column bed turn) ≤ line_most
unfolding hole_text
hole_short s p row column bed turn a b c d =
    pick_both (λ (t : List ℕ). length t ≤ line_most) (hole_at s p row column) (given-short row column bed turn a b c d) (omega arith)

-- ---- `0` for each hole

zero_at : (n i : ℕ) → get_or (replicate {A = ℕ} n 0) i 0 ≡ 0
zero_at n i =
    by_lt i n (λ l. get_or-replicate n i 0 0 l)
    (λ l. get_or-eq_default (replicate {A = ℕ} n 0) 0 (omega (arith, l, length-replicate {A = ℕ} n 0)))

pub plug_is : (s : List ℕ) (n : ℕ) → beds_put s (replicate n 0) ≡ plugged s
plug_is s n =
    with_ext s (λ i. bed_text (get_or (replicate n 0) i 0)) (λ i. 48 ∷ [])
    (λ i l. ap bed_text (zero_at n i) ∙ (known_text 0 (λ z. omega (arith, z)) ∙ decimal_small 0 (omega arith)))

pub plug_short : (s : List ℕ) → length (plugged s) ≤ length s
plug_short s = omega (arith, with_bounded s (λ i. 48 ∷ []) 0 (λ i. omega arith))

-- ---- the beds that are seen

module _ (s marks beds : List ℕ) where
  abbrev n : ℕ
  n = squares (shape_of s)

  pub seen_at : (i : ℕ) → i < n → get_or (seen_in s marks beds) i 0 ≡ pick (is_hole s i) no_bed (get_or beds i 0)
  unfolding seen_in
  seen_at i l = get_or-tabulate n _ i l

  pub seen_long : length (seen_in s marks beds) ≡ n
  unfolding seen_in
  seen_long = length-tabulate n _

  -- as a loop marks them
  pub seen_is : {marked : List ℕ} {k : ℕ} → k ≡ n → length beds ≡ n → marked ≡ filled k (λ i. not (is_hole s i)) (λ i. no_bed) beds → marked ≡ seen_in s marks beds
  unfolding seen_in
  seen_is {marked} {k} e l h =
      h
      ∙ (ap (λ (m : ℕ). filled m (λ i. not (is_hole s i)) (λ i. no_bed) beds) e
      ∙ is_tabulate n _ (filled n (λ i. not (is_hole s i)) (λ i. no_bed) beds) (length-filled n _ _ beds ∙ l)
      (λ i m.
      by_test (is_hole s i)
      (λ t. filled_in n (λ j. not (is_hole s j)) (λ j. no_bed) beds i (omega (arith, m, l)) m (ap not t) ∙ sym (pick_true _ _ t))
      (λ t. filled_skipped n (λ j. not (is_hole s j)) (λ j. no_bed) beds i (omega (arith, m, l)) (ap not t) ∙ sym (pick_false _ _ t))))

  pub seen_low : ((i : ℕ) → i < n → closed marks i ≡ false → get_or beds i 0 ≤ most_bed) → BedsSeen (shape_of s) marks (seen_in s marks beds)
  seen_low low =
      record {
        one_each = seen_long;
        none_above = λ i c.
            by_lt i n
            (λ l.
            subst (λ (x : ℕ). x ≤ no_bed) (sym (seen_at i l))
            (pick_both (λ (x : ℕ). x ≤ no_bed) (is_hole s i) (omega arith) (omega (arith, low i l c))))
            (λ l.
            subst (λ (x : ℕ). x ≤ no_bed) (sym (get_or-eq_default (seen_in s marks beds) 0 (omega (arith, l, seen_long)))) (omega arith));
      }

  -- a line of the list, by what rooms hold after the rounds
  module _ {after turns old : List ℕ} (room : n ≤ length old) (m : RoundsMade (shape_of s) marks (seen_in s marks beds) after old turns) where
    pub beds_same : beds_put s after ≡ with_beds s (λ i. bed_text (get_or (beds_in s marks beds) i 0))
    beds_same = ap (beds_put s) m.beds_are

    turn_is :
        (i : ℕ) → i < n → is_hole s i ≡ true → (get_or after i 0 ≡ no_bed → ⊥) → get_or turns i 0 ≡ round_filling (shape_of s) marks (seen_in s marks beds) i
    turn_is i l t d =
        ap (λ (k : List ℕ). get_or k i 0) m.turns_are
        ∙ filled_in n _ (round_filling (shape_of s) marks (seen_in s marks beds)) old i (omega (arith, l, room)) l
        (ne_eqb _ _ (λ z. d (z ∙ (seen_at i l ∙ pick_true _ _ t))))

    abbrev row : ℕ → ℕ
    row i = i / (shape_of s).columns

    abbrev column : ℕ → ℕ
    column i = i % (shape_of s).columns

    abbrev turn : ℕ → ℕ
    turn i = round_filling (shape_of s) marks (seen_in s marks beds) i

    turn_low : (i : ℕ) → turn i ≤ n
    unfolding round_filling
    turn_low i = failing_le n _

    same_given : (i : ℕ) → i < n → is_hole s i ≡ true → given_text (row i) (column i) (get_or after i 0) (get_or turns i 0) ≡ given_text (row i) (column i) (get_or after i 0) (turn i)
    same_given i l t =
        by_eq (get_or after i 0) no_bed
        (λ e. unknown_given (row i) (column i) (get_or after i 0) (get_or turns i 0) e ∙ sym (unknown_given (row i) (column i) (get_or after i 0) (turn i) e))
        (λ d. ap (given_text (row i) (column i) (get_or after i 0)) (turn_is i l t d))

    line_same : (i : ℕ) → i < n → listed_line s after turns i ≡ list_line s marks beds i
    line_same i l =
        by_test (is_hole s i)
        (λ t.
        a-line s (start_of s i) (row i) (column i) (get_or after i 0) (get_or turns i 0) t
        ∙ (same_given i l t
        ∙ (ap (λ (k : List ℕ). given_text (row i) (column i) (get_or k i 0) (turn i)) m.beds_are
        ∙ sym (a-line s (start_of s i) (row i) (column i) (get_or (beds_in s marks beds) i 0) (turn i) t))))
        (λ t.
        no_line_lem s (start_of s i) (row i) (column i) (get_or after i 0) (get_or turns i 0) t
        ∙ sym (no_line_lem s (start_of s i) (row i) (column i) (get_or (beds_in s marks beds) i 0) (turn i) t))

    module _ (all : looked_at s ≡ n) where
      pub list_same : listed s after turns ≡ joined (looked_at s) (list_line s marks beds)
      list_same = joined_ext (looked_at s) (listed_line s after turns) (list_line s marks beds) (λ i l. line_same i (omega (arith, l, all)))

      pub list-short : ((i : ℕ) → get_or after i 0 < 2 ^ 32) → length (listed s after turns) ≤ line_most * looked_at s
      list-short words =
          let few = looked_few (grid_line s) in
          subst (λ (t : List ℕ). length t ≤ line_most * looked_at s) (sym list_same)
          (joined-short (looked_at s) line_most (list_line s marks beds)
          (λ i l.
          hole_short s (start_of s i) (row i) (column i) (get_or (beds_in s marks beds) i 0) (turn i)
          (omega (arith, div-le_self i (shape_of s).columns, l, few)) (omega (arith, mod-le i (shape_of s).columns, l, few))
          (omega (arith, words i, ap (λ (k : List ℕ). get_or k i 0) m.beds_are)) (omega (arith, turn_low i, all, few))))

-- the sheet with its beds, and then the list
pub sheet_short : (s after : List ℕ) → ((i : ℕ) → get_or after i 0 < 2 ^ 32) → length (beds_put s after) ≤ length s + 9 * looked_at s
sheet_short s after words = with_bounded s (λ i. bed_text (get_or after i 0)) 9 (λ i. omega (arith, bed_short (get_or after i 0) (words i)))

module _ (s : List ℕ) {shape : Shape} {marks beds : List ℕ} (k : Repairable s shape marks beds) where
  same_squares : squares shape ≡ squares (shape_of s)
  same_squares = ap squares k.shape_is

  all_looked-at : looked_at s ≡ squares (shape_of s)
  all_looked-at = sym k.all_looked ∙ same_squares

  pub looked : {n : ℕ} → n ≡ squares shape → Looked s shape.columns n
  looked e = record { columns_are = ap (λ (h : Shape). h.columns) k.shape_is; squares_are = e ∙ k.all_looked }

  module _ {n : ℕ} {marked : List ℕ} (count : n ≡ squares shape) (mark : marked ≡ filled n (λ i. not (is_hole s i)) (λ i. no_bed) beds) where
    is_seen : marked ≡ seen_in s marks beds
    is_seen = seen_is s marks beds (count ∙ same_squares) (sym k.beds_long ∙ same_squares) mark

    pub seen : BedsSeen shape marks marked
    seen =
        subst (λ (h : Shape). BedsSeen h marks marked) (sym k.shape_is)
        (subst (BedsSeen (shape_of s) marks) (sym is_seen)
        (seen_low s marks beds (λ i l c. k.beds_low i (omega (arith, l, same_squares)) c)))

    module _ {after old turns : List ℕ} (room : squares shape ≤ length old) (made : RoundsMade shape marks marked after old turns) where
      made_as : RoundsMade (shape_of s) marks (seen_in s marks beds) after old turns
      made_as =
          subst (λ (l : List ℕ). RoundsMade (shape_of s) marks l after old turns) is_seen
          (subst (λ (h : Shape). RoundsMade h marks marked after old turns) k.shape_is made)

      pub rooms_long : (length after ≡ squares shape) × (length turns ≡ length old)
      unfolding filled_beds
      rooms_long =
          (ap length made.beds_are ∙ long shape marks marked seen (squares shape), ap length made.turns_are ∙ length-filled (squares shape) _ _ old)

      module _ (words : (i : ℕ) → get_or after i 0 < 2 ^ 32) (out : List ℕ) (large : most_repaired ≤ length out) where
        sheet_most : length (beds_put s after) ≤ 74_752
        sheet_most = omega (arith, sheet_short s after words, k.short, k.few, k.all_looked)

        list_most : length (listed s after turns) ≤ 45_056
        list_most =
            omega (arith, list-short s marks beds (omega (arith, room, same_squares)) made_as all_looked-at words, k.few, k.all_looked)

        pub sheet_fits : length (beds_put s after) ≤ length out
        sheet_fits = omega (arith, sheet_most, large)

        both_fit : 0 + length (beds_put s after ++ listed s after turns) ≤ length out
        both_fit = omega (arith, length-append (beds_put s after) (listed s after turns), sheet_most, list_most, large)

        both_is : beds_put s after ++ listed s after turns ≡ repaired_with s marks beds
        unfolding repaired_with
        both_is =
            ap₂ ◌++◌ (beds_same s marks beds (omega (arith, room, same_squares)) made_as)
            (list_same s marks beds (omega (arith, room, same_squares)) made_as all_looked-at)

        module _ {a : List ℕ} {p : ℕ} (x : Wrote (beds_put s after) 0 out a p) where
          pub list_fits : p + length (listed s after turns) ≤ length a
          list_fits = other_fits (beds_put s after) (listed s after turns) 0 out both_fit x

          pub repaired_put : {new : List ℕ} {r : ℕ} → Wrote (listed s after turns) p a new r → PutsRepaired s marks beds out new r
          repaired_put y =
              record {
                wrote = written_as (sym both_is) (both_put (beds_put s after) (listed s after turns) 0 out both_fit x y);
                fits =
                    subst (λ (t : List ℕ). length t ≤ most_repaired) both_is
                    (omega (arith, length-append (beds_put s after) (listed s after turns), sheet_most, list_most));
              }
