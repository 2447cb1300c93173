-- A grid that is written reads back: its header, each of its squares, and nothing is left over.
-- Assumes nothing.
use mathlib.Core.Path.{◌≡◌, refl, sym, ap, subst, ◌∙◌}
use mathlib.Core.Bool.{Bool, true, false, ◌&&◌}
use mathlib.Core.List.{List, [], ◌∷◌, ◌++◌}
use Prim.Native.Nat.{ℕ, zero, suc, ◌+◌, ◌≤◌, ◌<◌}
use native.Mathlib.Nat.{add-zero}
use native.Mathlib.Omega.{arith}
use Rattle.std.proofs.Common.{Option, Some, None, Result, Ok, is_some, is_ok}
use lib.Dec.{ltb, leb}
use lib.ListN.{length, get_or, drop, drop_of_length-le}
use borrow.Author.Tests.{lt-ltb, le-leb}
use Rattle.reckon.specs.Tests.{pick}
use Rattle.reckon.specs.Lists.{joined}
use Rattle.reckon.proofs.TestLaws.{not_both, pick_true, pick_false, pick_both, and_both, failing_none}
use Rattle.grid.specs.Squares.{squares}
use Rattle.grid.specs.Marks.{closed}
use Rattle.grid.specs.declared.squares.Shape.{Shape}
use Rattle.text.specs.Bytes.{bytes_of}
use Rattle.text.specs.Reading.{newline, most_number, is_digit, word_at, with_number}
use Rattle.text.specs.Inner.Standing.{StandsAt}
use Rattle.text.specs.declared.reading.Number.{Number}
use Rattle.text.proofs.ReadingLaws.{by_test, by_lt, digit_under, word_differs}
use Rattle.text.proofs.StandLaws.{stands_first, stands_second, stands_within, byte_stands, word_stands, front_stands, back_stands}
use Rattle.text.proofs.JoinedLaws.{start_of, joined_stands}
use Rattle.text.proofs.RoundTrip.{front_after}
use Rattle.raster.specs.Amounts.{amount_text}
use Rattle.raster.specs.Raster.{space, no_data, last_in_row, head_text, entry_text, grid_text, spaces_of, head_of, head_or, next_of, bare_entry, past_gap, parted, entry_at, place_from, entry_from, entry_of, grid_bad}
use Rattle.raster.specs.Inner.Steps.{read_from, value_text, gap_byte}
use Rattle.raster.specs.declared.amounts.Scale.{Scale}
use Rattle.raster.specs.declared.reading.Entry.{Entry}
use Rattle.raster.specs.declared.reading.Head.{Head}
use Rattle.raster.proofs.AmountLaws.{amount_back, amount_begins}
use Rattle.raster.proofs.HeadLaws.{Over, over_byte, digit_clear, head_back}
use Rattle.raster.proofs.PutLaws.{value_closed, value_open}
use Rattle.raster.proofs.SpaceLaws.{spaces_none, one_space}

-- ---- one square

-- what square i reads as, where the next one starts at q
abbrev pub saying : List ℕ → List ℕ → ℕ → ℕ → Option Entry
saying marks values i q = Some (record { value = pick (closed marks i) None (Some (get_or values i 0)); next = q })

-- it says the same, wherever the next one starts
same_saying : (marks values : List ℕ) (i : ℕ) {v : Option ℕ} {p q : ℕ} → v ≡ pick (closed marks i) None (Some (get_or values i 0)) → p ≡ q →
    Some (record { value = v; next = p }) ≡ saying marks values i q
same_saying marks values i e f = λ j. Some (record { value = e j; next = f j })

module _ (k : Scale) (columns : ℕ) (marks values : List ℕ) where
  abbrev body : ℕ → List ℕ
  body = value_text k marks values

  gap_low : (i : ℕ) → gap_byte columns i < 46
  gap_low i = pick_both (λ (b : ℕ). b < 46) (last_in_row columns i) (omega arith) (omega arith)

  entry_clear : {s : List ℕ} {p q : ℕ} (i : ℕ) → StandsAt s p (entry_text k columns marks values i) q → spaces_of (drop p s) ≡ 0
  unfolding entry_text bytes_of
  entry_clear {s} {p} {q} i a =
      let b = stands_first (body i) (gap_byte columns i ∷ []) a in
      by_test (closed marks i)
      (λ e.
      spaces_none (drop p s)
      (λ z.
      let here = b.text ∙ ap (λ (t : List ℕ). t ++ drop (p + length (body i)) s) (value_closed k marks values i e) in
      absurd (omega (arith, sym (ap (λ (l : List ℕ). get_or l 0 0) here) ∙ z))))
      (λ e.
      digit_clear (amount_begins k (get_or values i 0))
      (subst (λ (t : List ℕ). StandsAt s p t (p + length (body i))) (value_open k marks values i e refl) b))

  -- a number is not `-9999`
  not_shut : {s : List ℕ} {p q : ℕ} (n : ℕ) → StandsAt s p (amount_text k n) q → word_at s p no_data ≡ false
  unfolding bytes_of
  not_shut {s} {p} {q} n a =
      let e : is_digit (get_or s (p + 0) 0) ≡ true =
      ap (λ (x : ℕ). is_digit (get_or s x 0)) (add-zero p)
      ∙ (ap is_digit (sym (front_after s p)) ∙ (ap (λ (l : List ℕ). is_digit (get_or l 0 0)) a.text ∙ amount_begins k n (drop q s))) in
      word_differs s p no_data 0 (omega arith) (λ z. not_both e (digit_under (get_or s (p + 0) 0) (omega (arith, z))))

  bare_back :
      {s : List ℕ} {p q : ℕ} (i : ℕ) → (closed marks i ≡ false → get_or values i 0 ≤ most_number) → StandsAt s p (body i) q → Over s q →
      bare_entry k s p ≡ saying marks values i q
  unfolding bare_entry bytes_of
  bare_back {s} {p} {q} i h a o =
      by_test (closed marks i)
      (λ e.
      let b : StandsAt s p no_data q = subst (λ (t : List ℕ). StandsAt s p t q) (value_closed k marks values i e) a in
      pick_true _ _ (word_stands (stands_within b) b) ∙ same_saying marks values i (sym (pick_true _ _ e)) (sym b.after))
      (λ e.
      let n : ℕ = get_or values i 0 in
      let b : StandsAt s p (amount_text k n) q = subst (λ (t : List ℕ). StandsAt s p t q) (value_open k marks values i e refl) a in
      pick_false _ _ (not_shut n b)
      ∙ (ap (λ (v : Option Number). with_number v None (λ m r. Some (record { value = Some m; next = r })))
      (amount_back k n b o.alone o.dot (h e))
      ∙ same_saying marks values i (sym (pick_false _ _ e)) refl))

  gap_back :
      {s : List ℕ} {q r : ℕ} (i : ℕ) → StandsAt s q (gap_byte columns i ∷ []) r → spaces_of (drop r s) ≡ 0 → past_gap s (last_in_row columns i) q ≡ r
  unfolding past_gap
  gap_back {s} {q} {r} i a clear =
      by_test (last_in_row columns i)
      (λ e.
      let b : StandsAt s q (newline ∷ []) r = rw (pick_true newline space e) at a in
      pick_true _ _ e ∙ (pick_true _ _ (byte_stands b).1 ∙ sym b.after))
      (λ e.
      let b : StandsAt s q (space ∷ []) r = rw (pick_false newline space e) at a in
      pick_false _ _ e ∙ one_space b clear)

  parted_back :
      (s : List ℕ) (last : Bool) (i q r : ℕ) → past_gap s last q ≡ r → q < r →
      parted s last (saying marks values i q) ≡ saying marks values i r
  unfolding parted
  parted_back s last i q r e h = pick_true _ _ (ap (ltb q) e ∙ lt-ltb q r h) ∙ same_saying marks values i refl e

  entry_back :
      {s : List ℕ} {p r : ℕ} (i : ℕ) → (closed marks i ≡ false → get_or values i 0 ≤ most_number) →
      StandsAt s p (entry_text k columns marks values i) r → spaces_of (drop r s) ≡ 0 → entry_at k s p (last_in_row columns i) ≡ saying marks values i r
  unfolding entry_text
  entry_back {s} {p} {r} i h a clear =
      let first = stands_first (body i) (gap_byte columns i ∷ []) a in
      let second = stands_second (body i) (gap_byte columns i ∷ []) a in
      ap (parted s (last_in_row columns i)) (bare_back i h first (over_byte (gap_byte columns i) (gap_low i) second))
      ∙ parted_back s (last_in_row columns i) i (p + length (body i)) r (gap_back i second clear) (omega (arith, second.after))

-- ---- all squares

module _ (k : Scale) (shape : Shape) (marks values : List ℕ) (D : ℕ) (columns-small : shape.columns ≤ most_number)
    (rows_small : shape.rows ≤ most_number) (D-small : D ≤ most_number)
    (values-small : (i : ℕ) → closed marks i ≡ false → get_or values i 0 ≤ most_number) where
  abbrev whole : List ℕ
  whole = grid_text k shape marks values D

  abbrev base : ℕ
  base = length (head_text shape D)

  abbrev texts : ℕ → List ℕ
  texts = entry_text k shape.columns marks values

  abbrev start : ℕ → ℕ
  start = start_of base texts

  all_stand : StandsAt whole base (joined (squares shape) texts) (length whole)
  unfolding grid_text
  all_stand = back_stands (head_text shape D) (joined (squares shape) texts)

  -- the header says the shape and D
  pub head_read : head_of whole ≡ Ok (record { shape = shape; side = D; next = base })
  unfolding grid_text
  head_read = head_back shape D columns-small rows_small D-small (front_stands (head_text shape D) (joined (squares shape) texts))

  square_stands : (i : ℕ) → i < squares shape → StandsAt whole (start i) (texts i) (start (suc i))
  square_stands i h = joined_stands (squares shape) texts all_stand i h

  -- no space stands where a square starts, nor at the end
  clear : (i : ℕ) → i ≤ squares shape → spaces_of (drop (start i) whole) ≡ 0
  clear i h =
      by_lt i (squares shape) (λ l. entry_clear k shape.columns marks values i (square_stands i l))
      (λ l.
      let e : i ≡ squares shape = omega arith in
      spaces_none (drop (start i) whole)
      (λ z.
      let g : length whole ≤ start i = omega (arith, all_stand.after, ap start e) in
      let n : drop (start i) whole ≡ [] = drop_of_length-le whole g in
      absurd (omega (arith, sym (ap (λ (l : List ℕ). get_or l 0 0) n) ∙ z))))

  read_back :
      (i : ℕ) → i < squares shape → entry_at k whole (start i) (last_in_row shape.columns i) ≡ saying marks values i (start (suc i))
  read_back i h = entry_back k shape.columns marks values i (values-small i) (square_stands i h) (clear (suc i) h)

  place_is : (i : ℕ) → i ≤ squares shape → place_from k whole base shape.columns i ≡ start i
  unfolding place_from joined
  place_is zero h = omega arith
  place_is (suc i) h =
      ap (λ (p : ℕ). next_of p (entry_at k whole p (last_in_row shape.columns i))) (place_is i (omega arith))
      ∙ ap (next_of (start i)) (read_back i h)

  entry_is : (i : ℕ) → i < squares shape → entry_from k whole base shape.columns i ≡ saying marks values i (start (suc i))
  entry_is i h = ap (λ (p : ℕ). entry_at k whole p (last_in_row shape.columns i)) (place_is i (omega arith)) ∙ read_back i h

  all_read : read_from k whole base shape ≡ squares shape
  all_read = failing_none (squares shape) _ (λ i h. ap is_some (entry_is i h))

  -- what is said of a grid by its header
  grid_is : (P : Result Head ℕ → Type 0) → P (Ok (record { shape = shape; side = D; next = base })) → P (head_of whole)
  grid_is P h = subst P (sym head_read) h

  -- each square says whether it is closed, and else its number
  pub square_is : (i : ℕ) → i < squares shape → entry_of k whole i ≡ saying marks values i (start (suc i))
  square_is i h =
      grid_is
      (λ (g : Result Head ℕ). entry_from k whole (head_or g).next (head_or g).shape.columns i ≡ saying marks values i (start (suc i)))
      (entry_is i h)

  -- nothing in it is bad
  pub grid_read : grid_bad k whole ≡ 0
  unfolding grid_bad
  grid_read =
      pick_true _ _
      (grid_is
      (λ (g : Result Head ℕ).
      (is_ok g
      && (leb (squares (head_or g).shape) (read_from k whole (head_or g).next (head_or g).shape)
      && leb (length whole) (place_from k whole (head_or g).next (head_or g).shape.columns (read_from k whole (head_or g).next (head_or g).shape)))) ≡ true)
      (rw (all_read, place_is (squares shape) (omega arith))
      (and_both _ _ (le-leb (squares shape) (squares shape) (omega arith))
      (le-leb (length whole) (start (squares shape)) (omega (arith, all_stand.after))))))
