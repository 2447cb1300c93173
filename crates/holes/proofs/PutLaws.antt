-- Laws of what is put into a room: a hole that is found, a line with a bed for it, the lines of all squares, and the list.
-- Assumes nothing.
use mathlib.Core.Path.{◌≡◌, refl, sym, ap, ap₂, subst, ◌∙◌}
use mathlib.Core.Bool.{Bool, true, false, ◌||◌}
use mathlib.Core.List.{List, [], ◌∷◌, ◌++◌, append_assoc, append-nil}
use Prim.Native.Nat.{ℕ, zero, suc, ◌+◌, ◌-◌, ◌/◌, ◌%◌, ◌^◌, ◌≤◌, ◌<◌}
use native.Mathlib.Numerals.{add-one}
use native.Mathlib.Omega.{arith}
use lib.Dec.{eqb}
use lib.ListN.{length, get_or, take, drop, length-append, length-drop}
use lib.Seq.{take_all}
use borrow.Author.Tests.{eq-eqb, ne_eqb}
use Rattle.reckon.specs.Tests.{pick}
use Rattle.reckon.proofs.TestLaws.{not_both, pick_true, pick_false, no_more}
use Rattle.text.specs.Reading.{tab, newline, word_at, next_line, line_from}
use Rattle.text.specs.Writing.{decimal, field_text, fields_text, rest_text, Wrote}
use Rattle.text.proofs.ReadingLaws.{by_test, word_within}
use Rattle.text.proofs.StandLaws.{stands_word, stands_both, stands_first, stands_second, word_stands}
use Rattle.text.proofs.WritingLaws.{Left, left_all, left_fits, left_step, left_none, written_as, placed_none, wrote_length, wrote_both, fields_text_short}
use Rattle.sheet.specs.Lines.{grid_line, cell_word, letter_of, line_head}
use Rattle.sheet.specs.Sheet.{cells_at}
use Rattle.sheet.proofs.JudgeLaws.{take_put}
use Rattle.holes.specs.Rounds.{no_bed}
use Rattle.holes.specs.Holes.{question, between, up_to_bed, hole_at, bed_at, line_with, looked_at, start_of, is_hole, with_beds}
use Rattle.holes.specs.Repaired.{bed_text, given_text, hole_text}
use Rattle.holes.specs.Inner.Steps.{place_text, hole_in, Looked, line_put, beds_put, cells_put, listed_line}
use Rattle.std.proofs.Common.{Some, None}
use Rattle.holes.proofs.HoleLaws.{looked_some, start-in}

-- ---- a text that is three texts, one after the other

module _ {t : List ℕ} (u v w : List ℕ) (same : t ≡ u ++ (v ++ w)) (at : ℕ) (old : List ℕ) (fits : at + length t ≤ length old) where
  all_left : Left (u ++ (v ++ w)) at old t at old
  all_left = subst (λ (x : List ℕ). Left x at old t at old) same (left_all t at old fits)

  pub first_fits : at + length u ≤ length old
  first_fits = omega (arith, left_fits u (v ++ w) all_left)

  module _ {a : List ℕ} {p : ℕ} (x : Wrote u at old a p) where
    two_left : Left (v ++ w) p a t at old
    two_left = left_step all_left x

    pub second_fits : p + length v ≤ length a
    second_fits = omega (arith, left_fits v w two_left)

    module _ {b : List ℕ} {q : ℕ} (y : Wrote v p a b q) where
      one_left : Left (w ++ []) q b t at old
      one_left = subst (λ (k : List ℕ). Left k q b t at old) (sym (append-nil w)) (left_step {v = v} {rest = w} two_left y)

      pub third_fits : q + length w ≤ length b
      third_fits = omega (arith, left_fits w [] one_left)

      pub three_put : {new : List ℕ} {r : ℕ} → Wrote w q b new r → Wrote t at old new r
      three_put z = left_none (left_step one_left z)

-- nothing is put
pub nothing_put : {t : List ℕ} (at : ℕ) (room : List ℕ) → t ≡ [] → Wrote t at room room at
nothing_put at room e = written_as e (record { next = omega arith; room = sym (placed_none room at) })

-- ---- what a square's line begins with

place_below : (row column : ℕ) → row < 2 ^ 64 → column < 2 ^ 64 → (j : ℕ) → j < 2 → get_or (row ∷ column ∷ []) j 0 < 10 ^ 20
place_below row column l g zero h = omega (arith, l)
place_below row column l g (suc zero) h = omega (arith, g)
place_below row column l g (suc (suc j)) h = absurd (omega (arith, h))

pub place_short : (row column : ℕ) → row < 2 ^ 64 → column < 2 ^ 64 → length (place_text row column) ≤ 64
place_short row column l g =
    omega (
      arith,
      length-append cell_word (fields_text (row ∷ column ∷ []) ++ (tab ∷ [])),
      length-append (fields_text (row ∷ column ∷ [])) (tab ∷ []),
      fields_text_short 19 (row ∷ column ∷ []) (place_below row column l g),
    )

-- a text put at a room's start is what the room begins with
module _ {t old new : List ℕ} {r : ℕ} (put : Wrote t 0 old new r) where
  put_ends : length t ≡ r
  put_ends = omega (arith, put.next)

  pub put_within : 0 + length t ≤ length old → r ≤ length new
  put_within fits = omega (arith, put_ends, fits, wrote_length fits put)

  pub put_again : take r new ≡ t
  put_again = ap (take r) put.room ∙ take_put old t r put_ends

-- ---- a word that is two words

word_both : (s : List ℕ) (p : ℕ) (a b : List ℕ) → word_at s p a ≡ true → word_at s p (a ++ b) ≡ word_at s (p + length a) b
word_both s p a b e =
    by_test (word_at s (p + length a) b)
    (λ f.
    let x = stands_both (stands_word s p a e) (stands_word s (p + length a) b f) in
    word_stands (word_within s (p + length a) b f) x ∙ sym f)
    (λ f. no_more (word_at s p (a ++ b)) (λ g. not_both (second g) f) ∙ sym f)
  where
    second : word_at s p (a ++ b) ≡ true → word_at s (p + length a) b ≡ true
    second g =
        word_stands (omega (arith, word_within s p (a ++ b) g)) (stands_second a b (stands_word s p (a ++ b) g))

word_not : (s : List ℕ) (p : ℕ) (a b : List ℕ) → word_at s p a ≡ false → word_at s p (a ++ b) ≡ false
word_not s p a b e =
    no_more (word_at s p (a ++ b))
    (λ g.
    not_both
    (word_stands (omega (arith, word_within s p (a ++ b) g, length-append a b)) (stands_first a b (stands_word s p (a ++ b) g)))
    e)

-- ---- a hole

module _ (s : List ℕ) (p row column : ℕ) where
  abbrev after : ℕ
  after = p + length (place_text row column)

  abbrev o_hole : List ℕ
  o_hole = 111 ∷ tab ∷ question ∷ tab ∷ []

  abbrev e_hole : List ℕ
  e_hole = 101 ∷ tab ∷ question ∷ tab ∷ []

  o_is : up_to_bed s p row column 1 ++ (question ∷ tab ∷ []) ≡ place_text row column ++ o_hole
  unfolding letter_of
  o_is = simp append_assoc

  e_is : up_to_bed s p row column 2 ++ (question ∷ tab ∷ []) ≡ place_text row column ++ e_hole
  unfolding letter_of
  e_is = simp append_assoc

  -- the `?` stands two bytes after the letter
  bed_is : after + 2 ≡ bed_at s p row column
  bed_is =
      omega (
        arith,
        length-append cell_word (fields_text (row ∷ column ∷ []) ++ (tab ∷ [])),
        length-append (fields_text (row ∷ column ∷ [])) (tab ∷ []),
        length-append (line_head row column 1) (tab ∷ []),
        length-append cell_word (fields_text (row ∷ column ∷ []) ++ (tab ∷ letter_of 1 ∷ [])),
        length-append (fields_text (row ∷ column ∷ [])) (tab ∷ letter_of 1 ∷ []),
      )

  none_in : hole_at s p row column ≡ false → None ≡ hole_in s p row column
  unfolding hole_in
  none_in e = sym (pick_false _ _ e)

  some_in : hole_at s p row column ≡ true → Some (after + 2) ≡ hole_in s p row column
  unfolding hole_in
  some_in e = ap Some bed_is ∙ sym (pick_true _ _ e)

  pub hole_unplaced : word_at s p (place_text row column) ≡ false → None ≡ hole_in s p row column
  unfolding hole_at
  hole_unplaced e =
      none_in
      (ap₂ ◌||◌ (ap (word_at s p) o_is ∙ word_not s p (place_text row column) o_hole e)
      (ap (word_at s p) e_is ∙ word_not s p (place_text row column) e_hole e))

  module _ (e : word_at s p (place_text row column) ≡ true) where
    o_at : word_at s p (up_to_bed s p row column 1 ++ (question ∷ tab ∷ [])) ≡ word_at s after o_hole
    o_at = ap (word_at s p) o_is ∙ word_both s p (place_text row column) o_hole e

    e_at : word_at s p (up_to_bed s p row column 2 ++ (question ∷ tab ∷ [])) ≡ word_at s after e_hole
    e_at = ap (word_at s p) e_is ∙ word_both s p (place_text row column) e_hole e

    module _ {q : ℕ} (z : q ≡ after) where
      at-end : (word : List ℕ) → word_at s after word ≡ word_at s q word
      at-end word = ap (λ (k : ℕ). word_at s k word) (sym z)

      found_at : hole_at s p row column ≡ true → Some (q + 2) ≡ hole_in s p row column
      found_at e = ap (λ (k : ℕ). Some (k + 2)) z ∙ some_in e

      pub hole_open : word_at s q o_hole ≡ true → Some (q + 2) ≡ hole_in s p row column
      unfolding hole_at
      hole_open o =
          found_at (ap (λ (b : Bool). b || word_at s p (up_to_bed s p row column 2 ++ (question ∷ tab ∷ []))) (o_at ∙ (at-end o_hole ∙ o)))

      module _ (o : word_at s q o_hole ≡ false) where
        pub hole_exit : word_at s q e_hole ≡ true → Some (q + 2) ≡ hole_in s p row column
        unfolding hole_at
        hole_exit x = found_at (ap₂ ◌||◌ (o_at ∙ (at-end o_hole ∙ o)) (e_at ∙ (at-end e_hole ∙ x)))

        pub hole_none : word_at s q e_hole ≡ false → None ≡ hole_in s p row column
        unfolding hole_at
        hole_none x = none_in (ap₂ ◌||◌ (o_at ∙ (at-end o_hole ∙ o)) (e_at ∙ (at-end e_hole ∙ x)))

  -- what an answer says
  pub told_none : None ≡ hole_in s p row column → hole_at s p row column ≡ false
  unfolding hole_in
  told_none e = no_more (hole_at s p row column) (λ t. never (e ∙ pick_true _ _ t))
    where
      never : {k : ℕ} → None ≡ Some k → ⊥
      never q = let z : ◌≡◌ {A = ℕ} 0 1 = cc in omega arith

  pub told_at : {spot : ℕ} → Some spot ≡ hole_in s p row column → (hole_at s p row column ≡ true) × (spot ≡ bed_at s p row column)
  unfolding hole_in
  told_at {spot} e =
      by_test (hole_at s p row column) (λ t. (t, same (e ∙ pick_true _ _ t))) (λ t. never (e ∙ pick_false _ _ t))
    where
      same : {j k : ℕ} → Some j ≡ Some k → j ≡ k
      same q = cc

      never : {A : Type 0} {k : ℕ} → Some k ≡ None → A
      never q = absurd (let z : ◌≡◌ {A = ℕ} 0 1 = cc in omega arith)

-- ---- a bed

pub unknown_text : (bed : ℕ) → bed ≡ no_bed → bed_text bed ≡ question ∷ []
unfolding bed_text
unknown_text bed e = pick_true _ _ (eq-eqb bed no_bed e)

pub known_text : (bed : ℕ) → (bed ≡ no_bed → ⊥) → bed_text bed ≡ decimal bed
unfolding bed_text
known_text bed d = pick_false _ _ (ne_eqb bed no_bed d)

-- ---- a line with a bed

module _ (s : List ℕ) (p row column : ℕ) (bed : List ℕ) where
  pub line_whole : {end : ℕ} → hole_at s p row column ≡ false → end ≡ next_line s p → line_with s p row column bed ≡ between s p end
  unfolding line_with
  line_whole e g = pick_false _ _ e ∙ ap (between s p) (sym g)

  pub line_parts :
      {spot end : ℕ} → hole_at s p row column ≡ true → spot ≡ bed_at s p row column → end ≡ next_line s p →
      line_with s p row column bed ≡ between s p spot ++ (bed ++ between s (spot + 1) end)
  unfolding line_with
  line_parts e f g =
      pick_true _ _ e
      ∙ ap₂ (λ (k q : ℕ). between s p k ++ (bed ++ between s (k + 1) q)) (sym f) (sym g)

-- ---- a line of the list

module _ (row column bed turn : ℕ) where
  pub unknown_given : bed ≡ no_bed → given_text row column bed turn ≡ decimal row ++ (field_text column ++ (tab ∷ 45 ∷ tab ∷ 45 ∷ newline ∷ []))
  unfolding given_text
  unknown_given e = ap (λ (t : List ℕ). decimal row ++ (field_text column ++ t)) (pick_true _ _ (eq-eqb bed no_bed e))

  pub known_given :
      (bed ≡ no_bed → ⊥) → given_text row column bed turn ≡ decimal row ++ (field_text column ++ (fields_text (bed ∷ turn ∷ []) ++ (newline ∷ [])))
  unfolding given_text rest_text
  known_given d = ap (λ (t : List ℕ). decimal row ++ (field_text column ++ t)) (pick_false _ _ (ne_eqb bed no_bed d))

  -- whichever it is
  abbrev pub given_rest : List ℕ
  given_rest = pick (eqb bed no_bed) (tab ∷ 45 ∷ tab ∷ 45 ∷ newline ∷ []) (rest_text (bed ∷ turn ∷ []))

  pub given_is : given_text row column bed turn ≡ decimal row ++ (field_text column ++ given_rest)
  unfolding given_text
  given_is = refl

-- two texts, one after the other
module _ (u v : List ℕ) (at : ℕ) (old : List ℕ) (fits : at + length (u ++ v) ≤ length old) where
  both_long : at + length u + length v ≤ length old
  both_long = omega (arith, fits, length-append u v)

  pub one_fits : at + length u ≤ length old
  one_fits = omega (arith, both_long)

  module _ {a : List ℕ} {p : ℕ} (x : Wrote u at old a p) where
    pub other_fits : p + length v ≤ length a
    other_fits = omega (arith, both_long, x.next, wrote_length one_fits x)

    pub both_put : {new : List ℕ} {r : ℕ} → Wrote v p a new r → Wrote (u ++ v) at old new r
    both_put y = wrote_both both_long x y

module _ (s : List ℕ) (p row column bed turn : ℕ) where
  pub no_line_lem : hole_at s p row column ≡ false → hole_text s p row column bed turn ≡ []
  unfolding hole_text
  no_line_lem e = pick_false _ _ e

  pub a-line : hole_at s p row column ≡ true → hole_text s p row column bed turn ≡ given_text row column bed turn
  unfolding hole_text
  a-line e = pick_true _ _ e

-- ---- a walk over the squares' lines

module _ {s : List ℕ} {columns n : ℕ} (look : Looked s columns n) where
  pub columns_some : {i : ℕ} → i < n → 0 < columns
  columns_some {i} l =
      let f = looked_some (grid_line s) {i = i} (omega (arith, l, look.squares_are)) in
      omega (arith, f.shape.columns_low, look.columns_are)

  module _ (i : ℕ) {start : ℕ} (at-line : start ≡ start_of s i) where
    pub line_in : start ≤ length s
    line_in = omega (arith, at-line, start-in s i)

    pub line_on : {next : ℕ} → next ≡ next_line s start → next ≡ start_of s (i + 1)
    unfolding line_from
    line_on e = e ∙ (ap (next_line s) at-line ∙ ap (λ (k : ℕ). line_from s (cells_at s) k) (sym (add-one i)))

    pub line_as : (beds : List ℕ) {bed : ℕ} → bed ≡ get_or beds i 0 → line_put s beds i ≡ line_with s start (i / columns) (i % columns) (bed_text bed)
    line_as beds e =
        λ j. line_with s (sym at-line j) (i / sym look.columns_are j) (i % sym look.columns_are j) (bed_text (sym e j))

    pub listed_as :
        (beds turns : List ℕ) {bed turn : ℕ} → bed ≡ get_or beds i 0 → turn ≡ get_or turns i 0 →
        listed_line s beds turns i ≡ hole_text s start (i / columns) (i % columns) bed turn
    listed_as beds turns e f =
        λ j. hole_text s (sym at-line j) (i / sym look.columns_are j) (i % sym look.columns_are j) (sym e j) (sym f j)

    pub hole_as : is_hole s i ≡ hole_at s start (i / columns) (i % columns)
    hole_as = λ j. hole_at s (sym at-line j) (i / sym look.columns_are j) (i % sym look.columns_are j)

  -- the rest of the text after the last
  pub rest_is : {i start : ℕ} → i ≡ n → start ≡ start_of s i → drop (start_of s (looked_at s)) s ≡ take (length s - start) (drop start s)
  rest_is {i} {start} e f =
      sym
      (take_all (length s - start) (drop start s) (omega (arith, length-drop start s))
      ∙ ap (λ (k : ℕ). drop k s) (f ∙ ap (start_of s) (e ∙ look.squares_are)))

  pub all_lines : {i : ℕ} → i ≡ n → i ≡ looked_at s
  all_lines e = e ∙ look.squares_are

-- ---- the whole text with beds: up to the first square's line, and from there on

module _ (s beds : List ℕ) {cells : ℕ} (at_cells : cells ≡ cells_at s) (old : List ℕ) (fits : length (beds_put s beds) ≤ length old) where
  whole_is : take cells s ++ cells_put s beds ≡ beds_put s beds
  unfolding with_beds
  whole_is = ap (λ (k : ℕ). take k s ++ cells_put s beds) at_cells

  whole_fits : 0 + length (take cells s ++ cells_put s beds) ≤ length old
  whole_fits = omega (arith, fits, ap length whole_is)

  pub head_fits : 0 + length (take cells s) ≤ length old
  head_fits = one_fits (take cells s) (cells_put s beds) 0 old whole_fits

  module _ {a : List ℕ} {p : ℕ} (x : Wrote (take cells s) 0 old a p) where
    pub cells_fit : p + length (cells_put s beds) ≤ length a
    cells_fit = other_fits (take cells s) (cells_put s beds) 0 old whole_fits x

    pub beds-put : {new : List ℕ} {r : ℕ} → Wrote (cells_put s beds) p a new r → Wrote (beds_put s beds) 0 old new r
    beds-put y = written_as (sym whole_is) (both_put (take cells s) (cells_put s beds) 0 old whole_fits x y)
