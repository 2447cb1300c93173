-- Laws of what is printed of a list: lines of bare numbers, one after another, and how long they can get.
-- Assumes nothing.
use mathlib.Core.Path.{◌≡◌, refl, sym, ap, subst, ◌∙◌}
use mathlib.Core.Bool.{Bool, true, false, ◌&&◌, cond, not}
use mathlib.Core.List.{List, [], ◌∷◌, ◌++◌}
use Prim.Native.Nat.{ℕ, suc, ◌+◌, ◌-◌, ◌*◌, ◌/◌, ◌%◌, ◌^◌, ◌≤◌, ◌<◌}
use native.Mathlib.Nat.{div-le_self, mod-le}
use native.Mathlib.Numerals.{add-one}
use native.Mathlib.Omega.{arith}
use lib.Dec.{eqb}
use lib.ListN.{length, get_or, take, drop, length-append, drop_of_length-le}
use lib.Seq.{drop-cons, length-take-le, get_or-take}
use borrow.Author.Tests.{leb-true, eq-eqb, ne_eqb}
use Rattle.std.specs.List.{count_by}
use Rattle.std.proofs.lemmas.List.Recursion.{is_count_by}
use Rattle.std.proofs.lemmas.List.Sums.{count_by-le-length}
use Rattle.reckon.specs.Tests.{pick, every}
use Rattle.reckon.proofs.TestLaws.{pick_true, pick_false, pick_both, and_true, every_each}
use Rattle.grid.specs.Squares.{ShapeInRange, squares}
use Rattle.grid.proofs.SquareLaws.{ranges_of_fine}
use Rattle.ledger.specs.Runs.{Plan, plan}
use Rattle.ledger.specs.Flows.{shut}
use Rattle.text.specs.Reading.{newline}
use Rattle.text.specs.Writing.{decimal, field_text, fields_text, line_text, Wrote}
use Rattle.text.proofs.WritingLaws.{decimal-short, line_text_long, placed_none, wrote_both, wrote_length, wrote_line, Left, left_fits, left_step, left_none}
use Rattle.answer.specs.Printed.{refused_text}
use Rattle.answer.proofs.PrintLaws.{joined-short, written_as}
use Rattle.programs.specs.Program.{Prints, program_squares, most_printed}
use Rattle.programs.proofs.EndedLaws.{prints, refused_printed}
use Rattle.lists.specs.Names.{most_sheets}
use Rattle.lists.specs.Drowned.{numbers_text, refused_line, refused_lines, refused_many}
use Rattle.lists.specs.Right.{RoomsLong}
use Rattle.lists.specs.Tally.{Rooms, square_text, squares_text, sheets_text, tally_fine, tally_text}
use Rattle.lists.specs.declared.tally.Tally.{Tally}

-- ---- a line of bare numbers

pub numbers_long : (v : ℕ) (vs : List ℕ) → length (numbers_text (v ∷ vs)) ≡ length (decimal v) + length (fields_text vs) + 1
unfolding numbers_text line_text
numbers_long v vs = line_text_long (decimal v) vs

pub numbers_written :
    (v : ℕ) (vs : List ℕ) {old first second new : List ℕ} {at p q r : ℕ} → at + length (numbers_text (v ∷ vs)) ≤ length old →
    Wrote (decimal v) at old first p → Wrote (fields_text vs) p first second q → Wrote (newline ∷ []) q second new r →
    Wrote (numbers_text (v ∷ vs)) at old new r
unfolding numbers_text line_text
numbers_written v vs h a b c = wrote_line vs h a b c

fields_long : (v : ℕ) (vs : List ℕ) → length (fields_text (v ∷ vs)) ≡ 1 + length (decimal v) + length (fields_text vs)
unfolding fields_text field_text
fields_long v vs = omega (arith, length-append (field_text v) (fields_text vs))

no_fields : length (fields_text []) ≡ 0
unfolding fields_text
no_fields = refl

-- nothing is written
pub nothing_written : {t : List ℕ} {at : ℕ} (room : List ℕ) → t ≡ [] → Wrote t at room room at
nothing_written {at = at} room e = written_as e (record { next = omega arith; room = sym (placed_none room at) })

-- ---- the squares

module _ (p : Plan) (counts deepest places : List ℕ) where
  abbrev square_numbers : ℕ → List ℕ
  square_numbers i = i % p.shape.columns ∷ get_or counts i 0 ∷ get_or deepest i 0 ∷ get_or places i 0 ∷ []

  pub closed_text : (i : ℕ) → shut p i ≡ true → square_text p counts deepest places i ≡ []
  unfolding square_text
  closed_text i e = pick_true _ _ e

  open_text : (i : ℕ) → shut p i ≡ false → square_text p counts deepest places i ≡ numbers_text (i / p.shape.columns ∷ square_numbers i)
  unfolding square_text
  open_text i e = pick_false _ _ e

  pub square-as :
      (i : ℕ) {c d q : ℕ} → shut p i ≡ false → c ≡ get_or counts i 0 → d ≡ get_or deepest i 0 → q ≡ get_or places i 0 →
      square_text p counts deepest places i ≡ numbers_text (i / p.shape.columns ∷ i % p.shape.columns ∷ c ∷ d ∷ q ∷ [])
  square-as i e x y z = open_text i e ∙ same (i / p.shape.columns) (i % p.shape.columns) (sym x) (sym y) (sym z)
    where
      same :
          (a b : ℕ) {c c' d d' q q' : ℕ} → c ≡ c' → d ≡ d' → q ≡ q' →
          numbers_text (a ∷ b ∷ c ∷ d ∷ q ∷ []) ≡ numbers_text (a ∷ b ∷ c' ∷ d' ∷ q' ∷ [])
      same a b x y z = cc

  -- a row and a column of at most 4 digits, a count and a place of at most 3, a depth of at most 10
  square_short :
      (i : ℕ) → i < program_squares → get_or counts i 0 < 2 ^ 8 → get_or deepest i 0 < 2 ^ 32 → get_or places i 0 < 2 ^ 8 →
      length (square_text p counts deepest places i) ≤ 29
  unfolding square_text
  square_short i low c d q =
      pick_both (λ (t : List ℕ). length t ≤ 29) (shut p i) (omega arith)
      (omega (
        arith,
        numbers_long (i / p.shape.columns) (square_numbers i),
        fields_long (i % p.shape.columns) (get_or counts i 0 ∷ get_or deepest i 0 ∷ get_or places i 0 ∷ []),
        fields_long (get_or counts i 0) (get_or deepest i 0 ∷ get_or places i 0 ∷ []),
        fields_long (get_or deepest i 0) (get_or places i 0 ∷ []),
        fields_long (get_or places i 0) [],
        no_fields,
        decimal-short 3 (i / p.shape.columns) (omega (arith, div-le_self i p.shape.columns)),
        decimal-short 3 (i % p.shape.columns) (omega (arith, mod-le i p.shape.columns)),
        decimal-short 2 (get_or counts i 0) (omega arith),
        decimal-short 9 (get_or deepest i 0) (omega arith),
        decimal-short 2 (get_or places i 0) (omega arith),
      ))

  squares-short :
      squares p.shape ≤ program_squares → ((i : ℕ) → get_or counts i 0 < 2 ^ 8) → ((i : ℕ) → get_or deepest i 0 < 2 ^ 32) →
      ((i : ℕ) → get_or places i 0 < 2 ^ 8) → length (squares_text p counts deepest places) ≤ 29 * program_squares
  unfolding squares_text
  squares-short few c d q =
      omega (
        arith,
        joined-short (squares p.shape) 29 (square_text p counts deepest places) (λ i l. square_short i (omega (arith, l, few)) (c i) (d i) (q i)),
        few,
      )

-- ---- whether the rooms can hold a tally

pub fine-last : (a b s z : Bool) → a ≡ true → b ≡ true → s ≡ true → z ≡ every (a ∷ pick b (every (s ∷ z ∷ [])) true ∷ [])
unfolding every pick
fine-last a b s z p q r = rw (p, q, r) (sym (and_true (z && true) ∙ and_true z))

-- ---- the refused ones

pub accepted_line : (place n : ℕ) → n ≡ 0 → refused_line place n ≡ []
unfolding refused_line
accepted_line place n e = pick_true _ _ (eq-eqb n 0 e)

pub refused-line : (place n : ℕ) → (n ≡ 0 → ⊥) → refused_line place n ≡ numbers_text (place ∷ n ∷ [])
unfolding refused_line
refused-line place n d = pick_false _ _ (ne_eqb n 0 d)

pub refused_counted : (numbers : List ℕ) → refused_many numbers ≡ count_by (λ (n : ℕ). not (eqb n 0)) numbers
unfolding refused_many pick
refused_counted = is_count_by refused_many (λ (n : ℕ). not (eqb n 0)) refl (λ n rest. one (eqb n 0) (refused_many rest))
  where
    one : (b : Bool) (k : ℕ) → pick b k (suc k) ≡ cond (not b) (1 + k) k
    one true k = refl
    one false k = omega arith

pub refused_few : (numbers : List ℕ) → refused_many numbers ≤ length numbers
refused_few numbers = rw (refused_counted numbers) (count_by-le-length (λ (n : ℕ). not (eqb n 0)) numbers)

lines_more :
    (numbers : List ℕ) (i : ℕ) → i < length numbers →
    refused_lines (i + 1) (drop i numbers) ≡ refused_line (i + 1) (get_or numbers i 0) ++ refused_lines (i + 1 + 1) (drop (i + 1) numbers)
unfolding refused_lines
lines_more numbers i h =
    ap (refused_lines (i + 1)) (drop-cons numbers i 0 h)
    ∙ (ap (λ (k : ℕ). refused_line (i + 1) (get_or numbers i 0) ++ refused_lines k (drop (suc i) numbers)) (sym (add-one (i + 1)))
    ∙ ap (λ (k : ℕ). refused_line (i + 1) (get_or numbers i 0) ++ refused_lines (i + 1 + 1) (drop k numbers)) (sym (add-one i)))

lines_end : (numbers : List ℕ) (i : ℕ) → length numbers ≤ i → refused_lines (i + 1) (drop i numbers) ≡ []
unfolding refused_lines
lines_end numbers i h = ap (refused_lines (i + 1)) (drop_of_length-le numbers h)

-- a turn of the loop that counts them
-- a turn of the loop that writes them
module _ (numbers : List ℕ) (i : ℕ) (l : i < length numbers) {p at : ℕ} {room total old : List ℕ}
    (w : Left (refused_lines (i + 1) (drop i numbers)) p room total at old) {n : ℕ} (e : n ≡ get_or numbers i 0) where
  two_parts : Left (refused_line (i + 1) (get_or numbers i 0) ++ refused_lines (i + 1 + 1) (drop (i + 1) numbers)) p room total at old
  two_parts = subst (λ (t : List ℕ). Left t p room total at old) (lines_more numbers i l) w

  pub place_fits : p + length (refused_line (i + 1) n) ≤ length room
  place_fits =
      omega (
        arith,
        left_fits (refused_line (i + 1) (get_or numbers i 0)) (refused_lines (i + 1 + 1) (drop (i + 1) numbers)) two_parts,
        ap (λ (k : ℕ). length (refused_line (i + 1) k)) e,
      )

  pub place_written :
      {new : List ℕ} {q : ℕ} → Wrote (refused_line (i + 1) n) p room new q → Left (refused_lines (i + 1 + 1) (drop (i + 1) numbers)) q new total at old
  place_written {new} {q} v = left_step two_parts (subst (λ (k : ℕ). Wrote (refused_line (i + 1) k) p room new q) e v)

pub places_written :
    (numbers : List ℕ) (i : ℕ) → length numbers ≤ i → {p at : ℕ} {room total old : List ℕ} → Left (refused_lines (i + 1) (drop i numbers)) p room total at old →
    Wrote total at old room p
places_written numbers i h {p} {at} {room} {total} {old} w = left_none (subst (λ (t : List ℕ). Left t p room total at old) (lines_end numbers i h) w)

line_short : (place n : ℕ) → place < 1_000 → n < 2 ^ 32 → length (refused_line place n) ≤ 15
unfolding refused_line
line_short place n h g =
    pick_both (λ (t : List ℕ). length t ≤ 15) (eqb n 0) (omega arith)
    (omega (
      arith,
      numbers_long place (n ∷ []),
      fields_long n [],
      no_fields,
      decimal-short 2 place (omega arith),
      decimal-short 9 n (omega arith),
    ))

lines_short :
    (place : ℕ) (numbers : List ℕ) → place + length numbers ≤ 1_000 → ((i : ℕ) → i < length numbers → get_or numbers i 0 < 2 ^ 32) →
    length (refused_lines place numbers) ≤ 15 * length numbers
unfolding refused_lines
lines_short place [] h g = omega arith
lines_short place (n ∷ rest) h g =
    omega (
      arith,
      length-append (refused_line place n) (refused_lines (suc place) rest),
      line_short place n (omega arith) (g 0 (omega arith)),
      lines_short (suc place) rest (omega arith) (λ i l. g (suc i) (omega arith)),
    )

module _ (numbers : List ℕ) where
  abbrev counts_line : List ℕ
  counts_line = numbers_text ((length numbers - refused_many numbers) ∷ refused_many numbers ∷ [])

  pub counts-written :
      {k at p : ℕ} {old mid : List ℕ} → k ≡ refused_many numbers → Wrote (numbers_text ((length numbers - k) ∷ k ∷ [])) at old mid p →
      Wrote counts_line at old mid p
  counts-written {at = at} {p} {old} {mid} e w = subst (λ (n : ℕ). Wrote (numbers_text ((length numbers - n) ∷ n ∷ [])) at old mid p) e w

  sheets_long : length (sheets_text numbers) ≡ length counts_line + length (refused_lines 1 numbers)
  unfolding sheets_text
  sheets_long = length-append counts_line (refused_lines 1 numbers)

  sheets-short :
      length numbers ≤ most_sheets → ((i : ℕ) → i < length numbers → get_or numbers i 0 < 2 ^ 32) → length (sheets_text numbers) ≤ 3_008
  sheets-short h g =
      omega (
        arith,
        sheets_long,
        lines_short 1 numbers (omega (arith, h)) g,
        numbers_long (length numbers - refused_many numbers) (refused_many numbers ∷ []),
        fields_long (refused_many numbers) [],
        no_fields,
        decimal-short 2 (length numbers - refused_many numbers) (omega (arith, h)),
        decimal-short 2 (refused_many numbers) (omega (arith, h, refused_few numbers)),
      )

  module _ (at : ℕ) (old : List ℕ) (fits : at + length (sheets_text numbers) ≤ length old) where
    pub counts_fit : at + length counts_line ≤ length old
    counts_fit = omega (arith, fits, sheets_long)

    module _ {mid : List ℕ} {p : ℕ} (w : Wrote counts_line at old mid p) where
      pub places_fit : p + length (refused_lines 1 numbers) ≤ length mid
      places_fit = omega (arith, fits, sheets_long, w.next, wrote_length counts_fit w)

      pub sheets-written : {new : List ℕ} {r : ℕ} → Wrote (refused_lines 1 numbers) p mid new r → Wrote (sheets_text numbers) at old new r
      unfolding sheets_text
      sheets-written v = wrote_both (omega (arith, fits, sheets_long)) w v

-- ---- a whole tally

-- what is lent of a tally that the rooms can hold: rooms of their sizes, and numbers that fit their types
pub record Lent (t : Tally) (r : Rooms) : Type 0 where
  pub fine : tally_fine t ≡ true
  pub long : RoomsLong r
  pub counts_are : (i : ℕ) → get_or r.counts i 0 < 2 ^ 8
  pub deepest_are : (i : ℕ) → get_or r.deepest i 0 < 2 ^ 32
  pub places_are : (i : ℕ) → get_or r.places i 0 < 2 ^ 8
  pub numbers_are : (i : ℕ) → get_or r.numbers i 0 < 2 ^ 32

pub printed_refused :
    (t : Tally) (r : Rooms) {old new : List ℕ} {k : ℕ} → tally_fine t ≡ false → most_printed ≤ length old → Wrote (refused_text 1 0) 0 old new k →
    Prints (tally_text t r) old new k
unfolding tally_text
printed_refused t r {old} {new} {k} e h w =
    subst (λ (u : List ℕ). Prints u old new k) (sym (pick_false _ _ e)) (refused_printed h (omega arith) (omega arith) w)

module _ (t : Tally) (r : Rooms) (l : Lent t r) where
  abbrev lines_kept : List ℕ
  lines_kept = squares_text (plan t.shape r.marks) r.counts r.deepest r.places

  abbrev numbers_kept : List ℕ
  numbers_kept = take t.taken r.numbers

  taken_few : t.taken ≤ most_sheets
  unfolding tally_fine
  taken_few = leb-true t.taken most_sheets (every_each _ l.fine).0

  pub taken_in : t.taken ≤ length r.numbers
  taken_in = omega (arith, taken_few, l.long.numbers_long)

  sheets-kept : length (sheets_text numbers_kept) ≤ 3_008
  sheets-kept =
      let long = length-take-le t.taken r.numbers taken_in in
      sheets-short numbers_kept (omega (arith, long, taken_few))
      (λ i h. omega (arith, get_or-take t.taken r.numbers i 0 (omega (arith, h, long)), l.numbers_are i))

  pub shape-kept : t.begun ≡ true → ShapeInRange t.shape × (squares t.shape ≤ program_squares)
  unfolding tally_fine
  shape-kept b =
      let both = every_each _ (sym (pick_true _ _ b) ∙ (every_each _ l.fine).1.0) in
      (ranges_of_fine t.shape both.0, leb-true (squares t.shape) program_squares both.1.0)

  squares-kept : t.begun ≡ true → length lines_kept ≤ 29 * program_squares
  squares-kept b =
      squares-short (plan t.shape r.marks) r.counts r.deepest r.places (shape-kept b).1 l.counts_are l.deepest_are l.places_are

  module _ (old : List ℕ) (h : most_printed ≤ length old) where
    pub sheets_fit : 0 + length (sheets_text numbers_kept) ≤ length old
    sheets_fit = omega (arith, h, sheets-kept)

    pub printed_none : {new : List ℕ} {k : ℕ} → t.begun ≡ false → Wrote (sheets_text numbers_kept) 0 old new k → Prints (tally_text t r) old new k
    unfolding tally_text
    printed_none {new} {k} b w =
        subst (λ (u : List ℕ). Prints u old new k)
        (sym (pick_true _ _ l.fine ∙ ap (λ (u : List ℕ). u ++ sheets_text numbers_kept) (pick_false lines_kept [] b)))
        (prints h (omega (arith, sheets-kept)) w)

    module _ (b : t.begun ≡ true) where
      pub squares_fit : 0 + length lines_kept ≤ length old
      squares_fit = omega (arith, h, squares-kept b)

      module _ {mid : List ℕ} {p : ℕ} (w : Wrote lines_kept 0 old mid p) where
        pub sheets-after : p + length (sheets_text numbers_kept) ≤ length mid
        sheets-after = omega (arith, h, squares-kept b, sheets-kept, w.next, wrote_length squares_fit w)

        pub printed_some : {new : List ℕ} {k : ℕ} → Wrote (sheets_text numbers_kept) p mid new k → Prints (tally_text t r) old new k
        unfolding tally_text
        printed_some {new} {k} v =
            subst (λ (u : List ℕ). Prints u old new k)
            (sym (pick_true _ _ l.fine ∙ ap (λ (u : List ℕ). u ++ sheets_text numbers_kept) (pick_true lines_kept [] b)))
            (prints h (omega (arith, length-append lines_kept (sheets_text numbers_kept), squares-kept b, sheets-kept))
            (wrote_both (omega (arith, h, squares-kept b, sheets-kept)) w v))
