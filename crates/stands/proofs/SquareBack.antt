-- The squares' lines read back as they are put.
-- Assumes nothing.
use mathlib.Core.Path.{◌≡◌, refl, sym, ap, ap₂, subst, ◌∙◌}
use mathlib.Core.Bool.{true, false}
use mathlib.Core.List.{List, [], ◌∷◌, ◌++◌}
use Prim.Native.Nat.{ℕ, zero, suc, ◌+◌, ◌≤◌, ◌<◌}
use native.Mathlib.Nat.{add-zero}
use Rattle.std.proofs.Common.{Option, Some, is_some}
use native.Mathlib.Omega.{arith}
use lib.ListN.{length, get_or, length-append}
use borrow.Author.Tests.{leb-true}
use Rattle.reckon.specs.Lists.{tabulate, joined}
use Rattle.reckon.specs.Ranges.{most_depth, water_fine}
use Rattle.reckon.proofs.TestLaws.{pick_true, pick_false, every_each, or_right, all_at, all_of}
use Rattle.grid.specs.Squares.{squares, ShapeInRange}
use Rattle.grid.specs.Marks.{closed}
use Rattle.ledger.specs.Runs.{Plan}
use Rattle.ledger.specs.Flows.{shut}
use Rattle.ledger.specs.Checks.{waters_fine}
use Rattle.text.specs.Reading.{most_number, padded, as_fields, word_at}
use Rattle.text.specs.Writing.{rest_text, line_text}
use Rattle.text.specs.Inner.Standing.{StandsAt}
use Rattle.text.proofs.JoinedLaws.{joined_stands}
use Rattle.text.proofs.ReadingLaws.{by_test, word_past, word_differs}
use Rattle.text.proofs.StandLaws.{byte_stands}
use Rattle.hatches.specs.Lines.{hatch_word}
use Rattle.stands.specs.Texts.{at_word, square_text, squares_text}
use Rattle.stands.specs.Laying.{square_or, has_square, closed_square, square_line, start_from, square_from, depth_from, last_from, waters_read}
use Rattle.stands.specs.declared.squares.SquareLine.{SquareLine}
use Rattle.stands.proofs.HeadBack.{line_read}
use Rattle.stands.proofs.SquareLaws.{square_closed, square_here, closed-water, waters_as}

abbrev square_as : ℕ → ℕ → ℕ → SquareLine
square_as depth last next = record { depth = depth; last = last; lines = 1; next = next }

-- one line
open_back : {s : List ℕ} {q r : ℕ} (marks : List ℕ) (i depth last : ℕ) → closed marks i ≡ false → i ≤ most_number → depth ≤ most_number → last ≤ most_number →
    StandsAt s q (line_text at_word (i ∷ depth ∷ last ∷ [])) r → square_line s q marks i ≡ Some (square_as depth last r)
unfolding as_fields padded tabulate
open_back {s} {q} {r} marks i depth last o h k l a =
    sym (square_here s q marks i o (sym (line_read at_word (i ∷ depth ∷ last ∷ []) (h, (k, (l, tt))) a)) refl)

closed_next : (s : List ℕ) (q : ℕ) (marks : List ℕ) (i : ℕ) → closed marks i ≡ true → (square_or (square_line s q marks i)).next ≡ q
unfolding closed_square
closed_next s q marks i t = sym (ap (λ (x : Option SquareLine). (square_or x).next) (square_closed s q marks i t))

closed_found : (s : List ℕ) (q : ℕ) (marks : List ℕ) (i : ℕ) → closed marks i ≡ true → is_some (square_line s q marks i) ≡ true
unfolding closed_square
closed_found s q marks i t = sym (ap is_some (square_closed s q marks i t))

-- ---- all of them

module _ (p : Plan) (depths lasts : List ℕ) (fine : ShapeInRange p.shape) (waters : waters_fine p depths lasts ≡ true) where
  abbrev n : ℕ
  n = squares p.shape

  abbrev g : ℕ → List ℕ
  g = square_text p depths lasts

  water-at : (i : ℕ) → i < n → shut p i ≡ false → water_fine (get_or depths i 0) (get_or lasts i 0) ≡ true
  unfolding waters_fine
  water-at i l o = or_right (shut p i) _ (all_at n _ waters i l) o

  small_at : (i : ℕ) → i < n → shut p i ≡ false → (get_or depths i 0 ≤ most_number) × (get_or lasts i 0 ≤ most_number)
  unfolding water_fine
  small_at i l o =
      let t = every_each _ (water-at i l o) in
      (omega (arith, leb-true (get_or depths i 0) most_depth t.0), omega (arith, leb-true (get_or lasts i 0) most_depth t.1.0))

  closed_text : (i : ℕ) → shut p i ≡ true → g i ≡ []
  unfolding square_text
  closed_text i t = pick_true _ _ t

  open_text : (i : ℕ) → shut p i ≡ false → g i ≡ line_text at_word (i ∷ get_or depths i 0 ∷ get_or lasts i 0 ∷ [])
  unfolding square_text
  open_text i o = pick_false _ _ o

  -- they are nothing at all, or begin with `a`
  begins : {A : Type 0} (k : ℕ) → (joined k g ≡ [] → A) → ((rest : List ℕ) → joined k g ≡ 97 ∷ rest → A) → A
  unfolding joined line_text
  begins zero none some = none refl
  begins (suc k) none some =
      begins k
      (λ z.
      by_test (shut p k) (λ t. none (ap₂ ◌++◌ z (closed_text k t)))
      (λ o. some (116 ∷ rest_text (k ∷ get_or depths k 0 ∷ get_or lasts k 0 ∷ [])) (ap₂ ◌++◌ z (open_text k o))))
      (λ rest z. some (rest ++ g k) (ap (λ (l : List ℕ). l ++ g k) z))

  module _ {s : List ℕ} {q r : ℕ} (stands : StandsAt s q (squares_text p depths lasts) r) where
    abbrev at : ℕ → ℕ
    at i = q + length (joined i g)

    whole : StandsAt s q (joined n g) r
    unfolding squares_text
    whole = stands

    open_at : (i : ℕ) → i < n → shut p i ≡ false → square_line s (at i) p.marks i ≡ Some (square_as (get_or depths i 0) (get_or lasts i 0) (at (suc i)))
    open_at i l o =
        let small = small_at i l o in
        open_back p.marks i (get_or depths i 0) (get_or lasts i 0) o (omega (arith, fine.few)) small.0 small.1
        (subst (λ (t : List ℕ). StandsAt s (at i) t (at (suc i))) (open_text i o) (joined_stands n g whole i l))

    same_place : (i : ℕ) → shut p i ≡ true → at (suc i) ≡ at i
    unfolding joined
    same_place i t = omega (arith, length-append (joined i g) (g i), ap length (closed_text i t))

    -- each starts after those before it
    pub start-at : (i : ℕ) → i ≤ n → start_from s q p.marks i ≡ at i
    unfolding start_from joined
    start-at zero h = sym (add-zero q)
    start-at (suc i) h =
        let here : start_from s q p.marks i ≡ at i = start-at i (omega arith) in
        ap (λ (k : ℕ). (square_or (square_line s k p.marks i)).next) here ∙ next_at i (omega arith)
      where
        next_at : (i : ℕ) → i < n → (square_or (square_line s (at i) p.marks i)).next ≡ at (suc i)
        next_at i l =
            by_test (closed p.marks i) (λ t. closed_next s (at i) p.marks i t ∙ sym (same_place i t))
            (λ o. ap (λ (x : Option SquareLine). (square_or x).next) (open_at i l o))

    read_back : (i : ℕ) → i < n → shut p i ≡ false →
        square_line s (start_from s q p.marks i) p.marks i ≡ Some (square_as (get_or depths i 0) (get_or lasts i 0) (at (suc i)))
    read_back i l o = ap (λ (k : ℕ). square_line s k p.marks i) (start-at i (omega arith)) ∙ open_at i l o

    pub square_back : (i : ℕ) → i < n → shut p i ≡ false → square_from s q p.marks i ≡ square_as (get_or depths i 0) (get_or lasts i 0) (at (suc i))
    square_back i l o = ap square_or (read_back i l o)

    pub found_back : (i : ℕ) → i < n → has_square s q p.marks i ≡ true
    found_back i l =
        by_test (closed p.marks i) (λ t. closed_found s (start_from s q p.marks i) p.marks i t)
        (λ o. ap is_some (read_back i l o))

    pub all_back : start_from s q p.marks n ≡ r
    unfolding squares_text
    all_back = start-at n (omega arith) ∙ sym stands.after

    -- 3
    pub waters_back : waters_read s q p ≡ true
    waters_back =
        waters_as s q p
        ∙ all_of n (λ i. water_fine (depth_from s q p.marks i) (last_from s q p.marks i))
        (λ i l.
        by_test (closed p.marks i) (λ t. closed-water s (start_from s q p.marks i) p.marks i t)
        (λ o. ap (λ (x : SquareLine). water_fine x.depth x.last) (square_back i l o) ∙ water-at i l o))

    -- no hatch's line stands where they begin, nor at the end of the text
    pub no_hatch : r ≡ length s → word_at s q hatch_word ≡ false
    no_hatch e =
        begins n
        (λ z. word_past s q hatch_word (omega (arith, e, whole.after, ap length z)))
        (λ rest z.
        let first : get_or s q 0 ≡ 97 = (byte_stands (subst (λ (t : List ℕ). StandsAt s q t r) z whole)).0 in
        word_differs s q hatch_word 0 (omega arith) (λ y. omega (arith, first, ap (λ (k : ℕ). get_or s k 0) (sym (add-zero q)) ∙ y)))
