-- Laws of the loops that make the rounds: a square's bed, a round, the rounds noted, and that they are those of the rule.
-- Assumes nothing.
use mathlib.Core.Path.{◌≡◌, refl, sym, ap, ap₂, subst, ◌∙◌}
use mathlib.Core.Bool.{Bool, true, false, not, ◌&&◌, ◌||◌}
use mathlib.Core.List.{List}
use Prim.Native.Nat.{ℕ, zero, suc, ◌+◌, ◌-◌, ◌≤◌, ◌<◌, min}
use native.Mathlib.Nat.{add-zero, add-suc}
use native.Mathlib.Omega.{arith}
use lib.Dec.{eqb, leb}
use lib.ListN.{length, get_or, set}
use borrow.Author.Tests.{eq-eqb, ne_eqb, le-ltb, lt-ltb, le-leb, lt-leb}
use Rattle.reckon.specs.Tests.{pick}
use Rattle.reckon.specs.Lists.{tabulate, filled}
use Rattle.reckon.proofs.TestLaws.{not_both, pick_true, pick_false, and_both, and_false, failing_at, failing_none}
use Rattle.reckon.proofs.ListLaws.{is_tabulate, length-filled, filled_in, filled_past, filled_skipped, filled_store, filled_keep, is_filled}
use Rattle.grid.specs.Squares.{squares, within, beside, north, east, south, west}
use Rattle.grid.specs.Marks.{closed}
use Rattle.grid.specs.declared.squares.Shape.{Shape}
use Rattle.text.proofs.ReadingLaws.{by_test, by_lt}
use Rattle.holes.specs.Rounds.{no_bed, bed_beside, lowest_beside, bed_after, round_of, after_rounds, filled_beds, round_filling, BedsSeen}
use Rattle.holes.specs.Inner.Steps.{RoundsMade}
use Rattle.holes.proofs.RoundLaws.{by_eq, long, known_stays, settled}

-- ---- the bed beside a square

module _ (shape : Shape) (marks beds : List ℕ) (i side : ℕ) {at : ℕ} (e : at ≡ beside shape i side) where
  pub off_bed : squares shape ≤ at → no_bed ≡ bed_beside shape marks beds i side
  unfolding bed_beside
  off_bed h =
      sym
      (pick_false _ _
      (ap (λ (t : Bool). t && not (closed marks (beside shape i side))) (le-ltb (beside shape i side) (squares shape) (omega (arith, h, e)))))

  pub closed_bed : closed marks at ≡ true → no_bed ≡ bed_beside shape marks beds i side
  unfolding bed_beside
  closed_bed c = sym (pick_false _ _ (and_false (within shape (beside shape i side)) _ (ap (λ (j : ℕ). not (closed marks j)) (sym e) ∙ ap not c)))

  pub open_bed : at < squares shape → closed marks at ≡ false → get_or beds at 0 ≡ bed_beside shape marks beds i side
  unfolding bed_beside
  open_bed h c =
      ap (λ (j : ℕ). get_or beds j 0) e
      ∙ sym
      (pick_true _ _
      (and_both _ _ (lt-ltb (beside shape i side) (squares shape) (omega (arith, h, e))) (ap (λ (j : ℕ). not (closed marks j)) (sym e) ∙ ap not c)))

-- the lowest of the four
pub lowest_of :
    (shape : Shape) (marks beds : List ℕ) (i : ℕ) {n e s w x y r : ℕ} → n ≡ bed_beside shape marks beds i north →
    e ≡ bed_beside shape marks beds i east → s ≡ bed_beside shape marks beds i south → w ≡ bed_beside shape marks beds i west → x ≡ min n e →
    y ≡ min s w → r ≡ min x y → r ≡ lowest_beside shape marks beds i
unfolding lowest_beside
lowest_of shape marks beds i a b c d f g h = h ∙ ap₂ min (f ∙ ap₂ min a b) (g ∙ ap₂ min c d)

-- ---- a room that is filled square by square

module _ (skipped : ℕ → Bool) (f : ℕ → ℕ) (old : List ℕ) where
  -- a square more: stored, or left where it is skipped
  pub filled_next :
      (i : ℕ) → i < length old → {room new : List ℕ} → room ≡ filled i skipped f old → new ≡ pick (skipped i) room (set room i (f i)) →
      new ≡ filled (i + 1) skipped f old
  filled_next i l {room} {new} e g =
      by_test (skipped i)
      (λ s. g ∙ (pick_true _ _ s ∙ (e ∙ filled_keep skipped f old i l (λ z. not_both s z))))
      (λ s. g ∙ (pick_false _ _ s ∙ (ap (λ (r : List ℕ). set r i (f i)) e ∙ filled_store skipped f old i l s refl)))

-- nothing is skipped: all of it is the rule's
pub filled_all : (n : ℕ) (f : ℕ → ℕ) (old : List ℕ) → length old ≡ n → filled n (λ i. false) f old ≡ tabulate n f
filled_all n f old e =
    is_tabulate n f (filled n (λ i. false) f old) (length-filled n (λ i. false) f old ∙ e)
    (λ i l. filled_in n (λ i. false) f old i (omega (arith, l, e)) l refl)

-- ---- a round

module _ (shape : Shape) (marks before : List ℕ) where
  pub round_made :
      (old : List ℕ) {beds : List ℕ} {i : ℕ} → i ≡ squares shape → length old ≡ squares shape →
      beds ≡ filled i (λ k. false) (bed_after shape marks before) old → beds ≡ round_of shape marks before
  unfolding round_of
  round_made old {beds} {i} e l h =
      h
      ∙ (ap (λ (k : ℕ). filled k (λ j. false) (bed_after shape marks before) old) e
      ∙ filled_all (squares shape) (bed_after shape marks before) old l)

-- ---- the rounds so far

module _ (shape : Shape) (marks beds : List ℕ) where
  abbrev n : ℕ
  n = squares shape

  abbrev bed : ℕ → ℕ → ℕ
  bed r i = get_or (after_rounds shape marks beds r) i 0

  -- so many rounds were made: the beds after them, and the round of each square that they filled
  pub record Going (old : List ℕ) (r : ℕ) (now turns : List ℕ) : Type 0 where
    pub few : r ≤ n
    pub beds_are : now ≡ after_rounds shape marks beds r
    pub turns_are : turns ≡ filled n (λ i. eqb (bed r i) (bed 0 i)) (round_filling shape marks beds) old

  pub going_none : (old : List ℕ) → Going old 0 beds old
  unfolding after_rounds
  going_none old =
      record {
        few = omega arith;
        beds_are = refl;
        turns_are =
            is_filled n (λ i. eqb (bed 0 i) (bed 0 i)) (round_filling shape marks beds) old old refl
            (λ i l. sym (pick_true _ _ (or_true (leb n i) (eq-eqb (bed 0 i) (bed 0 i) refl))));
      }
    where
      or_true : (a : Bool) {b : Bool} → b ≡ true → (a || b) ≡ true
      or_true true e = refl
      or_true false e = e

  -- as many rounds as there are squares
  pub going_end : {old : List ℕ} {r : ℕ} {now turns : List ℕ} → r ≡ n → Going old r now turns → RoundsMade shape marks beds now old turns
  unfolding filled_beds after_rounds
  going_end {old} {r} {now} {turns} e g =
      record {
        beds_are = g.beds_are ∙ ap (after_rounds shape marks beds) e;
        turns_are =
            g.turns_are
            ∙ ap (λ (l : List ℕ). filled n (λ i. eqb (get_or l i 0) (get_or beds i 0)) (round_filling shape marks beds) old) (sym g.beds_are);
      }

module _ (shape : Shape) (marks beds : List ℕ) (seen : BedsSeen shape marks beds) where
  abbrev size : ℕ
  size = squares shape

  abbrev height : ℕ → ℕ → ℕ
  height r i = get_or (after_rounds shape marks beds r) i 0

  pub known_later : (r k i : ℕ) → i < size → (height r i ≡ no_bed → ⊥) → height (r + k) i ≡ height r i
  known_later r zero i l d = ap (λ (k : ℕ). height k i) (add-zero r)
  known_later r (suc k) i l d =
      let ih = known_later r k i l d in
      ap (λ (k : ℕ). height k i) (add-suc r k) ∙ (known_stays shape marks beds seen (r + k) i l (λ z. d (sym ih ∙ z)) ∙ ih)

  unknown_before : (r t i : ℕ) → i < size → r ≤ t → height t i ≡ no_bed → height r i ≡ no_bed
  unknown_before r t i l h e =
      by_eq (height r i) no_bed (λ z. z)
      (λ d. let z : r + (t - r) ≡ t = omega arith in absurd (d (sym (known_later r (t - r) i l d) ∙ (ap (λ (k : ℕ). height k i) z ∙ e))))

  -- the round that fills a square
  round_is : (t i : ℕ) → i < size → suc t ≤ size → height t i ≡ no_bed → (height (suc t) i ≡ no_bed → ⊥) → suc t ≡ round_filling shape marks beds i
  unfolding round_filling
  round_is t i l h e d =
      by_lt (suc t) size
      (λ x. sym (failing_at size (λ r. eqb (height r i) no_bed) (suc t) x unknown (ne_eqb (height (suc t) i) no_bed d)))
      (λ x.
      let z : suc t ≡ size = omega arith in
      z ∙ sym (failing_none size (λ r. eqb (height r i) no_bed) (λ k g. unknown k (omega arith))))
    where
      unknown : (k : ℕ) → k < suc t → eqb (height k i) no_bed ≡ true
      unknown k g = eq-eqb (height k i) no_bed (unknown_before k t i l (omega arith) e)

  pub going_long : {old : List ℕ} {r : ℕ} {now turns : List ℕ} → Going shape marks beds old r now turns → (length now ≡ size) × (length turns ≡ length old)
  going_long {old} {r} g =
      (ap length g.beds_are ∙ long shape marks beds seen r, ap length g.turns_are ∙ length-filled size _ (round_filling shape marks beds) old)

  -- a square after one round more
  turn_more :
      (t : ℕ) → suc t ≤ size → (old turns : List ℕ) → turns ≡ filled size (λ i. eqb (height t i) (height 0 i)) (round_filling shape marks beds) old →
      filled size (λ i. eqb (height (suc t) i) (height t i)) (λ i. suc t) turns
      ≡ filled size (λ i. eqb (height (suc t) i) (height 0 i)) (round_filling shape marks beds) old
  turn_more t h old turns e =
      is_filled size (λ i. eqb (height (suc t) i) (height 0 i)) (round_filling shape marks beds) old (filled size fresh (λ i. suc t) turns)
      (length-filled size fresh (λ i. suc t) turns ∙ same)
      (λ i l. by_lt i size (λ x. inside i l x) (λ x. past i l x))
    where
      fresh : ℕ → Bool
      fresh i = eqb (height (suc t) i) (height t i)

      same : length turns ≡ length old
      same = ap length e ∙ length-filled size _ (round_filling shape marks beds) old

      was : (i : ℕ) → get_or turns i 0 ≡ get_or (filled size (λ i. eqb (height t i) (height 0 i)) (round_filling shape marks beds) old) i 0
      was i = ap (λ (l : List ℕ). get_or l i 0) e

      past :
          (i : ℕ) → i < length old → size ≤ i →
          get_or (filled size fresh (λ i. suc t) turns) i 0 ≡ pick (leb size i || eqb (height (suc t) i) (height 0 i)) (get_or old i 0) (round_filling shape marks beds i)
      past i l x =
          filled_past size fresh (λ i. suc t) turns i (omega (arith, l, same)) x
          ∙ (was i
          ∙ (filled_past size (λ i. eqb (height t i) (height 0 i)) (round_filling shape marks beds) old i l x
          ∙ sym (pick_true _ _ (ap (λ (b : Bool). b || eqb (height (suc t) i) (height 0 i)) (le-leb size i x)))))

      by_second :
          (i : ℕ) → i < size → (b : Bool) → eqb (height (suc t) i) (height 0 i) ≡ b → (leb size i || eqb (height (suc t) i) (height 0 i)) ≡ b
      by_second i x b q = ap (λ (c : Bool). c || eqb (height (suc t) i) (height 0 i)) (lt-leb size i x) ∙ q

      inside :
          (i : ℕ) → i < length old → i < size →
          get_or (filled size fresh (λ i. suc t) turns) i 0 ≡ pick (leb size i || eqb (height (suc t) i) (height 0 i)) (get_or old i 0) (round_filling shape marks beds i)
      inside i l x =
          by_eq (height (suc t) i) (height t i)
          (λ q.
          filled_skipped size fresh (λ i. suc t) turns i (omega (arith, l, same)) (eq-eqb _ _ q)
          ∙ (was i
          ∙ by_eq (height t i) (height 0 i)
          (λ z.
          filled_skipped size (λ i. eqb (height t i) (height 0 i)) (round_filling shape marks beds) old i l (eq-eqb _ _ z)
          ∙ sym (pick_true _ _ (by_second i x true (eq-eqb _ _ (q ∙ z)))))
          (λ d.
          filled_in size (λ i. eqb (height t i) (height 0 i)) (round_filling shape marks beds) old i l x (ne_eqb _ _ d)
          ∙ sym (pick_false _ _ (by_second i x false (ne_eqb _ _ (λ z. d (sym q ∙ z))))))))
          (λ d.
          by_eq (height t i) no_bed
          (λ u.
          let k : height (suc t) i ≡ no_bed → ⊥ = λ z. d (z ∙ sym u) in
          filled_in size fresh (λ i. suc t) turns i (omega (arith, l, same)) x (ne_eqb _ _ d)
          ∙ (round_is t i x h u k
          ∙ sym (pick_false _ _ (by_second i x false (ne_eqb _ _ (λ z. k (z ∙ unknown_before 0 t i x (omega arith) u)))))))
          (λ k. absurd (d (known_stays shape marks beds seen t i x k))))

  module _ {old : List ℕ} {turn : ℕ} {now turns : List ℕ} (low : 1 ≤ turn) (high : turn ≤ size) (g : Going shape marks beds old (turn - 1) now turns) where
    abbrev t : ℕ
    t = turn - 1

    suc_t : suc t ≡ turn
    suc_t = omega arith

    -- the beds before a round, and those after it
    module _ {before after : List ℕ} (b : before ≡ now) (r : after ≡ round_of shape marks before) where
      after_is : after ≡ after_rounds shape marks beds (suc t)
      unfolding after_rounds
      after_is = r ∙ ap (round_of shape marks) (b ∙ g.beds_are)

      pub going_more :
          {new : List ℕ} → new ≡ filled (length before) (λ i. eqb (get_or after i 0) (get_or before i 0)) (λ i. turn) turns →
          Going shape marks beds old (turn + 1 - 1) after new
      going_more {new} e =
          let z : suc t ≡ turn + 1 - 1 = omega arith in
          let long_is : length before ≡ size = ap length b ∙ (going_long g).0 in
          subst (λ (k : ℕ). Going shape marks beds old k after new) z
          (record {
            few = omega arith;
            beds_are = after_is;
            turns_are =
                e
                ∙ (noted long_is (after_is) (b ∙ g.beds_are) (sym suc_t)
                ∙ turn_more t (omega arith) old turns g.turns_are);
          })
        where
          noted :
              {m k : ℕ} {x y u v : List ℕ} → m ≡ size → x ≡ u → y ≡ v → turn ≡ k →
              filled m (λ i. eqb (get_or x i 0) (get_or y i 0)) (λ i. turn) turns ≡ filled size (λ i. eqb (get_or u i 0) (get_or v i 0)) (λ i. k) turns
          noted {x = x} {y = y} {u = u} {v = v} p q r s =
              ap (λ (m : ℕ). filled m (λ i. eqb (get_or x i 0) (get_or y i 0)) (λ i. turn) turns) p
              ∙ (ap (λ (l : List ℕ). filled size (λ i. eqb (get_or l i 0) (get_or y i 0)) (λ i. turn) turns) q
              ∙ (ap (λ (l : List ℕ). filled size (λ i. eqb (get_or u i 0) (get_or l i 0)) (λ i. turn) turns) r
              ∙ ap (λ (k : ℕ). filled size (λ i. eqb (get_or u i 0) (get_or v i 0)) (λ i. k) turns) s))

      -- a round that fills nothing is the last
      pub going_still : after ≡ before → RoundsMade shape marks beds after old turns
      unfolding filled_beds after_rounds
      going_still same =
          let kept : after ≡ after_rounds shape marks beds t = same ∙ (b ∙ g.beds_are) in
          record {
            beds_are = kept ∙ sym (settled shape marks beds seen t size (omega arith) (sym after_is ∙ kept));
            turns_are =
                g.turns_are
                ∙ ap (λ (l : List ℕ). filled size (λ i. eqb (get_or l i 0) (get_or beds i 0)) (round_filling shape marks beds) old) (sym kept);
          }
