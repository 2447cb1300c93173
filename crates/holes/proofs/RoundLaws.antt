-- Laws of the rounds: what each gives, when they end, and that a square is filled in the round that is its distance.
-- Assumes nothing.
use mathlib.Core.Path.{◌≡◌, refl, sym, ap, subst, ◌∙◌}
use mathlib.Core.Bool.{Bool, true, false, not, ◌&&◌}
use mathlib.Core.List.{List}
use mathlib.Core.Logic.{◌⊎◌, inl, inr, ⊎_elim}
use Prim.Native.Nat.{ℕ, zero, suc, ◌+◌, ◌-◌, ◌≤◌, ◌<◌}
use native.Mathlib.Nat.{not-suc-le-zero, add-zero, add-suc}
use native.Mathlib.Omega.{arith}
use lib.Dec.{eqb}
use lib.ListN.{length, get_or, get_or-eq_default}
use lib.Seq.{ext_get_or}
use borrow.Author.Tests.{eq-eqb, ne_eqb, eqb-true, eqb-false, ltb-true}
use Rattle.reckon.specs.Tests.{pick, all_below}
use Rattle.reckon.specs.Lists.{sum_below}
use Rattle.reckon.proofs.TestLaws.{pick_true, pick_false, pick_both, and_left, and_right, and_both, all_at, all_some}
use Rattle.reckon.proofs.ListLaws.{length-tabulate, get_or-tabulate, sum_le, sum_mono}
use Rattle.grid.specs.Squares.{squares, within, beside, north, east, south, west, sides}
use Rattle.grid.specs.Marks.{closed}
use Rattle.grid.specs.declared.squares.Shape.{Shape}
use Rattle.text.proofs.ReadingLaws.{by_test, by_lt}
use Rattle.holes.specs.Rounds.{no_bed, bed_beside, lowest_beside, round_of, after_rounds, filled_beds, Reach, BedsSeen, RoundsLaw}
use Rattle.holes.specs.Rounds.Reach.{here, wait, step}

pub by_eq : {A : Type 0} (m n : ℕ) → (m ≡ n → A) → ((m ≡ n → ⊥) → A) → A
by_eq m n f g = by_test (eqb m n) (λ e. f (eqb-true m n e)) (λ e. g (eqb-false m n e))

not_of : (b : Bool) → not b ≡ true → b ≡ false
not_of true e = sym e
not_of false e = refl

sum_less :
    (n : ℕ) (f g : ℕ → ℕ) → ((i : ℕ) → i < n → f i ≤ g i) → (i : ℕ) → i < n → f i < g i → sum_below n f < sum_below n g
unfolding sum_below
sum_less zero f g h i l k = absurd (not-suc-le-zero l)
sum_less (suc n) f g h i l k =
    by_eq i n (λ e. omega (arith, sum_mono n f g (λ j m. h j (omega arith)), subst (λ (x : ℕ). f x < g x) e k))
    (λ d. omega (arith, sum_less n f g (λ j m. h j (omega arith)) i (omega (arith, ne_lt i n l d)) k, h n (omega arith)))
  where
    ne_lt : (i n : ℕ) → i < suc n → (i ≡ n → ⊥) → i < n
    ne_lt i n l d = by_lt i n (λ m. m) (λ m. absurd (d (omega arith)))

module _ (shape : Shape) (marks beds : List ℕ) (seen : BedsSeen shape marks beds) where
  abbrev n : ℕ
  n = squares shape

  abbrev bed : ℕ → ℕ → ℕ
  bed r i = get_or (after_rounds shape marks beds r) i 0

  pub long : (r : ℕ) → length (after_rounds shape marks beds r) ≡ n
  unfolding after_rounds round_of
  long zero = seen.one_each
  long (suc r) = length-tabulate n _

  -- a round at a square
  round_at : (r i : ℕ) → i < n → bed (suc r) i ≡ pick (eqb (bed r i) no_bed) (lowest_beside shape marks (after_rounds shape marks beds r) i) (bed r i)
  unfolding after_rounds round_of
  round_at r i l = get_or-tabulate n _ i l

  pub known_stays : (r i : ℕ) → i < n → (bed r i ≡ no_bed → ⊥) → bed (suc r) i ≡ bed r i
  known_stays r i l d = round_at r i l ∙ pick_false _ _ (ne_eqb (bed r i) no_bed d)

  lowest_given : (r i : ℕ) → i < n → bed r i ≡ no_bed → bed (suc r) i ≡ lowest_beside shape marks (after_rounds shape marks beds r) i
  lowest_given r i l e = round_at r i l ∙ pick_true _ _ (eq-eqb (bed r i) no_bed e)

  still : (r k : ℕ) → after_rounds shape marks beds (suc r) ≡ after_rounds shape marks beds r → after_rounds shape marks beds (r + k) ≡ after_rounds shape marks beds r
  unfolding after_rounds
  still r zero e = ap (after_rounds shape marks beds) (add-zero r)
  still r (suc k) e = ap (after_rounds shape marks beds) (add-suc r k) ∙ (ap (round_of shape marks) (still r k e) ∙ e)

  -- ---- no bed of a square that is not closed is above that of an unknown one

  beside_most : (r i side : ℕ) → ((j : ℕ) → closed marks j ≡ false → bed r j ≤ no_bed) →
      bed_beside shape marks (after_rounds shape marks beds r) i side ≤ no_bed
  unfolding bed_beside
  beside_most r i side h =
      by_test (within shape (beside shape i side) && not (closed marks (beside shape i side)))
      (λ e. rw (pick_true (bed r (beside shape i side)) no_bed e) (h (beside shape i side) (not_of _ (and_right (within shape (beside shape i side)) _ e))))
      (λ e. rw (pick_false (bed r (beside shape i side)) no_bed e) (omega arith))

  low : (r i : ℕ) → ((j : ℕ) → closed marks j ≡ false → bed r j ≤ no_bed) → lowest_beside shape marks (after_rounds shape marks beds r) i ≤ no_bed
  unfolding lowest_beside
  low r i h = omega (arith, beside_most r i north h)

  pub none_above : (r i : ℕ) → closed marks i ≡ false → bed r i ≤ no_bed
  unfolding after_rounds
  none_above zero i c = seen.none_above i c
  none_above (suc r) i c =
      by_lt i n
      (λ l.
      by_eq (bed r i) no_bed
      (λ e. subst (λ (x : ℕ). x ≤ no_bed) (sym (lowest_given r i l e)) (low r i (λ j d. none_above r j d)))
      (λ d. subst (λ (x : ℕ). x ≤ no_bed) (sym (known_stays r i l d)) (none_above r i c)))
      (λ l.
      let g : length (after_rounds shape marks beds (suc r)) ≤ i = omega (arith, long (suc r)) in
      subst (λ (x : ℕ). x ≤ no_bed) (sym (get_or-eq_default (after_rounds shape marks beds (suc r)) 0 g)) (omega arith))

  -- ---- the round is the distance

  abbrev Near : ℕ → ℕ → Type 0
  Near = Reach shape marks beds

  reach_in : {r i : ℕ} → Near r i → i < n
  reach_in (here l d) = l
  reach_in (wait w) = reach_in w
  reach_in (step side l h w c x) = l

  -- the bed beside, where it is a known square's that is not closed
  beside_is : (r i side : ℕ) → within shape (beside shape i side) ≡ true → closed marks (beside shape i side) ≡ false →
      bed_beside shape marks (after_rounds shape marks beds r) i side ≡ bed r (beside shape i side)
  unfolding bed_beside
  beside_is r i side w c = pick_true _ _ (and_both _ _ w (ap not c))

  lowest_le : (r i side : ℕ) → side < sides →
      lowest_beside shape marks (after_rounds shape marks beds r) i ≤ bed_beside shape marks (after_rounds shape marks beds r) i side
  unfolding lowest_beside
  lowest_le r i zero h = omega arith
  lowest_le r i (suc zero) h = omega arith
  lowest_le r i (suc (suc zero)) h = omega arith
  lowest_le r i (suc (suc (suc zero))) h = omega arith
  lowest_le r i (suc (suc (suc (suc side)))) h = absurd (omega arith)

  reached : {r i : ℕ} → Near r i → bed r i ≡ no_bed → ⊥
  unfolding after_rounds
  reached (here l d) e = d e
  reached {r = suc r} {i = i} (wait w) e = let d = reached w in d (sym (known_stays r i (reach_in w) d) ∙ e)
  reached {r = suc r} {i = i} (step side l h w c x) e =
      let d = reached x in
      by_eq (bed r i) no_bed
      (λ z.
      let m : bed r (beside shape i side) ≤ no_bed = none_above r (beside shape i side) c in
      let k : no_bed ≤ bed r (beside shape i side) =
      omega (arith, sym (lowest_given r i l z) ∙ e, lowest_le r i side h, beside_is r i side w c) in
      d (omega arith))
      (λ y. y (sym (known_stays r i l y) ∙ e))

  -- a side from which a bed comes
  record From (r i : ℕ) : Type 0 where
    side : ℕ
    fair : side < sides
    known : bed_beside shape marks (after_rounds shape marks beds r) i side ≡ no_bed → ⊥

  from_some : (r i : ℕ) → (lowest_beside shape marks (after_rounds shape marks beds r) i ≡ no_bed → ⊥) → From r i
  unfolding lowest_beside
  from_some r i d =
      by_eq (bed_beside shape marks (after_rounds shape marks beds r) i north) no_bed
      (λ a.
      by_eq (bed_beside shape marks (after_rounds shape marks beds r) i east) no_bed
      (λ b.
      by_eq (bed_beside shape marks (after_rounds shape marks beds r) i south) no_bed
      (λ c.
      by_eq (bed_beside shape marks (after_rounds shape marks beds r) i west) no_bed (λ e. absurd (d (omega arith)))
      (λ k. record { side = west; fair = omega arith; known = k }))
      (λ k. record { side = south; fair = omega arith; known = k }))
      (λ k. record { side = east; fair = omega arith; known = k }))
      (λ k. record { side = north; fair = omega arith; known = k })

  beside_open : (r i side : ℕ) → (bed_beside shape marks (after_rounds shape marks beds r) i side ≡ no_bed → ⊥) →
      (within shape (beside shape i side) && not (closed marks (beside shape i side))) ≡ true
  unfolding bed_beside
  beside_open r i side d =
      by_test (within shape (beside shape i side) && not (closed marks (beside shape i side))) (λ e. e) (λ e. absurd (d (pick_false _ _ e)))

  in_grid : (j : ℕ) → within shape j ≡ true → j < n
  in_grid j e = ltb-true j n e

  reached_by : (r i : ℕ) → i < n → (bed r i ≡ no_bed → ⊥) → Near r i
  unfolding after_rounds
  reached_by zero i l d = here l d
  reached_by (suc r) i l d =
      by_eq (bed r i) no_bed
      (λ e.
      let f = from_some r i (λ z. d (lowest_given r i l e ∙ z)) in
      let o = beside_open r i f.side f.known in
      let w = and_left _ _ o in
      let c = not_of _ (and_right (within shape (beside shape i f.side)) _ o) in
      step f.side l f.fair w c
      (reached_by r (beside shape i f.side) (in_grid (beside shape i f.side) w) (λ z. f.known (beside_is r i f.side w c ∙ z))))
      (λ y. wait (reached_by r i l y))

  -- ---- the rounds end

  abbrev blank : ℕ → ℕ → ℕ
  blank r i = pick (eqb (bed r i) no_bed) 1 0

  abbrev blanks : ℕ → ℕ
  blanks r = sum_below n (blank r)

  blank_one : (r i : ℕ) → bed r i ≡ no_bed → blank r i ≡ 1
  blank_one r i e = pick_true 1 0 (eq-eqb (bed r i) no_bed e)

  blank_none : (r i : ℕ) → (bed r i ≡ no_bed → ⊥) → blank r i ≡ 0
  blank_none r i d = pick_false 1 0 (ne_eqb (bed r i) no_bed d)

  blank_most : (r i : ℕ) → blank r i ≤ 1
  blank_most r i = pick_both (λ (k : ℕ). k ≤ 1) (eqb (bed r i) no_bed) (omega arith) (omega arith)

  fewer : (r i : ℕ) → i < n → blank (suc r) i ≤ blank r i
  fewer r i l =
      by_eq (bed r i) no_bed (λ e. omega (arith, blank_one r i e, blank_most (suc r) i))
      (λ d. omega (arith, blank_none r i d, blank_none (suc r) i (λ z. d (sym (known_stays r i l d) ∙ z))))

  -- a round that changes nothing, or fills a square
  changes : (r : ℕ) → (after_rounds shape marks beds (suc r) ≡ after_rounds shape marks beds r) ⊎ (blanks (suc r) < blanks r)
  changes r =
      by_test (all_below n (λ i. eqb (bed (suc r) i) (bed r i)))
      (λ e.
      inl
      (ext_get_or 0 (after_rounds shape marks beds (suc r)) (after_rounds shape marks beds r) (long (suc r) ∙ sym (long r))
      (λ i l. eqb-true (bed (suc r) i) (bed r i) (all_at n (λ i. eqb (bed (suc r) i) (bed r i)) e i (omega (arith, long (suc r)))))))
      (λ e.
      let f = all_some n (λ i. eqb (bed (suc r) i) (bed r i)) e in
      let i : ℕ = f.0 in
      let l : i < n = f.1.0 in
      let d = eqb-false (bed (suc r) i) (bed r i) f.1.1 in
      inr
      (by_eq (bed r i) no_bed
      (λ z.
      sum_less n (blank (suc r)) (blank r) (fewer r) i l
      (omega (arith, blank_one r i z, blank_none (suc r) i (λ y. d (y ∙ sym z)))))
      (λ y. absurd (d (known_stays r i l y)))))

  -- by round r some round has changed nothing, or r squares at least have been filled
  progress : (r : ℕ) → ((k : ℕ) × ((k ≤ r) × (after_rounds shape marks beds (suc k) ≡ after_rounds shape marks beds k))) ⊎ (blanks r + r ≤ n)
  progress zero = inr (omega (arith, sum_le n 1 (blank 0) (λ i l. blank_most 0 i)))
  progress (suc r) =
      ⊎_elim (λ w. inl (w.0, (omega (arith, w.1.0), w.1.1)))
      (λ w. ⊎_elim (λ e. inl (r, (omega arith, e))) (λ l. inr (omega arith)) (changes r)) (progress r)

  pub settled : (k m : ℕ) → k ≤ m → after_rounds shape marks beds (suc k) ≡ after_rounds shape marks beds k → after_rounds shape marks beds m ≡ after_rounds shape marks beds k
  settled k m h e = let z : k + (m - k) ≡ m = omega arith in sym (ap (after_rounds shape marks beds) z) ∙ still k (m - k) e

  ends : (j : ℕ) → after_rounds shape marks beds (n + j) ≡ filled_beds shape marks beds
  unfolding filled_beds
  ends j =
      ⊎_elim (λ w. settled w.0 (n + j) (omega (arith, w.1.0)) w.1.1 ∙ sym (settled w.0 n w.1.0 w.1.1))
      (λ w.
      ⊎_elim (λ e. still n j e) (λ l. absurd (omega arith)) (changes n))
      (progress n)

pub rounds_hold : (shape : Shape) (marks beds : List ℕ) → BedsSeen shape marks beds → RoundsLaw shape marks beds
rounds_hold shape marks beds seen =
    record {
      known_stays = known_stays shape marks beds seen;
      lowest_given = lowest_given shape marks beds seen;
      still = still shape marks beds seen;
      rounds_end = ends shape marks beds seen;
      filled_is_reached = reached_by shape marks beds seen;
      reached_is_filled = λ r i w. reached shape marks beds seen w;
    }
