-- Laws of what a board shows: after the starting state, and after one state more; and what it says of the states of its run.
-- Assumes nothing.
use mathlib.Core.Path.{◌≡◌, refl, sym, ap, ◌∙◌}
use mathlib.Core.Bool.{Bool, true, false, not, ◌||◌}
use Prim.Native.Nat.{ℕ, suc, ◌≤◌, ◌<◌}
use native.Mathlib.Decide.{dec_le}
use native.Mathlib.Omega.{arith}
use lib.Dec.{leb}
use lib.ListN.{get_or}
use borrow.Author.Tests.{le-leb, lt-leb, leb-true, leb-false, not-true, not-false}
use Rattle.reckon.specs.Tests.{pick, first_failing}
use Rattle.reckon.specs.Most.{most_over, first_most}
use Rattle.reckon.proofs.TestLaws.{pick_true, pick_false, not_both, failing_at, failing_none, failing_before, failing_fails}
use Rattle.reckon.proofs.MostLaws.{most_is}
use Rattle.ledger.specs.Runs.{Plan, World}
use Rattle.checks.specs.Given.{Given}
use Rattle.flood.specs.Run.{steps_on}
use Rattle.display.specs.Boards.{square_of, depth_after, first_reached, shown}
use Rattle.display.specs.Worked.{BoardSays}
use Rattle.display.specs.Inner.Refreshed.{cleared, seen_at, looked_at}
use Rattle.display.specs.declared.boards.Board.{Board}
use Rattle.display.proofs.BoardLaws.{same_showing}

module _ (p : Plan) (g : Given) (w : World) (b : Board) where
  abbrev depth : ℕ → ℕ
  depth = depth_after p g w b

  abbrev below : ℕ → Bool
  below k = not (leb b.mark (depth k))

  -- the first of the states 0 .. n that reaches the mark
  abbrev first : ℕ → ℕ
  first n = first_reached p g w b n

  abbrev clock_of : ℕ → ℕ
  clock_of k = (steps_on p g k w).run.clock

  -- ---- the first of one state more

  found_stays : (n : ℕ) → first n ≤ n → first (suc n) ≡ first n
  unfolding first_reached
  found_stays n h =
      failing_at (suc (suc n)) below (first n) (omega arith) (failing_before (suc n) below) (failing_fails (suc n) below (omega arith))

  none_yet : (n : ℕ) → (first n ≤ n → ⊥) → (k : ℕ) → k < suc n → below k ≡ true
  unfolding first_reached
  none_yet n d k h =
      let l : n < first_failing (suc n) below = go (dec_le (first_failing (suc n) below) n) in
      failing_before (suc n) below k (omega arith)
    where
      go : Dec (first_failing (suc n) below ≤ n) → n < first_failing (suc n) below
      go (yes e) = absurd (d e)
      go (no e) = omega arith

  found_now : (n : ℕ) → (first n ≤ n → ⊥) → leb b.mark (depth (suc n)) ≡ true → first (suc n) ≡ suc n
  unfolding first_reached
  found_now n d t = failing_at (suc (suc n)) below (suc n) (omega arith) (none_yet n d) (ap not t)

  found_none : (n : ℕ) → (first n ≤ n → ⊥) → leb b.mark (depth (suc n)) ≡ false → first (suc n) ≡ suc (suc n)
  unfolding first_reached
  found_none n d t = failing_none (suc (suc n)) below go
    where
      go : (k : ℕ) → k < suc (suc n) → below k ≡ true
      go k h = at (dec_le (suc k) (suc n))
        where
          at : Dec (suc k ≤ suc n) → below k ≡ true
          at (yes l) = none_yet n d k l
          at (no l) = let e : k ≡ suc n = omega arith in rw e (ap not t)

  -- ---- one state more

  shown_next : (n : ℕ) → seen_at (depth (suc n)) (clock_of (suc n)) (shown p g w b n) ≡ shown p g w b (suc n)
  unfolding shown most_over
  shown_next n = go (dec_le (first n) n) (leb b.mark (depth (suc n))) refl
    where
      go :
          Dec (first n ≤ n) → (t : Bool) → leb b.mark (depth (suc n)) ≡ t →
          seen_at (depth (suc n)) (clock_of (suc n)) (shown p g w b n) ≡ shown p g w b (suc n)
      go (yes h) t e =
          let r : leb (first n) n ≡ true = le-leb (first n) n h in
          let s : leb (first n) (suc n) ≡ true = le-leb (first n) (suc n) (omega arith) in
          same_showing b refl
          (ap (λ (x : Bool). x || leb b.mark (depth (suc n))) r ∙ sym (ap (λ (k : ℕ). leb k (suc n)) (found_stays n h) ∙ s))
          (pick_true _ _ r
          ∙ (pick_true _ _ r ∙ sym (ap (λ (k : ℕ). pick (leb k (suc n)) (clock_of k) 0) (found_stays n h) ∙ pick_true _ _ s)))
      go (no d) true e =
          let r : leb (first n) n ≡ false = lt-leb (first n) n (omega arith) in
          let s : leb (suc n) (suc n) ≡ true = le-leb (suc n) (suc n) (omega arith) in
          same_showing b refl
          (ap (λ (x : Bool). x || leb b.mark (depth (suc n))) r ∙ (e ∙ sym (ap (λ (k : ℕ). leb k (suc n)) (found_now n d e) ∙ s)))
          (pick_false _ _ r
          ∙ (pick_true _ _ e ∙ sym (ap (λ (k : ℕ). pick (leb k (suc n)) (clock_of k) 0) (found_now n d e) ∙ pick_true _ _ s)))
      go (no d) false e =
          let r : leb (first n) n ≡ false = lt-leb (first n) n (omega arith) in
          let s : leb (suc (suc n)) (suc n) ≡ false = lt-leb (suc (suc n)) (suc n) (omega arith) in
          same_showing b refl
          (ap (λ (x : Bool). x || leb b.mark (depth (suc n))) r ∙ (e ∙ sym (ap (λ (k : ℕ). leb k (suc n)) (found_none n d e) ∙ s)))
          (pick_false _ _ r
          ∙ (pick_false _ _ e
          ∙ (pick_false _ _ r ∙ sym (ap (λ (k : ℕ). pick (leb k (suc n)) (clock_of k) 0) (found_none n d e) ∙ pick_false _ _ s))))

  -- ---- the starting state

  shown-first : seen_at (depth 0) (clock_of 0) (cleared b) ≡ shown p g w b 0
  unfolding shown most_over first_reached first_failing pick
  shown-first = go (leb b.mark (depth 0)) refl
    where
      go : (t : Bool) → leb b.mark (depth 0) ≡ t → seen_at (depth 0) (clock_of 0) (cleared b) ≡ shown p g w b 0
      go true e = rw e (same_showing b (omega arith) refl refl)
      go false e = rw e (same_showing b (omega arith) refl refl)

  -- ---- as a pass gives it

  pub looked_begins : looked_at p.shape w.depths true w.run.clock b ≡ shown p g w b 0
  unfolding looked_at depth_after steps_on pick
  looked_begins = shown-first

  pub looked_next :
      (n : ℕ) (after : World) → after ≡ steps_on p g (suc n) w →
      looked_at p.shape after.depths false after.run.clock (shown p g w b n) ≡ shown p g w b (suc n)
  unfolding looked_at depth_after shown pick
  looked_next n after e =
      ap (λ (x : World). seen_at (get_or x.depths (square_of p b) 0) x.run.clock (shown p g w b n)) e ∙ shown_next n

  -- what it showed before does not matter
  pub shown_again : (k n : ℕ) → shown p g w (shown p g w b k) n ≡ shown p g w b n
  unfolding shown depth_after first_reached
  shown_again k n = refl

  -- ---- what it says

  -- a state that reaches the mark is not below it
  reaches : (k : ℕ) → below k ≡ false → b.mark ≤ depth k
  reaches k e = leb-true _ _ (not-false _ e)

  stays-below : (k : ℕ) → below k ≡ true → depth k < b.mark
  stays-below k e = leb-false _ _ (not-true _ e)

  -- some state does, so that one is found
  found : (n k : ℕ) → k ≤ n → b.mark ≤ depth k → first n ≤ n
  unfolding first_reached
  found n k h r = go (dec_le (first_failing (suc n) below) n)
    where
      go : Dec (first_failing (suc n) below ≤ n) → first_failing (suc n) below ≤ n
      go (yes l) = l
      go (no l) = not_both (failing_before (suc n) below k (omega arith)) (ap not (le-leb _ _ r))

  at_first : (n : ℕ) → first n ≤ n → b.mark ≤ depth (first n)
  unfolding first_reached
  at_first n h = reaches (first n) (failing_fails (suc n) below (omega arith))

  before-first : (n j : ℕ) → j < first n → depth j < b.mark
  unfolding first_reached
  before-first n j h = stays-below j (failing_before (suc n) below j h)

  pub board_says : (n : ℕ) → BoardSays p g w b n
  unfolding shown
  board_says n =
      let most = most_is n depth in
      record {
        none_higher = most.none_greater;
        some_so_high = (first_most n depth, (most.among, most.reached));
        reached-at = λ k h r. le-leb _ _ (found n k h r);
        first-at = first_is;
        never = not_reached;
        row_kept = refl;
        column-kept = refl;
        mark_kept = refl;
      }
    where
      first_is :
          leb (first n) n ≡ true →
          (k : ℕ)
          × ((k ≤ n)
          × ((b.mark ≤ depth k)
          × ((pick (leb (first n) n) (clock_of (first n)) 0 ≡ clock_of k) × ((j : ℕ) → j < k → depth j < b.mark))))
      first_is e = (first n, (leb-true (first n) n e, (at_first n (leb-true (first n) n e), (pick_true (clock_of (first n)) 0 e, before-first n))))

      not_reached : leb (first n) n ≡ false → (pick (leb (first n) n) (clock_of (first n)) 0 ≡ 0) × ((k : ℕ) → k ≤ n → depth k < b.mark)
      not_reached e = (pick_false (clock_of (first n)) 0 e, λ k h. before-first n k (omega (arith, leb-false (first n) n e)))
