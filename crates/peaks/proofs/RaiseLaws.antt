-- Laws of peaks raised by one state more: square by square the rooms are filled, and squares that stay are passed over.
-- Assumes nothing.
use mathlib.Core.Path.{◌≡◌, refl, sym, ap, ◌∙◌}
use mathlib.Core.Bool.{Bool, true, false, ◌||◌}
use mathlib.Core.List.{List}
use Prim.Native.Nat.{ℕ, zero, suc, ◌+◌, ◌<◌, ◌≤◌}
use native.Mathlib.Nat.{add-zero}
use native.Mathlib.Omega.{arith}
use lib.Dec.{ltb}
use lib.ListN.{length, get_or, set}
use borrow.Author.Count.{below_more}
use Rattle.reckon.specs.Tests.{pick}
use Rattle.reckon.proofs.TestLaws.{pick_true, pick_false, pick_both, not_both}
use Rattle.reckon.proofs.ListLaws.{length-filled, filled_ahead, filled_store, filled_keep}
use Rattle.grid.specs.Marks.{closed}
use Rattle.peaks.specs.Inner.Raised.{above_at, rises_at, EightStay, RaisesOne, RaisedTo, RaisesBetween, Raises, peaks_raised, clocks_raised}

-- a square that rises is not closed
rises_open : (first : Bool) (marks depths peaks : List ℕ) (i : ℕ) → rises_at first marks depths peaks i ≡ true → closed marks i ≡ false
unfolding rises_at
rises_open first marks depths peaks i e = go (closed marks i) refl
  where
    go : (b : Bool) → closed marks i ≡ b → closed marks i ≡ false
    go false s = s
    go true s = not_both e (pick_true _ _ s)

-- after the first state a square that does not lie above its peak stays, closed or not
low_stays : (marks depths peaks : List ℕ) (i : ℕ) → above_at depths peaks i ≡ false → rises_at false marks depths peaks i ≡ false
unfolding rises_at
low_stays marks depths peaks i e = pick_both (λ b. b ≡ false) (closed marks i) refl (pick_false _ _ refl ∙ e)

-- ---- eight tests made together

neither : (a b : Bool) → (a || b) ≡ false → (a ≡ false) × (b ≡ false)
neither true b e = not_both refl e
neither false b e = (refl, e)

module _ (depths peaks : List ℕ) (at : ℕ) where
  -- where a test of n squares together fails, none of them lies above its peak
  abbrev Tests : ℕ → Bool → Type 0
  Tests n r = r ≡ false → (k : ℕ) → k < n → above_at depths peaks (at + k) ≡ false

  tests_one : {a : Bool} → a ≡ above_at depths peaks at → Tests 1 a
  tests_one e f k l = rw (let z : at + k ≡ at = omega arith in z) (sym e ∙ f)

  tests_more : (n : ℕ) {r a : Bool} → Tests n r → a ≡ above_at depths peaks (at + n) → Tests (n + 1) (r || a)
  tests_more n {r} {a} t e f = let z = neither r a f in below_more (λ k. above_at depths peaks (at + k) ≡ false) n (t z.0) (sym e ∙ z.1)

  pub eight_tests :
      {a b c d e f g h : Bool} → a ≡ above_at depths peaks at → b ≡ above_at depths peaks (at + 1) → c ≡ above_at depths peaks (at + 2) →
      d ≡ above_at depths peaks (at + 3) → e ≡ above_at depths peaks (at + 4) → f ≡ above_at depths peaks (at + 5) → g ≡ above_at depths peaks (at + 6) →
      h ≡ above_at depths peaks (at + 7) → (a || b || c || d || e || f || g || h) ≡ false → EightStay false depths peaks at
  eight_tests a b c d e f g h z marks k l =
      let four = tests_more 3 (tests_more 2 (tests_more 1 (tests_one a) b) c) d in
      low_stays marks depths peaks (at + k) (tests_more 7 (tests_more 6 (tests_more 5 (tests_more 4 four e) f) g) h z k l)

-- ---- the squares in turn

module _ (first : Bool) (clock : ℕ) (marks depths peaks₀ clocks₀ : List ℕ) where
  -- the rooms below a square
  abbrev Raised : ℕ → List ℕ → List ℕ → Type 0
  Raised = RaisedTo first clock marks depths peaks₀ clocks₀

  pub raised_long : {i : ℕ} {peaks clocks : List ℕ} → Raised i peaks clocks → (length peaks ≡ length peaks₀) × (length clocks ≡ length clocks₀)
  raised_long {i} r =
      (ap length r.peaks_are ∙ length-filled i (closed marks) _ peaks₀, ap length r.clocks_are ∙ length-filled i (closed marks) _ clocks₀)

  module _ (i : ℕ) (here : i < length peaks₀) (there : i < length clocks₀) {peaks clocks : List ℕ} (r : Raised i peaks clocks) where
    same_rises : rises_at first marks depths peaks i ≡ rises_at first marks depths peaks₀ i
    unfolding rises_at
    same_rises =
        ap (λ (k : ℕ). pick (closed marks i) false (pick first true (ltb k (get_or depths i 0))))
        (ap (λ (l : List ℕ). get_or l i 0) r.peaks_are ∙ filled_ahead (closed marks) _ peaks₀ i here)

    raised_more : {peaks' clocks' : List ℕ} → RaisesOne first clock marks depths peaks clocks i peaks' clocks' → Raised (i + 1) peaks' clocks'
    raised_more {peaks'} {clocks'} f = go (rises_at first marks depths peaks₀ i) refl
      where
        go : (b : Bool) → rises_at first marks depths peaks₀ i ≡ b → Raised (i + 1) peaks' clocks'
        go true e =
            let t = same_rises ∙ e in
            let o = rises_open first marks depths peaks₀ i e in
            record {
              peaks_are =
                  f.peaks_are
                  ∙ (pick_true _ _ t
                  ∙ (ap (λ (l : List ℕ). set l i (get_or depths i 0)) r.peaks_are ∙ filled_store (closed marks) _ peaks₀ i here o (sym (pick_true _ _ e))));
              clocks_are =
                  f.clocks_are
                  ∙ (pick_true _ _ t ∙ (ap (λ (l : List ℕ). set l i clock) r.clocks_are ∙ filled_store (closed marks) _ clocks₀ i there o (sym (pick_true _ _ e))));
            }
        go false e =
            let t = same_rises ∙ e in
            record {
              peaks_are = f.peaks_are ∙ (pick_false _ _ t ∙ (r.peaks_are ∙ filled_keep (closed marks) _ peaks₀ i here (λ _. sym (pick_false _ _ e))));
              clocks_are = f.clocks_are ∙ (pick_false _ _ t ∙ (r.clocks_are ∙ filled_keep (closed marks) _ clocks₀ i there (λ _. sym (pick_false _ _ e))));
            }

  -- squares side by side that do not rise
  raised_skip :
      (i n : ℕ) → i + n ≤ length peaks₀ → i + n ≤ length clocks₀ → {peaks clocks : List ℕ} →
      ((k : ℕ) → k < n → rises_at first marks depths peaks (i + k) ≡ false) → Raised i peaks clocks → Raised (i + n) peaks clocks
  raised_skip i zero here there stay r = rw (add-zero i) r
  raised_skip i (suc n) here there stay r =
      let e : i + n + 1 ≡ i + suc n = omega arith in
      let low = stay n (omega arith) in
      rw e at (raised_more (i + n) (omega arith) (omega arith) (raised_skip i n (omega arith) (omega arith) (λ k l. stay k (omega arith)) r)
      (record { peaks_are = sym (pick_false _ _ low); clocks_are = sym (pick_false _ _ low) }))

  pub raised_whole : {peaks clocks : List ℕ} → Raised (length marks) peaks clocks → Raises first clock marks depths peaks₀ clocks₀ peaks clocks
  unfolding peaks_raised clocks_raised
  raised_whole r = record { peaks_are = r.peaks_are; clocks_are = r.clocks_are }

-- ---- a stretch of squares

module _ (first : Bool) (clock : ℕ) (marks depths peaks clocks : List ℕ) where
  -- one square more
  pub between_more :
      (start i : ℕ) {peaks' clocks' peaks'' clocks'' : List ℕ} → i < length peaks' → i < length clocks' →
      RaisesBetween first clock marks depths peaks clocks start i peaks' clocks' → RaisesOne first clock marks depths peaks' clocks' i peaks'' clocks'' →
      RaisesBetween first clock marks depths peaks clocks start (i + 1) peaks'' clocks''
  between_more start i here there b f peaks₀ clocks₀ r =
      let q = b peaks₀ clocks₀ r in
      let long = raised_long first clock marks depths peaks₀ clocks₀ q in
      raised_more first clock marks depths peaks₀ clocks₀ i (omega (arith, long.0)) (omega (arith, long.1)) q f

  -- eight that stay
  pub between_eight :
      (at : ℕ) → at + 8 ≤ length peaks → at + 8 ≤ length clocks → EightStay first depths peaks at →
      RaisesBetween first clock marks depths peaks clocks at (at + 8) peaks clocks
  between_eight at here there stay peaks₀ clocks₀ r =
      let long = raised_long first clock marks depths peaks₀ clocks₀ r in
      raised_skip first clock marks depths peaks₀ clocks₀ at 8 (omega (arith, long.0)) (omega (arith, long.1)) (stay marks) r
