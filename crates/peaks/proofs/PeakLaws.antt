-- Laws of the peaks of a run: rooms that each state raises hold the peaks of all states so far.
-- Assumes nothing.
use mathlib.Core.Path.{◌≡◌, refl, sym, ap, subst, ◌∙◌}
use mathlib.Core.Bool.{Bool, true, false}
use mathlib.Core.List.{List}
use Prim.Native.Nat.{ℕ, zero, suc, ◌+◌, ◌<◌, ◌^◌}
use native.Mathlib.Numerals.{add-one}
use native.Mathlib.Decide.{dec_lt}
use native.Mathlib.Omega.{arith}
use lib.Dec.{ltb}
use lib.ListN.{length, get_or}
use lib.Seq.{ext_get_or}
use Rattle.reckon.specs.Tests.{pick}
use Rattle.reckon.specs.Lists.{filled}
use Rattle.reckon.proofs.TestLaws.{pick_true, pick_false}
use Rattle.reckon.proofs.MostLaws.{pick-max}
use Rattle.reckon.proofs.ListLaws.{length-filled, filled_in, filled_past, filled_skipped, filled_ext}
use Rattle.grid.specs.Squares.{squares}
use Rattle.grid.specs.Marks.{closed}
use Rattle.ledger.specs.Runs.{Plan, World, seen_of}
use Rattle.ledger.specs.Record.{ring_of}
use Rattle.ledger.specs.Flows.{shut}
use Rattle.checks.specs.Given.{Given}
use Rattle.checks.specs.Inner.Ready.{Ready}
use Rattle.checks.proofs.CheckLaws.{ready}
use Rattle.flood.specs.Step.{stepped}
use Rattle.flood.specs.Run.{steps_on}
use Rattle.flood.specs.Inner.Run.{KeptOver}
use Rattle.flood.proofs.RunToLaws.{Valid}
use Rattle.reckon.specs.Most.{most_over, first_most}
use Rattle.peaks.specs.Peaks.{depth_after, peak_of, peak_clock, peaks_over, clocks_over}
use Rattle.peaks.specs.Inner.Raised.{rises_at, Raises, peaks_raised, clocks_raised}

-- a room filled over a room filled by the same squares
filled_over :
    (n : ℕ) (skipped : ℕ → Bool) (f g h : ℕ → ℕ) (old : List ℕ) →
    ((i : ℕ) → i < length old → i < n → skipped i ≡ false → f i ≡ h i) → filled n skipped f (filled n skipped g old) ≡ filled n skipped h old
filled_over n skipped f g h old same =
    ext_get_or 0 _ _ (length-filled n skipped f (filled n skipped g old) ∙ (within ∙ sym (length-filled n skipped h old)))
    (λ i l. at i (omega (arith, l, length-filled n skipped f (filled n skipped g old), within)) (dec_lt i n) (skipped i) refl)
  where
    within : length (filled n skipped g old) ≡ length old
    within = length-filled n skipped g old

    at :
        (i : ℕ) → i < length old → Dec (i < n) → (b : Bool) → skipped i ≡ b →
        get_or (filled n skipped f (filled n skipped g old)) i 0 ≡ get_or (filled n skipped h old) i 0
    at i l (no z) b e =
        filled_past n skipped f (filled n skipped g old) i (omega (arith, l, within)) (omega arith)
        ∙ (filled_past n skipped g old i l (omega arith) ∙ sym (filled_past n skipped h old i l (omega arith)))
    at i l (yes z) true e =
        filled_skipped n skipped f (filled n skipped g old) i (omega (arith, l, within)) e
        ∙ (filled_skipped n skipped g old i l e ∙ sym (filled_skipped n skipped h old i l e))
    at i l (yes z) false e =
        filled_in n skipped f (filled n skipped g old) i (omega (arith, l, within)) z e ∙ (same i l z e ∙ sym (filled_in n skipped h old i l z e))

-- an open square rises at the first state, and later by its depth
rises_first : (marks depths peaks : List ℕ) (i : ℕ) → closed marks i ≡ false → rises_at true marks depths peaks i ≡ true
unfolding rises_at pick
rises_first marks depths peaks i e = pick_false _ _ e

rises_later :
    (marks depths peaks : List ℕ) (i : ℕ) → closed marks i ≡ false → rises_at false marks depths peaks i ≡ ltb (get_or peaks i 0) (get_or depths i 0)
unfolding rises_at pick
rises_later marks depths peaks i e = pick_false _ _ e

module _ (p : Plan) (g : Given) (w : World) (peaks₀ clocks₀ : List ℕ) where
  pub record Peaked (now : World) (steps : ℕ) (peaks clocks : List ℕ) : Type 0 where
    pub now_is : now ≡ steps_on p g steps w
    pub peaks_are : peaks ≡ peaks_over p g w steps peaks₀
    pub clocks_are : clocks ≡ clocks_over p g w steps clocks₀

  -- the rooms keep their lengths
  pub peaked_long :
      {now : World} {steps : ℕ} {peaks clocks : List ℕ} → Peaked now steps peaks clocks → (length peaks ≡ length peaks₀) × (length clocks ≡ length clocks₀)
  unfolding peaks_over clocks_over
  peaked_long r =
      (ap length r.peaks_are ∙ length-filled (squares p.shape) (shut p) _ peaks₀, ap length r.clocks_are ∙ length-filled (squares p.shape) (shut p) _ clocks₀)

  -- the starting state
  pub peaked_starts :
      {peaks clocks : List ℕ} → length p.marks ≡ squares p.shape → Raises true w.run.clock p.marks w.depths peaks₀ clocks₀ peaks clocks →
      Peaked w 0 peaks clocks
  unfolding peaks_over clocks_over peaks_raised clocks_raised peak_of peak_clock most_over first_most steps_on
  peaked_starts n r =
      record {
        now_is = refl;
        peaks_are =
            r.peaks_are
            ∙ (ap (λ (k : ℕ). filled k (shut p) (λ i. pick (rises_at true p.marks w.depths peaks₀ i) (get_or w.depths i 0) (get_or peaks₀ i 0)) peaks₀) n
            ∙ filled_ext (squares p.shape) (shut p) _ _ peaks₀ (λ i l e. pick_true _ _ (rises_first p.marks w.depths peaks₀ i e)));
        clocks_are =
            r.clocks_are
            ∙ (ap (λ (k : ℕ). filled k (shut p) (λ i. pick (rises_at true p.marks w.depths peaks₀ i) w.run.clock (get_or clocks₀ i 0)) clocks₀) n
            ∙ filled_ext (squares p.shape) (shut p) _ _ clocks₀ (λ i l e. pick_true _ _ (rises_first p.marks w.depths peaks₀ i e)));
      }

  module _ {now after : World} {steps : ℕ} {peaks clocks : List ℕ} (n : length p.marks ≡ squares p.shape) (r : Peaked now steps peaks clocks) (made : after ≡ stepped p g now) where
    after_is : after ≡ steps_on p g (suc steps) w
    unfolding steps_on
    after_is = made ∙ ap (stepped p g) r.now_is

    -- what is known of a square not closed
    module _ (i : ℕ) (l : i < squares p.shape) (e : shut p i ≡ false) where
      peak_before : i < length peaks₀ → get_or peaks i 0 ≡ peak_of p g w steps i
      unfolding peaks_over
      peak_before h = ap (λ (x : List ℕ). get_or x i 0) r.peaks_are ∙ filled_in (squares p.shape) (shut p) _ peaks₀ i h l e

      clock_before : i < length clocks₀ → get_or clocks i 0 ≡ peak_clock p g w steps i
      unfolding clocks_over
      clock_before h = ap (λ (x : List ℕ). get_or x i 0) r.clocks_are ∙ filled_in (squares p.shape) (shut p) _ clocks₀ i h l e

      depth_now : get_or after.depths i 0 ≡ depth_after p g w i (suc steps)
      depth_now = ap (λ (x : World). get_or x.depths i 0) after_is

      rises_now :
          i < length peaks₀ →
          rises_at false p.marks after.depths peaks i ≡ ltb (most_over steps (depth_after p g w i)) (depth_after p g w i (suc steps))
      unfolding peak_of
      rises_now h =
          rises_later p.marks after.depths peaks i e
          ∙ (ap (λ (k : ℕ). ltb k (get_or after.depths i 0)) (peak_before h) ∙ ap (ltb (most_over steps (depth_after p g w i))) depth_now)

      peak_more :
          i < length peaks₀ →
          pick (rises_at false p.marks after.depths peaks i) (get_or after.depths i 0) (get_or peaks i 0) ≡ peak_of p g w (suc steps) i
      unfolding peak_of most_over
      peak_more h =
          ap (λ (b : Bool). pick b (get_or after.depths i 0) (get_or peaks i 0)) (rises_now h)
          ∙ (ap (λ (k : ℕ). pick (ltb (most_over steps (depth_after p g w i)) (depth_after p g w i (suc steps))) k (get_or peaks i 0)) depth_now
          ∙ (ap (λ (k : ℕ). pick (ltb (most_over steps (depth_after p g w i)) (depth_after p g w i (suc steps))) (depth_after p g w i (suc steps)) k) (peak_before h)
          ∙ pick-max (most_over steps (depth_after p g w i)) (depth_after p g w i (suc steps))))

      clock_more :
          i < length peaks₀ → i < length clocks₀ →
          pick (rises_at false p.marks after.depths peaks i) after.run.clock (get_or clocks i 0) ≡ peak_clock p g w (suc steps) i
      unfolding peak_clock first_most
      clock_more h k = go (ltb (most_over steps (depth_after p g w i)) (depth_after p g w i (suc steps))) refl
        where
          go :
              (b : Bool) → ltb (most_over steps (depth_after p g w i)) (depth_after p g w i (suc steps)) ≡ b →
              pick (rises_at false p.marks after.depths peaks i) after.run.clock (get_or clocks i 0)
              ≡ (steps_on p g (pick (ltb (most_over steps (depth_after p g w i)) (depth_after p g w i (suc steps))) (suc steps) (first_most steps (depth_after p g w i))) w).run.clock
          go true t =
              pick_true _ _ (rises_now h ∙ t)
              ∙ (ap (λ (x : World). x.run.clock) after_is ∙ ap (λ (m : ℕ). (steps_on p g m w).run.clock) (sym (pick_true _ _ t)))
          go false t =
              pick_false _ _ (rises_now h ∙ t)
              ∙ (clock_before k ∙ ap (λ (m : ℕ). (steps_on p g m w).run.clock) (sym (pick_false _ _ t)))

    -- one state more
    abbrev peak_next : ℕ → ℕ
    peak_next i = pick (rises_at false p.marks after.depths peaks i) (get_or after.depths i 0) (get_or peaks i 0)

    abbrev clock_next : ℕ → ℕ
    clock_next i = pick (rises_at false p.marks after.depths peaks i) after.run.clock (get_or clocks i 0)

    peaks_next : filled (length p.marks) (shut p) peak_next peaks ≡ peaks_over p g w (suc steps) peaks₀
    unfolding peaks_over
    peaks_next =
        ap (λ (k : ℕ). filled k (shut p) peak_next peaks) n
        ∙ (ap (λ (x : List ℕ). filled (squares p.shape) (shut p) peak_next x) r.peaks_are
        ∙ filled_over (squares p.shape) (shut p) peak_next (peak_of p g w steps) (peak_of p g w (suc steps)) peaks₀ (λ i h l e. peak_more i l e h))

    clocks_next : length peaks₀ ≡ length clocks₀ → filled (length p.marks) (shut p) clock_next clocks ≡ clocks_over p g w (suc steps) clocks₀
    unfolding clocks_over
    clocks_next even =
        ap (λ (k : ℕ). filled k (shut p) clock_next clocks) n
        ∙ (ap (λ (x : List ℕ). filled (squares p.shape) (shut p) clock_next x) r.clocks_are
        ∙ filled_over (squares p.shape) (shut p) clock_next (peak_clock p g w steps) (peak_clock p g w (suc steps)) clocks₀
        (λ i h l e. clock_more i l e (omega (arith, h, even)) h))

    pub peaked_on :
        {peaks' clocks' : List ℕ} → length peaks₀ ≡ length clocks₀ →
        Raises false after.run.clock p.marks after.depths peaks clocks peaks' clocks' → Peaked after (steps + 1) peaks' clocks'
    unfolding peaks_raised clocks_raised
    peaked_on even f =
        rw (add-one steps)
        (record { now_is = after_is; peaks_are = f.peaks_are ∙ peaks_next; clocks_are = f.clocks_are ∙ clocks_next even })

-- the same from the rooms as they are after the starting state
module _ (p : Plan) (g : Given) (w : World) {peaks₀ clocks₀ peaks₁ clocks₁ : List ℕ} (f : Peaked p g w peaks₀ clocks₀ w 0 peaks₁ clocks₁) where
  again_peaks : (steps : ℕ) → peaks_over p g w steps peaks₁ ≡ peaks_over p g w steps peaks₀
  unfolding peaks_over
  again_peaks steps =
      ap (λ (x : List ℕ). filled (squares p.shape) (shut p) (peak_of p g w steps) x) f.peaks_are
      ∙ filled_over (squares p.shape) (shut p) (peak_of p g w steps) (peak_of p g w 0) (peak_of p g w steps) peaks₀ (λ i h l e. refl)

  again_clocks : (steps : ℕ) → clocks_over p g w steps clocks₁ ≡ clocks_over p g w steps clocks₀
  unfolding clocks_over
  again_clocks steps =
      ap (λ (x : List ℕ). filled (squares p.shape) (shut p) (peak_clock p g w steps) x) f.clocks_are
      ∙ filled_over (squares p.shape) (shut p) (peak_clock p g w steps) (peak_clock p g w 0) (peak_clock p g w steps) clocks₀ (λ i h l e. refl)

  pub peaked_again : Peaked p g w peaks₁ clocks₁ w 0 peaks₁ clocks₁
  peaked_again =
      record {
        now_is = f.now_is;
        peaks_are = f.peaks_are ∙ sym (again_peaks 0);
        clocks_are = f.clocks_are ∙ sym (again_clocks 0);
      }

  pub peaked_whole :
      {now : World} {steps : ℕ} {peaks clocks : List ℕ} → Peaked p g w peaks₁ clocks₁ now steps peaks clocks → Peaked p g w peaks₀ clocks₀ now steps peaks clocks
  peaked_whole {steps = steps} r =
      record {
        now_is = r.now_is;
        peaks_are = r.peaks_are ∙ again_peaks steps;
        clocks_are = r.clocks_are ∙ again_clocks steps;
      }

-- ---- raised by each step of a run

module _
    (p : Plan) (g : Given) (w : World) (n : length p.marks ≡ squares p.shape) {K : Type 0} (keeps : Plan → List ℕ → ℕ → ℕ → K → K → Type 0) (peaks clocks : K → List ℕ)
    (raises : (depths : List ℕ) (before clock : ℕ) (k k' : K) → keeps p depths before clock k k' → Raises false clock p.marks depths (peaks k) (clocks k) (peaks k') (clocks k')) where
  pub peaks_kept :
      (steps : ℕ) {t t' : K} → length (peaks t) ≡ length (clocks t) → Peaked p g w (peaks t) (clocks t) w 0 (peaks t) (clocks t) → KeptOver keeps p g w steps t t' →
      Peaked p g w (peaks t) (clocks t) (steps_on p g steps w) steps (peaks t') (clocks t')
  unfolding KeptOver steps_on
  peaks_kept zero {t} {t'} even f r = subst (λ (k : K). Peaked p g w (peaks t) (clocks t) w 0 (peaks k) (clocks k)) (sym r) f
  peaks_kept (suc steps) {t} even f r =
      rw (sym (add-one steps))
      (peaked_on p g w (peaks t) (clocks t) n (peaks_kept steps even f r.1) refl even (raises _ _ _ _ _ r.2.kept))

-- ---- what is known of a world that passes the checks

module _ (p : Plan) (g : Given) (w : World) (ok : Valid p g w) where
  is_ready : Ready p g (seen_of w)
  is_ready = ready p g (ring_of p w) (seen_of w) ok

  pub clock_small : w.run.clock < 2 ^ 32
  clock_small = omega (arith, is_ready.clock_to)

  pub marks_even : length p.marks ≡ squares p.shape
  marks_even = is_ready.flows.lies.sited.marks_long

  pub depths_even : length w.depths ≡ squares p.shape
  depths_even = is_ready.flows.lies.sited.depths_long
