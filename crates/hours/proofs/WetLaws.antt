-- Laws of the times of a run: a keeper that adds each step's has the times of all steps so far.
-- Assumes nothing.
use mathlib.Core.Path.{◌≡◌, refl, sym, ap, ap₂, ◌∙◌}
use mathlib.Core.Bool.{Bool, true, false}
use mathlib.Core.List.{List}
use Prim.Native.Nat.{ℕ, zero, suc, ◌+◌, ◌-◌, ◌<◌}
use native.Mathlib.Omega.{arith}
use lib.Dec.{leb}
use lib.ListN.{length, get_or, replicate, length-replicate, get_or-replicate}
use Rattle.reckon.specs.Tests.{pick}
use Rattle.reckon.specs.Lists.{sum_below, tabulate}
use Rattle.reckon.proofs.TestLaws.{pick_true, pick_false, pick_both}
use Rattle.reckon.proofs.ListLaws.{length-tabulate, get_or-tabulate, is_tabulate, tabulate_ext}
use Rattle.grid.specs.Squares.{squares}
use Rattle.ledger.specs.Runs.{Plan, World}
use Rattle.ledger.specs.Flows.{shut}
use Rattle.checks.specs.Given.{Given}
use Rattle.flood.specs.Run.{steps_on}
use Rattle.flood.specs.Inner.Run.{KeptOver}
use Rattle.hours.specs.Hours.{wet_depth, step_time, wet_in, wet_time, wet_times}
use Rattle.hours.specs.Inner.Wet.{TimesFit, wet_for, times_after}
use Rattle.hours.proofs.AddedLaws.{wet_at_most}

-- ---- a room of times beside a clock

pub none_fit : {p : Plan} {clock : ℕ} {times : List ℕ} → times ≡ replicate (squares p.shape) 0 → TimesFit p clock times
none_fit {p} {clock} {times} e =
    record {
      long = ap (λ (x : List ℕ). length x) e ∙ length-replicate {A = ℕ} (squares p.shape) 0;
      few = λ i l. omega (arith, ap (λ (x : List ℕ). get_or x i 0) e ∙ get_or-replicate (squares p.shape) i 0 0 l);
    }

pub fit_after :
    {p : Plan} {before clock : ℕ} (depths : List ℕ) {times times' : List ℕ} → length p.marks ≡ squares p.shape → TimesFit p before times → before < clock →
    times' ≡ times_after (clock - before) p.marks depths times → TimesFit p clock times'
unfolding times_after
fit_after {p} {before} {clock} depths {times} {times'} n f on e =
    record {
      long = ap (λ (x : List ℕ). length x) e ∙ (length-tabulate (length p.marks) _ ∙ n);
      few = λ i l.
          omega (
            arith,
            ap (λ (x : List ℕ). get_or x i 0) e ∙ get_or-tabulate (length p.marks) _ i (omega (arith, l, n)),
            wet_at_most (clock - before) p.marks depths i,
            f.few i l,
            on,
          );
    }

-- ---- the times of a run's steps

module _ (p : Plan) (g : Given) (w : World) (n : length p.marks ≡ squares p.shape) where
  abbrev W : ℕ → World
  W k = steps_on p g k w

  abbrev lasted : ℕ → ℕ
  lasted k = (W (suc k)).run.clock - (W k).run.clock

  before : (k i : ℕ) {times : List ℕ} → times ≡ wet_times p g w k → i < squares p.shape → get_or times i 0 ≡ pick (shut p i) 0 (wet_time p g w k i)
  unfolding wet_times
  before k i e l = ap (λ (x : List ℕ). get_or x i 0) e ∙ get_or-tabulate (squares p.shape) _ i l

  -- what a step counts, by the run's own definition
  one_more :
      (k i : ℕ) {times : List ℕ} → times ≡ wet_times p g w k → i < squares p.shape →
      get_or times i 0 + wet_for (lasted k) p.marks (W (suc k)).depths i ≡ pick (shut p i) 0 (wet_time p g w (suc k) i)
  unfolding wet_for wet_time sum_below wet_in step_time
  one_more k i {times} e l = go (shut p i) refl
    where
      go : (b : Bool) → shut p i ≡ b →
          get_or times i 0 + pick (shut p i) 0 (pick (leb wet_depth (get_or (W (suc k)).depths i 0)) (lasted k) 0)
          ≡ pick (shut p i) 0 (sum_below k (wet_in p g w i) + wet_in p g w i k)
      go true s = ap₂ (λ (a b : ℕ). a + b) (before k i e l ∙ pick_true _ _ s) (pick_true _ _ s) ∙ sym (pick_true _ _ s)
      go false s = ap₂ (λ (a b : ℕ). a + b) (before k i e l ∙ pick_false _ _ s) (pick_false _ _ s) ∙ sym (pick_false _ _ s)

  step_more :
      (k : ℕ) {times times' : List ℕ} → times ≡ wet_times p g w k → times' ≡ times_after (lasted k) p.marks (W (suc k)).depths times →
      times' ≡ wet_times p g w (suc k)
  unfolding times_after wet_times
  step_more k {times} e f =
      f
      ∙ (ap (λ (m : ℕ). tabulate m (λ i. get_or times i 0 + wet_for (lasted k) p.marks (W (suc k)).depths i)) n
      ∙ tabulate_ext (squares p.shape) _ _ (λ i l. one_more k i e l))

  none : {times : List ℕ} → times ≡ replicate (squares p.shape) 0 → times ≡ wet_times p g w 0
  unfolding wet_times wet_time sum_below
  none {times} e =
      let f : TimesFit p 0 times = none_fit {p = p} e in
      is_tabulate (squares p.shape) _ times f.long
      (λ i l. omega (arith, f.few i l) ∙ pick_both (λ (k : ℕ). 0 ≡ k) (shut p i) refl refl)

  module _
      {K : Type 0} (keeps : Plan → List ℕ → ℕ → ℕ → K → K → Type 0) (times : K → List ℕ)
      (adds : (depths : List ℕ) (before clock : ℕ) (k k' : K) → keeps p depths before clock k k' → times k' ≡ times_after (clock - before) p.marks depths (times k)) where
    pub times_kept : (k : ℕ) {t t' : K} → times t ≡ replicate (squares p.shape) 0 → KeptOver keeps p g w k t t' → times t' ≡ wet_times p g w k
    unfolding KeptOver
    times_kept zero e r = ap times r ∙ none e
    times_kept (suc k) e r = step_more k (times_kept k e r.1) (adds _ _ _ _ _ r.2.kept)
