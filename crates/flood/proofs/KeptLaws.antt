-- Laws of a loop of steps that are kept: where it has come to, the run from there is the whole run, and each step so far is kept.
-- Assumes nothing.
use mathlib.Core.Path.{◌≡◌, refl, ap, ◌∙◌}
use mathlib.Core.List.{List}
use Prim.Native.Nat.{ℕ, zero, suc, ◌+◌, ◌≤◌, ◌<◌}
use native.Mathlib.Numerals.{add-one}
use lib.ListN.{length}
use Rattle.reckon.specs.Ranges.{last_clock}
use Rattle.grid.specs.Squares.{ShapeInRange, squares}
use Rattle.ledger.specs.Runs.{Plan, World}
use Rattle.checks.specs.Given.{Given}
use Rattle.flood.specs.Step.{stepped, MakesStep}
use Rattle.flood.specs.Run.{steps_on}
use Rattle.flood.specs.Inner.Run.{KeptOf, KeptOver, RunsKept}
use Rattle.flood.proofs.StepLaws.{is_ready}
use Rattle.flood.proofs.RunToLaws.{Valid, Running, running_starts, running_on, running_further, running_refused, running_ends}

module _ {K : Type 0} (fits : Plan → ℕ → K → Type 0) (keeps : Plan → List ℕ → ℕ → ℕ → K → K → Type 0) (p : Plan) (g : Given) (end : ℕ) where
  pub record Keeping (start now : World) (steps : ℕ) (k k' : K) : Type 0 where
    pub running : Running p g end start now steps
    pub now_is : now ≡ steps_on p g steps start
    pub kept : KeptOver keeps p g start steps k k'
    pub fits_now : fits p now.run.clock k'

module _ {K : Type 0} {fits : Plan → ℕ → K → Type 0} {keeps : Plan → List ℕ → ℕ → ℕ → K → K → Type 0} {p : Plan} {g : Given} {end : ℕ} where
  pub keeping_starts : {w : World} {k : K} → Valid p g w → fits p w.run.clock k → Keeping fits keeps p g end w w 0 k k
  unfolding KeptOver steps_on
  keeping_starts {w} ok f = record { running = running_starts p g end w ok; now_is = refl; kept = refl; fits_now = f }

  module _ {start now : World} {steps : ℕ} {k m : K} (r : Keeping fits keeps p g end start now steps k m) where
    pub keeping_ends :
        end ≤ now.run.clock →
        RunsKept keeps p g end start k (record { refused = 0; steps = steps; run = now.run }) now.depths now.lasts now.records m
    keeping_ends l = record { ends = running_ends p g end r.running l; kept = r.kept }

    module _ {after : World} {n : ℕ} (l : now.run.clock < end) (made : MakesStep p g now n after) where
      pub keeping_refused :
          (n ≡ 0 → ⊥) →
          RunsKept keeps p g end start k (record { refused = n; steps = steps; run = after.run }) after.depths after.lasts after.records m
      keeping_refused d = record { ends = running_refused p g end r.running l made d; kept = r.kept }

      module _ (z : n ≡ 0) where
        ran : Running p g end start after (steps + 1)
        ran = running_on p g end r.running l made z

        pub further : now.run.clock < after.run.clock
        further = running_further p g end r.running l made z

        -- what is asked of the state after the step
        pub lies : ShapeInRange p.shape × (length p.marks ≡ squares p.shape) × (length after.depths ≡ squares p.shape)
        lies =
            let ready = is_ready p g after ran.valid in
            (ready.waters.fine, ready.flows.lies.sited.marks_long, ready.flows.lies.sited.depths_long)

        pub clock_low : after.run.clock ≤ last_clock
        clock_low = (is_ready p g after ran.valid).clock_to

        after_is : after ≡ steps_on p g (suc steps) start
        unfolding steps_on
        after_is = made.world_is ∙ ap (stepped p g) r.now_is

        of_step : {k' : K} → keeps p after.depths now.run.clock after.run.clock m k' → KeptOf keeps p g (steps_on p g steps start) (steps_on p g (suc steps) start) m k'
        of_step {k'} kept =
            let made : KeptOf keeps p g now after m k' = record { later = further; kept = kept } in
            rw (r.now_is, after_is) at made

        pub keeping_on :
            {k' : K} → keeps p after.depths now.run.clock after.run.clock m k' → fits p after.run.clock k' →
            Keeping fits keeps p g end start after (steps + 1) k k'
        unfolding KeptOver
        keeping_on {k'} kept f =
            rw (add-one steps)
            (record {
              running = rw (add-one steps) at ran;
              now_is = after_is;
              kept = (m, r.kept, of_step kept);
              fits_now = f;
            })

-- what no step changes stays
module _
    {K : Type 0} (keeps : Plan → List ℕ → ℕ → ℕ → K → K → Type 0) (p : Plan) (g : Given) (w : World) {A : Type 0} (part : K → A)
    (stays : (depths : List ℕ) (before clock : ℕ) (k k' : K) → keeps p depths before clock k k' → part k' ≡ part k) where
  pub kept_same : (n : ℕ) {k k' : K} → KeptOver keeps p g w n k k' → part k' ≡ part k
  unfolding KeptOver
  kept_same zero e = ap part e
  kept_same (suc n) r = stays _ _ _ _ _ r.2.kept ∙ kept_same n r.1
