-- The letter's rule in the words of the hatch warden's desk, "a trial taken back was never made"; and that a state which was saved and laid down
-- anew goes on as if nobody had interrupted it.
-- Assumes nothing.
use Rattle.std.specs.Prelude.{◌≡◌, List, ◌++◌, ℕ, ◌≤◌, length, replicate}
use Rattle.ledger.specs.Runs.{Plan, World, seen_of}
use Rattle.ledger.specs.Record.{ring_of}
use Rattle.checks.specs.Given.{Given}
use Rattle.flood.specs.Step.{step_number}
use Rattle.demands.specs.Demand3.{Call, taking_back, start, series, alone, AllMade, Fresh}

-- so many take-backs, one after the other
abbrev pub backs : ℕ → List Call
backs n = replicate {A = Call} n taking_back

module _ (p : Plan) where
  -- After any calls, and a trial by which so many steps stand besides and none of the first was taken back: so many take-backs, as long as so many
  -- are kept, and all that is seen is what was seen before the trial.
  pub record TakenBack : Type 0 where
    pub gone : (f : World) → Fresh p f → (calls trial : List Call) (made : List Given) →
        let before = series p calls (start p f) in
        let tried = series p trial before in
        tried.standing ≡ made ++ before.standing → length made ≤ tried.at.run.kept →
        seen_of (series p (backs (length made)) tried).at ≡ seen_of before.at

  -- Two worlds that show the same, each ring in range where the other's is: records and kept may differ, as in a state that was laid down anew.
  pub record Alike (w v : World) : Type 0 where
    pub same_seen : seen_of w ≡ seen_of v
    pub same_ring : ring_of p w ≡ ring_of p v

  -- Saved is not interrupted: whatever steps the one makes, the other makes too, and they still show the same; and a step that is refused is
  -- refused by the same number.
  pub record LaidDown : Type 0 where
    pub same_made : (w v : World) → Alike w v → (steps : List Given) → AllMade p steps w → AllMade p steps v
    pub same_seen : (w v : World) → Alike w v → (steps : List Given) → AllMade p steps w → seen_of (alone p steps w) ≡ seen_of (alone p steps v)
    pub same_next : (w v : World) → Alike w v → (steps : List Given) → AllMade p steps w → (g : Given) →
        step_number p g (alone p steps w) ≡ step_number p g (alone p steps v)
