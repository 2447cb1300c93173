-- Document 02, #109: "Demands 2 and 3 read of both." A series as it is played: each call by whichever engine, each outcome any that the engine's
-- own contract allows.
-- Assumes nothing.
use Rattle.std.specs.Prelude.{◌≡◌, List, [], ◌∷◌, ℕ, ◌+◌}
use Rattle.grid.specs.declared.walks.Walk.{Walk}
use Rattle.rule.specs.declared.rules.Rules.{Rules}
use Rattle.ledger.specs.Runs.{Plan, World, world}
use Rattle.ledger.specs.Account.{water, held}
use Rattle.ledger.specs.TakeBack.{TakesBack}
use Rattle.ledger.specs.declared.runs.Run.{Run}
use Rattle.ledger.specs.declared.runs.Answer.{Answer}
use Rattle.ledger.specs.declared.runs.Answer.TheVariants.{Done, Refused}
use Rattle.checks.specs.Given.{Given}
use Rattle.flood.specs.Step.{step_number}
use Rattle.checks.specs.Fresh.{Freshens}
use Rattle.flood.specs.declared.run.Ran.{Ran}
use Rattle.demands.specs.EnginesAgree.{StepBy, RunBy}
use Rattle.demands.specs.Demand2.{StepGives}
use Rattle.demands.specs.Demand3.{Call, stepping, running, taking_back, Trail, start, series, Fresh, NeverMade}
use Rattle.demands.specs.Account.{all_given}

-- "the run as it was": the run that a caller goes on with, the answer's or, of a refused call, his own
unfoldable pub run_after : Answer → Run → Run
run_after (Done u) own = u
run_after (Refused n) own = own

module _ (p : Plan) where
  -- one call and the world that it left
  pub data Played : Call → World → World → Type 0 where
    by_step : {g : Given} {w : World} (walk : Walk) (o : Answer × (List ℕ × (List ℕ × List ℕ))) → StepBy walk p g w o →
        Played (stepping g) w (world o.1.0 o.1.1.0 o.1.1.1 (run_after o.0 w.run))
    by_run : {g : Given} {end : ℕ} {w : World} (walk : Walk) (o : Ran × (List ℕ × (List ℕ × List ℕ))) → RunBy walk p g end w o →
        Played (running g end) w (world o.1.0 o.1.1.0 o.1.1.1 o.0.run)
    by_back : {w : World} (o : Answer × (List ℕ × List ℕ)) → TakesBack p w o.0 o.1.0 o.1.1 →
        Played taking_back w (world o.1.0 o.1.1 w.records (run_after o.0 w.run))

  -- call after call, each from the world that the call before it left: "nothing else writing to what was lent"
  pub data Plays : List Call → World → World → Type 0 where
    at_rest : {w : World} → Plays [] w w
    then : {c : Call} {cs : List Call} {w v u : World} → Played c w v → Plays cs v u → Plays (c ∷ cs) w u

  -- where a series that was played has come to: its own world, and the steps standing
  abbrev pub reached : List Call → World → World → Trail p
  reached cs f w = record { at = w; standing = (series p cs (start p f)).standing; peak = (series p cs (start p f)).peak }

  pub record ReadsOfBoth : Type 0 where
    -- demand 2: what a step that an engine has made left is what the rule gives
    pub step_made : (walk : Walk) (g : Given) (w : World) (u : Run) (o : List ℕ × (List ℕ × List ℕ)) → StepBy walk p g w (Done u, o) →
        StepGives p g w (world o.0 o.1.0 o.1.1 u)
    -- demand 1: of a step that an engine has refused the number is the table's, and every slice is as it was
    pub step-refused : (walk : Walk) (g : Given) (w : World) (n : ℕ) (o : List ℕ × (List ℕ × List ℕ)) → StepBy walk p g w (Refused n, o) →
        (n ≡ step_number p g w) × (world o.0 o.1.0 o.1.1 w.run ≡ w)
    -- whichever engine made each step, the world is that of the series
    pub played : (cs : List Call) (f w : World) → Plays cs f w → w ≡ (series p cs (start p f)).at
    -- demand 3: of which nothing taken back was ever made
    pub never_made : (cs : List Call) (f w : World) → Fresh p f → Plays cs f w → NeverMade p f (reached cs f w)
    -- the water account, from whatever `fresh` may answer
    pub balance : (r : Rules) (depths records before lasts : List ℕ) (u : Run) → Freshens p r before records (Done u) lasts → (cs : List Call) (w : World) →
        let f = world depths lasts records u in
        Plays cs f w → held p w ≡ water p depths + all_given p (reached cs f w).standing f
