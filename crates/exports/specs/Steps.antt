-- What the exported fresh run, step, run to an end and take-back give.
-- Assumes nothing.
use Rattle.std.specs.Prelude.{◌≡◌, Bool, List, [], ◌∷◌, ℕ}
use Rattle.reckon.specs.Tests.{every, pick}
use Rattle.rule.specs.declared.rules.Rules.{Rules}
use Rattle.ledger.specs.Runs.{Plan, World}
use Rattle.ledger.specs.Record.{room_slots}
use Rattle.ledger.specs.TakeBack.{back_number, taken_back}
use Rattle.ledger.specs.declared.runs.Answer.{Answer}
use Rattle.ledger.specs.declared.runs.Answer.TheVariants.{Done, Refused}
use Rattle.checks.specs.Given.{Given}
use Rattle.flood.specs.Step.{step_number, stepped}
use Rattle.checks.specs.Fresh.{fresh_number, fresh_run, fresh_lasts}
use Rattle.flood.specs.Run.{Ended, run_to}
use Rattle.exports.specs.Numbers.{rules_size, run_numbers, run_size, sized, steps_size}
use Rattle.exports.specs.Refusals.{number_if, unless_checks, unless_refused}

-- a refusal's number, 0 for a run
unfoldable pub answer_number : Answer → ℕ
answer_number (Done u) = 0
answer_number (Refused n) = n

-- rules that go in, and a run that goes in or comes out
abbrev pub both_sized : List ℕ → List ℕ → Bool
both_sized rules run = every (sized rules rules_size ∷ sized run run_size ∷ [])

module _ (p : Plan) (r : Rules) (before records rules old : List ℕ) where
  abbrev pub fresh_call_number : ℕ
  fresh_call_number = number_if (both_sized rules old) (fresh_number p r before records)

  pub record ExportsFresh (number : ℕ) (lasts run : List ℕ) : Type 0 where
    pub number_is : number ≡ fresh_call_number
    pub lasts_are : lasts ≡ unless_refused fresh_call_number (fresh_lasts p r before records) before
    pub run_is : run ≡ unless_refused fresh_call_number (run_numbers (fresh_run r (room_slots p records))) old

module _ (p : Plan) (g : Given) (w : World) (rules old : List ℕ) where
  abbrev pub step_call_number : ℕ
  step_call_number = number_if (both_sized rules old) (step_number p g w)

  pub record ExportsStep (number : ℕ) (depths lasts records run : List ℕ) : Type 0 where
    pub number_is : number ≡ step_call_number
    pub depths_are : depths ≡ unless_refused step_call_number (stepped p g w).depths w.depths
    pub lasts_are : lasts ≡ unless_refused step_call_number (stepped p g w).lasts w.lasts
    pub records_are : records ≡ unless_refused step_call_number (stepped p g w).records w.records
    pub run_is : run ≡ unless_refused step_call_number (run_numbers (stepped p g w).run) old

module _ (p : Plan) (w : World) (old : List ℕ) where
  abbrev pub back_call_number : ℕ
  back_call_number = number_if (sized old run_size) (back_number p w)

  pub record ExportsBack (number : ℕ) (depths lasts run : List ℕ) : Type 0 where
    pub number_is : number ≡ back_call_number
    pub depths_are : depths ≡ unless_refused back_call_number (taken_back p w).depths w.depths
    pub lasts_are : lasts ≡ unless_refused back_call_number (taken_back p w).lasts w.lasts
    pub run_is : run ≡ unless_refused back_call_number (run_numbers (taken_back p w).run) old

-- "If one of its steps is refused, it gives that number with the steps made and leaves the state before that step: the exception"
module _ (p : Plan) (g : Given) (end : ℕ) (w : World) (rules old old_steps : List ℕ) where
  abbrev pub ran_sized : Bool
  ran_sized = every (sized rules rules_size ∷ sized old run_size ∷ sized old_steps steps_size ∷ [])

  abbrev pub ran_end : Ended
  ran_end = run_to p g end w

  pub record ExportsRun (number : ℕ) (depths lasts records run steps : List ℕ) : Type 0 where
    pub number_is : number ≡ number_if ran_sized ran_end.number
    pub depths_are : depths ≡ pick ran_sized ran_end.world.depths w.depths
    pub lasts_are : lasts ≡ pick ran_sized ran_end.world.lasts w.lasts
    pub records_are : records ≡ pick ran_sized ran_end.world.records w.records
    pub run_is : run ≡ pick ran_sized (run_numbers ran_end.world.run) old
    pub steps_are : steps ≡ pick ran_sized (unless_checks ran_end.number (ran_end.steps ∷ []) old_steps) old_steps
