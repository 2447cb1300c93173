-- Every contract leaves one outcome: each is an equation for all that a call gives.
-- Assumes nothing.
use mathlib.Core.Path.{sym, ◌∙◌}
use mathlib.Core.List.{List, []}
use Prim.Native.Nat.{ℕ}
use Rattle.reckon.specs.Outcomes.{One}
use Rattle.reckon.proofs.OutcomeLaws.{exactly}
use Rattle.ledger.specs.Runs.{Plan}
use Rattle.checks.specs.Given.{Given, ground, given}
use Rattle.hatches.specs.Log.{Evening, evening}
use Rattle.evenings.specs.Program.{no_heading}
use Rattle.evenings.specs.Inner.Backs.{BackTaken}
use Rattle.evenings.specs.Inner.Determined.{EveningsDetermined}
use Rattle.evenings.specs.declared.taking.EntryTaken.{EntryTaken}

-- whatever a step is given: a take-back does not ask it
abbrev none_given : Given
none_given = given (ground no_heading.rules [] [] []) [] []

back_one :
    (p : Plan) (e : Evening) (count : ℕ) →
    One {Out = EntryTaken × (List ℕ × List ℕ)}
    (λ o. BackTaken p e count o.0.number (evening o.1.0 o.1.1 e.records e.began o.0.log))
back_one p e count a b x y =
    let n = (x none_given).0 ∙ sym (y none_given).0 in
    let v = (x none_given).1 ∙ sym (y none_given).1 in
    λ j. (record { number = n j; log = (v j).log }, ((v j).depths, (v j).lasts))

pub evenings_determined : EveningsDetermined
evenings_determined =
    record {
      name_hatch = λ log n row column. exactly;
      further = λ log run steps litres. exactly;
      back_line = back_one;
      no-night = λ long. exactly;
      clear = λ old. exactly;
    }
