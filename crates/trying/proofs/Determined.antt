-- Every contract leaves one outcome: each is an equation for all that a call gives.
-- Assumes nothing.
use mathlib.Core.Path.{sym, ◌∙◌}
use mathlib.Core.List.{List}
use Prim.Native.Nat.{ℕ}
use Rattle.reckon.specs.Outcomes.{One}
use Rattle.reckon.proofs.OutcomeLaws.{exactly}
use Rattle.ledger.specs.Runs.{Plan}
use Rattle.checks.specs.Given.{Given}
use Rattle.hatches.specs.Log.{Evening, evening}
use Rattle.trying.specs.Lines.{MakesOne, GoesBack}
use Rattle.trying.specs.Inner.Determined.{TryingDetermined}
use Rattle.trying.specs.declared.given.Account.{Account}
use Rattle.trying.specs.declared.lines.Tried.{Tried}

step_one :
    (p : Plan) (g : Given) (e : Evening) (a : Account) →
    One {Out = Tried × (List ℕ × (List ℕ × (List ℕ × List ℕ)))}
    (λ o. MakesOne p g e a o.0.number (evening o.1.0 o.1.1.0 o.1.1.1.0 o.1.1.1.1 o.0.log) o.0.account)
step_one p g e before a b x y =
    let c = x ∙ sym y in
    λ j. (
      record { number = (c j).number; log = (c j).evening.log; account = (c j).account },
      ((c j).evening.depths, ((c j).evening.lasts, ((c j).evening.records, (c j).evening.began))),
    )

back_one :
    (p : Plan) (e : Evening) (a : Account) (count : ℕ) →
    One {Out = Tried × (List ℕ × List ℕ)}
    (λ o. GoesBack p e a count o.0.number (evening o.1.0 o.1.1 e.records e.began o.0.log) o.0.account)
back_one p e before count a b x y =
    let c = x ∙ sym y in
    λ j. (record { number = (c j).number; log = (c j).evening.log; account = (c j).account }, ((c j).evening.depths, (c j).evening.lasts))

pub trying_determined : TryingDetermined
trying_determined =
    record {
      open_account = λ start given. exactly;
      name = λ p r inflow log a n row column. exactly;
      draw = λ log a n litres. exactly;
      step-once = step_one;
      back = back_one;
    }
