-- Every layer function of this crate leaves one outcome.
-- Assumes nothing.
use Rattle.std.specs.Prelude.{List, ℕ}
use Rattle.reckon.specs.Outcomes.{One}
use Rattle.rule.specs.declared.rules.Rules.{Rules}
use Rattle.ledger.specs.Runs.{Plan}
use Rattle.checks.specs.Given.{Given}
use Rattle.hatches.specs.Log.{Evening, evening}
use Rattle.hatches.specs.declared.log.Log.{Log}
use Rattle.trying.specs.Given.{AccountOpened}
use Rattle.trying.specs.Lines.{Names, Draws, MakesOne, GoesBack}
use Rattle.trying.specs.declared.given.Account.{Account}
use Rattle.trying.specs.declared.lines.Tried.{Tried}

-- a step and a take-back tell the log and the account beside the rooms
pub record TryingDetermined : Type 0 where
  pub open_account : (start given : ℕ) → One (AccountOpened start given)
  pub name : (p : Plan) (r : Rules) (inflow : List ℕ) (log : Log) (a : Account) (n row column : ℕ) → One (Names p r inflow log a n row column)
  pub draw : (log : Log) (a : Account) (n litres : ℕ) → One (Draws log a n litres)
  pub step-once : (p : Plan) (g : Given) (e : Evening) (a : Account) →
      One {Out = Tried × (List ℕ × (List ℕ × (List ℕ × List ℕ)))}
      (λ o. MakesOne p g e a o.0.number (evening o.1.0 o.1.1.0 o.1.1.1.0 o.1.1.1.1 o.0.log) o.0.account)
  pub back : (p : Plan) (e : Evening) (a : Account) (count : ℕ) →
      One {Out = Tried × (List ℕ × List ℕ)}
      (λ o. GoesBack p e a count o.0.number (evening o.1.0 o.1.1 e.records e.began o.0.log) o.0.account)
