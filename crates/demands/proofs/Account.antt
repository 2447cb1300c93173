-- The water account holds: by demand 3 what is seen is what the standing steps alone give, and each of them adds what the tables give
-- between its clocks.
-- Assumes nothing.
use mathlib.Core.Path.{◌≡◌, ap, ◌∙◌}
use mathlib.Core.List.{List, [], ◌∷◌}
use Prim.Native.Nat.{ℕ, ◌+◌}
use native.Mathlib.Nat.{le_of_lt}
use native.Mathlib.Omega.{arith}
use Rattle.rule.specs.declared.rules.Rules.{Rules}
use Rattle.ledger.specs.Runs.{Plan, World, world}
use Rattle.ledger.specs.Account.{water, held}
use Rattle.ledger.specs.declared.runs.Run.{Run}
use Rattle.ledger.specs.declared.runs.Answer.TheVariants.{Done}
use Rattle.checks.specs.Given.{Given}
use Rattle.adding.specs.Account.{tables_by}
use Rattle.adding.proofs.AccountLaws.{tables_start, tables_go_on, tables_alike}
use Rattle.flood.specs.Step.{stepped}
use Rattle.checks.specs.Fresh.{fresh_run, Freshens}
use Rattle.flood.proofs.AccountLaws.{step_accounts}
use Rattle.flood.proofs.RunToLaws.{checks_passed, clock_on}
use Rattle.demands.specs.Demand3.{Call, Trail, alone, AllMade, NeverMade}
use Rattle.demands.specs.Account.{all_given, AllSame, after, Account}
use Rattle.demands.proofs.Demand3.{fresh-run, demand_3}

module _ (p : Plan) where
  -- the standing steps alone
  pub alone_balance : (gs : List Given) (f : World) → AllMade p gs f → held p (alone p gs f) ≡ held p f + all_given p gs f
  unfolding alone all_given
  alone_balance [] f made = omega arith
  alone_balance (g ∷ gs) f made =
      omega (arith, alone_balance gs f made.1, step_accounts p g (alone p gs f) made.0)

  alone-tables : (one : Given) (gs : List Given) (f : World) → AllMade p gs f → AllSame p one gs →
      tables_by p one f.run.clock + all_given p gs f ≡ tables_by p one (alone p gs f).run.clock
  unfolding alone all_given
  alone-tables one [] f made same = omega arith
  alone-tables one (g ∷ gs) f made same =
      let before = (alone p gs f).run.clock in
      let now = (stepped p g (alone p gs f)).run.clock in
      omega (
        arith,
        alone-tables one gs f made.1 same.1,
        tables_alike p g one before now same.0,
        tables_go_on p one {t = before} {u = now} (le_of_lt (clock_on p g (alone p gs f) (checks_passed p g (alone p gs f) made.0) made.0)),
      )

  -- ---- from a fresh run

  module _ (r : Rules) (depths records before lasts : List ℕ) (u : Run) (freshly : Freshens p r before records (Done u) lasts) (cs : List Call) where
    abbrev f : World
    f = world depths lasts records u

    abbrev x : Trail p
    x = after p cs f

    stands : NeverMade p f x
    stands = (demand_3 p).never_made f ((demand_3 p).fresh_is r depths records before lasts u freshly) cs

    -- a fresh run holds the starting water and no more
    pub fresh_holds : held p f ≡ water p depths
    unfolding held fresh_run
    fresh_holds = rw (fresh-run p r depths records before lasts u freshly) (omega arith)

    fresh_clock : f.run.clock ≡ 0
    unfolding fresh_run
    fresh_clock = ap (λ (v : Run). v.clock) (fresh-run p r depths records before lasts u freshly)

    -- what the series has come to holds what the standing steps alone hold
    same_held : held p x.at ≡ held p (alone p x.standing f)
    unfolding held
    same_held = rw (stands.same_depths, stands.same_outflow, stands.same_soaked)

    balances : held p x.at ≡ water p depths + all_given p x.standing f
    balances = omega (arith, same_held, alone_balance x.standing f stands.all_made, fresh_holds)

    by_the_clock : (one : Given) → AllSame p one x.standing → held p x.at ≡ water p depths + tables_by p one x.at.run.clock
    by_the_clock one same =
        let start : tables_by p one f.run.clock ≡ 0 = ap (tables_by p one) fresh_clock ∙ tables_start p one in
        let now = ap (tables_by p one) stands.same_clock in
        omega (arith, balances, alone-tables one x.standing f stands.all_made same, start, now)

  pub account : Account p
  account = record { balance = balances; one_table = by_the_clock }
