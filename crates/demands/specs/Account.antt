-- Document 02, #108: the water account. "One statement over any series of steps and take-backs from a fresh run": the left side is summed
-- from the state, the right one from tables and clocks alone.
-- Assumes nothing.
use Rattle.std.specs.Prelude.{◌≡◌, List, [], ◌∷◌, ℕ, ◌+◌}
use Rattle.rule.specs.declared.rules.Rules.{Rules}
use Rattle.ledger.specs.Runs.{Plan, World, world}
use Rattle.ledger.specs.Account.{water, held}
use Rattle.ledger.specs.declared.runs.Run.{Run}
use Rattle.ledger.specs.declared.runs.Answer.TheVariants.{Done}
use Rattle.checks.specs.Given.{Given}
use Rattle.adding.specs.Account.{tables_give, tables_by, SameTables}
use Rattle.checks.specs.Fresh.{Freshens}
use Rattle.demands.specs.Demand3.{Call, Trail, start, series, alone}

module _ (p : Plan) where
  -- "all that rain and inflow tables give the standing steps, each between its own start and end": by the clocks of the fresh run that
  -- makes only them, the newest first
  unfoldable pub all_given : List Given → World → ℕ
  all_given [] f = 0
  all_given (g ∷ gs) f = all_given gs f + tables_give p g (alone p gs f).run.clock (alone p (g ∷ gs) f).run.clock

  -- "With one table and one side D throughout": all standing steps have those of one
  abbrev pub AllSame : Given → List Given → Type 0
  AllSame one [] = Unit {0}
  AllSame one (g ∷ gs) = SameTables g one × AllSame one gs

  -- where a series from a fresh run has come to
  abbrev pub after : List Call → World → Trail p
  after cs f = series p cs (start p f)

  pub record Account : Type 0 where
    -- "water on squares not closed, plus outflow, plus soaked, equals the starting water plus all that rain and inflow tables give the
    -- standing steps": whatever `fresh` may answer, with any depths
    pub balance : (r : Rules) (depths records before lasts : List ℕ) (u : Run) → Freshens p r before records (Done u) lasts → (cs : List Call) →
        let f = world depths lasts records u in
        held p (after cs f).at ≡ water p depths + all_given (after cs f).standing f
    -- "With one table and one side D throughout, the right side is the starting water plus the tables' amount by the clock"
    pub one_table : (r : Rules) (depths records before lasts : List ℕ) (u : Run) → Freshens p r before records (Done u) lasts → (cs : List Call) →
        let f = world depths lasts records u in
        (one : Given) → AllSame one (after cs f).standing → held p (after cs f).at ≡ water p depths + tables_by p one (after cs f).at.run.clock
