-- Document 02, #108: what the tables of rain and inflow give, all squares together.
-- Assumes nothing.
use Rattle.std.specs.Prelude.{◌≡◌, ℕ, ◌+◌, ◌/◌, ◌%◌}
use Rattle.reckon.specs.Tables.{rain_by, inflow_by}
use Rattle.ledger.specs.Runs.{Plan}
use Rattle.ledger.specs.Account.{over_open}
use Rattle.checks.specs.Given.{Given}
use Rattle.adding.specs.Added.{added_for}

module _ (p : Plan) (g : Given) where
  -- "all that rain and inflow tables give .. between its own start and end": to the squares not closed
  unfoldable pub tables_give : ℕ → ℕ → ℕ
  tables_give start end = over_open p (added_for p g start end)

  -- "the tables' amount by the clock": rain on every square not closed, inflow on the square's own rows
  unfoldable pub tables_by : ℕ → ℕ
  tables_by t =
      over_open p (λ i. rain_by g.rain t + inflow_by g.inflow (i / p.shape.columns) (i % p.shape.columns) g.lie.rules.square_side t)

-- "With one table and one side D throughout": two steps of one rain table, one inflow table and one D
pub record SameTables (g h : Given) : Type 0 where
  pub same_rain : g.rain ≡ h.rain
  pub same_inflow : g.inflow ≡ h.inflow
  pub same_side : g.lie.rules.square_side ≡ h.lie.rules.square_side
