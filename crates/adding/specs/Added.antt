-- Document 01, "The step": what a step adds.
-- Assumes nothing.
use Rattle.std.specs.Prelude.{ℕ, ◌+◌, ◌/◌, ◌%◌}
use Rattle.reckon.specs.Tables.{rain_added, inflow_added}
use Rattle.ledger.specs.Runs.{Plan}
use Rattle.checks.specs.Given.{Given}

-- "What a step adds is the amount by its end less the amount by its start": rain on every square, inflow on the square's own rows
unfoldable pub added_for : Plan → Given → ℕ → ℕ → ℕ → ℕ
added_for p g start end i =
    rain_added g.rain start end
    + inflow_added g.inflow (i / p.shape.columns) (i % p.shape.columns) g.lie.rules.square_side start end
