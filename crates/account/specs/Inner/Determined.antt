-- The contract of each layer function of this crate leaves one outcome.
-- Assumes nothing.
use Rattle.std.specs.Prelude.{List, ℕ}
use Rattle.reckon.specs.Outcomes.{One}
use Rattle.ledger.specs.Runs.{Plan}
use Rattle.checks.specs.Given.{Given}
use Rattle.account.specs.Account.{TablesGive, WaterOn}

pub record AccountDetermined : Type 0 where
  pub water_on : (p : Plan) (depths : List ℕ) → One (WaterOn p depths)
  pub tables-give : (p : Plan) (g : Given) (start end : ℕ) → One (TablesGive p g start end)
