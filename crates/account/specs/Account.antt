-- Document 02, #108: the two sides of the water account that a program can work, as the public functions give them.
-- Assumes nothing.
use Rattle.std.specs.Prelude.{◌≡◌, List, ℕ}
use Rattle.ledger.specs.Runs.{Plan}
use Rattle.ledger.specs.Account.{water}
use Rattle.checks.specs.Given.{Given}
use Rattle.adding.specs.Account.{tables_give}

-- "water on squares not closed"
abbrev pub WaterOn : Plan → List ℕ → ℕ → Type 0
WaterOn p depths r = r ≡ water p depths

-- "all that rain and inflow tables give .. between its own start and end"
abbrev pub TablesGive : Plan → Given → ℕ → ℕ → ℕ → Type 0
TablesGive p g start end r = r ≡ tables_give p g start end
