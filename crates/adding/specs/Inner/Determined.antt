-- The contract of each layer function of this crate leaves one outcome.
-- Assumes nothing.
use Rattle.std.specs.Prelude.{◌≡◌, Bool, true, false, List, ℕ, ◌<◌, get_or}
use Rattle.reckon.specs.Outcomes.{One}
use Rattle.grid.specs.Squares.{squares}
use Rattle.ledger.specs.Runs.{Plan}
use Rattle.ledger.specs.Flows.{shut}
use Rattle.checks.specs.Given.{Given}
use Rattle.adding.specs.Inner.Added.{WaterAdded, poured_once, rows_apart}

-- `add_water` is lent a working room. What it leaves there is determined where the square is not closed, unless a square could not hold what is
-- added.
pub record AddingDetermined : Type 0 where
  pub rows_apart : (inflow : List ℕ) → One {Out = Bool} (λ r. r ≡ rows_apart inflow)
  pub poured-once : (inflow : List ℕ) (side start end j : ℕ) → One {Out = ℕ} (λ n. n ≡ poured_once inflow side start end j)
  pub add-water : (p : Plan) (g : Given) (start end : ℕ) (old : List ℕ) (a b : Bool × List ℕ) →
      WaterAdded p g start end old a.0 a.1 → WaterAdded p g start end old b.0 b.1 →
      (a.0 ≡ b.0) × (a.0 ≡ true → (i : ℕ) → i < squares p.shape → shut p i ≡ false → get_or a.1 i 0 ≡ get_or b.1 i 0)
