-- The contract of each layer function of this crate leaves one outcome.
-- Assumes nothing.
use Rattle.std.specs.Prelude.{List, ℕ}
use Rattle.reckon.specs.Outcomes.{One}
use Rattle.ledger.specs.Runs.{Plan}
use Rattle.stands.specs.Texts.{PutStand}
use Rattle.stands.specs.Laying.{Lays, water}
use Rattle.stands.specs.declared.saved.Laid.{Laid}
use Rattle.stands.specs.declared.saved.Saved.{Saved}

pub record StandsDetermined : Type 0 where
  pub put_stand : (p : Plan) (depths lasts : List ℕ) (a : Saved) (at : ℕ) (room : List ℕ) →
      One {Out = ℕ × List ℕ} (λ o. PutStand p depths lasts a at room o.1 o.0)
  pub read_stand : (p : Plan) (inflow : List ℕ) (slots : ℕ) (text depths lasts : List ℕ) →
      One {Out = Laid × List ℕ × List ℕ} (λ o. Lays p inflow slots text (water depths lasts) o.0 (water o.1 o.2))
