-- What may differ from call to call. It stands apart from the ledger's plan and world, since the ledger knows no rules.
-- Assumes nothing.
use Rattle.std.specs.Prelude.{List, ℕ}
use Rattle.rule.specs.declared.rules.Rules.{Rules}

-- the rules and the ground's heights, roughness and soak rates: "rates" count "as rules" (document 02, #106)
pub record Ground : Type 0 where
  pub rules : Rules
  pub beds : List ℕ
  pub roughness : List ℕ
  pub rates : List ℕ

abbrev pub ground : Rules → List ℕ → List ℕ → List ℕ → Ground
ground r b k s = record { rules = r; beds = b; roughness = k; rates = s }

-- demand 3: "Heights, tables and rules may differ from call to call"
pub record Given : Type 0 where
  pub lie : Ground
  pub rain : List ℕ
  pub inflow : List ℕ

abbrev pub given : Ground → List ℕ → List ℕ → Given
given o rain inflow = record { lie = o; rain = rain; inflow = inflow }
