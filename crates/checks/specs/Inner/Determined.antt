-- The contract of each layer function of this crate leaves one outcome.
-- Assumes nothing.
use Rattle.std.specs.Prelude.{ℕ}
use Rattle.reckon.specs.Outcomes.{One}
use Rattle.rule.specs.declared.rules.Rules.{Rules}
use Rattle.checks.specs.Fresh.{FreshRunMade}

pub record ChecksDetermined : Type 0 where
  pub fresh-run : (r : Rules) (slots : ℕ) → One (FreshRunMade r slots)
