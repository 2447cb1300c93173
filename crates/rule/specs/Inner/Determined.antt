-- The contract of each layer function of this crate leaves one outcome.
-- Assumes nothing.
use Rattle.std.specs.Prelude.{List, ℕ}
use Rattle.reckon.specs.Outcomes.{One}
use Rattle.rule.specs.Bounds.{StepsOver}
use Rattle.rule.specs.Drops.{DropTo, DropOff}
use Rattle.rule.specs.Length.{Shorter, HeldLength, IsUpdate, DurationFor}
use Rattle.rule.specs.Rules.{RulesJudged, GroundJudged}
use Rattle.rule.specs.Weighing.{Weighs}
use Rattle.rule.specs.declared.rules.Rules.{Rules}

pub record RuleDetermined : Type 0 where
  pub drop-to : (own neighbour : ℕ) → One (DropTo own neighbour)
  pub drop-off : (r : Rules) (depth : ℕ) → One (DropOff r depth)
  pub shorter : (r : Rules) (best depth roughness : ℕ) (drops : List ℕ) → One (Shorter r best depth roughness drops)
  pub held-length : (r : Rules) (candidate : ℕ) → One (HeldLength r candidate)
  pub is-update : (r : Rules) (clock : ℕ) → One (IsUpdate r clock)
  pub duration-for : (r : Rules) (clock held : ℕ) → One (DurationFor r clock held)
  pub steps-over : (time held : ℕ) → One (StepsOver time held)
  pub rules-fine : (r : Rules) → One (RulesJudged r)
  pub ground-fine : (bed roughness : ℕ) → One (GroundJudged bed roughness)
  pub weigh : (r : Rules) (depth last roughness ms : ℕ) (drops : List ℕ) → One (Weighs r depth last roughness ms drops)
