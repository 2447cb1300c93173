-- `rule::length::held_length` meets its contract.
-- Assumes nothing.
use mathlib.Core.Path.{◌∙◌, ap}
use Prim.Native.Nat.{ℕ, max}
use Rattle.rule.specs.Length.{held_between}
use Rattle.rule.proofs.length.held_length.Goals as goal

pub returns : goal.returns
unfolding held_between
returns c = c.greater.ensures ∙ ap (λ (x : ℕ). max c.args.rules.shortest x) c.lesser.ensures
