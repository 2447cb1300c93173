-- Laws of the drop off the grid: it is never more than the depth, none at a slope of 0, and the depth itself at the steepest slope where
-- the water is at most D metres deep.
-- Assumes nothing.
use mathlib.Core.Path.{◌≡◌}
use Prim.Native.Nat.{ℕ, ◌*◌, ◌≤◌}
use native.Mathlib.Omega.{arith}
use Rattle.reckon.specs.Ranges.{most_edge}
use Rattle.rule.specs.Drops.{drop_off}
use Rattle.rule.specs.declared.rules.Rules.{Rules}

pub off_le : (r : Rules) (d : ℕ) → drop_off r d ≤ d
unfolding drop_off
off_le r d = omega arith

-- "With e = 0 nothing leaves"
pub edge_none : (r : Rules) (d : ℕ) → r.edge ≡ 0 → drop_off r d ≡ 0
unfolding drop_off
edge_none r d e = rw e (omega arith)

-- "The exit case is worked with e = 10,000 and keeps its answer"
pub edge_full : (r : Rules) (d : ℕ) → r.edge ≡ most_edge → d ≤ 1_000_000 * r.square_side → drop_off r d ≡ d
unfolding drop_off
edge_full r d e h = rw e (omega arith)
