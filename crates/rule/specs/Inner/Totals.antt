-- What the weighing's inner functions give and ask: the total of the editions that weigh by one, speeds by a height and
-- a slope that may be bounds of them from below, and amounts that are each at most d.
-- No definition and no answer of the document names these.
-- Assumes nothing.
use Rattle.std.specs.Prelude.{List, ℕ, ◌+◌, ◌*◌, ◌/◌, ◌^◌, ◌≤◌, ◌<◌, min, eqb, get_or}
use Rattle.reckon.specs.Tests.{pick}
use Rattle.reckon.specs.Ranges.{most_depth, most_length}
use Rattle.rule.specs.Weighing.{critical_speed, most_through, total_of, unlimited_edition, unlimited_total}
use Rattle.rule.specs.Inner.InRange.{most_drop, SquareInRange}
use Rattle.rule.specs.declared.rules.Rules.{Rules}

unfoldable pub total_by : Rules → ℕ → ℕ → ℕ → ℕ → List ℕ → ℕ
total_by r d p k ms v = pick (eqb r.edition unlimited_edition) (unlimited_total r d k ms v) (total_of r d p k ms v)

-- the smaller speed by a height h and a slope s, or by bounds of them
unfoldable pub speed_by : ℕ → ℕ → ℕ → ℕ → ℕ
speed_by d h s k = min (critical_speed d) (100 * h * s / k)

-- the most through a side by that speed, held to d
unfoldable pub most_by : Rules → ℕ → ℕ → ℕ → ℕ → ℕ → ℕ
most_by r d h s k ms = min d (speed_by d h s k * ms * d / (r.square_side * 10 ^ 9))

-- what may leave at any speed
unfoldable pub limit_of : Rules → ℕ → ℕ → ℕ → ℕ
limit_of r d p least = pick (eqb r.edition unlimited_edition) d (min d (least + p))

-- the total by the steepest drop, the least and the sum T, with m held to d
unfoldable pub total_with : Rules → ℕ → ℕ → ℕ → ℕ → ℕ → ℕ → ℕ → ℕ
total_with r d p k ms steepest least sum = min (limit_of r d p least) (min d (most_through r d k ms steepest) * sum / steepest)

-- a side's share where one side alone has a drop
unfoldable pub half_of : ℕ → ℕ → ℕ
half_of total drop = pick (eqb drop 0) 0 (total / 2)

-- what a total asks of the square and of the three numbers that it takes of the drops
pub record Totalled (r : Rules) (d p k ms steepest least sum : ℕ) : Type 0 where
  pub square : SquareInRange r d k
  pub last_to : p ≤ most_depth
  pub lasts_to : ms ≤ most_length
  pub steepest_from : 0 < steepest
  pub steepest_to : steepest ≤ most_drop
  pub least_to : least ≤ most_drop
  pub sum_to : sum ≤ 5 * most_drop

pub record AmountsWithin (d : ℕ) (a : List ℕ) : Type 0 where
  pub north : get_or a 0 0 ≤ d
  pub east : get_or a 1 0 ≤ d
  pub south : get_or a 2 0 ≤ d
  pub west : get_or a 3 0 ≤ d
