-- `rule::weighing::by_total` meets its contract: the total is the document's and at most the depth, and either way of sharing it is its own.
-- Assumes nothing.
use mathlib.Core.Path.{◌≡◌}
use native.Mathlib.Omega.{arith}
use Rattle.rule.specs.Inner.Totals.{total_by}
use Rattle.rule.proofs.WeighingLaws.{least_le, greatest_le, sum_le, greatest_sum, total_le, total_made, through_made}
use Rattle.rule.proofs.weighing.by_total.Goals as goal
use Rattle.rule.proofs.weighing.by_total.Goals.{After-total-all}

pub total-all-requires : goal.total-all-requires
total-all-requires c =
    let o = c.requires.weighable in
    record {
      square = o.square;
      last_to = o.last_to;
      lasts_to = o.lasts_to;
      steepest_from = omega (arith, c.greatest_drop-steepest.ensures, c.requires.drops_nonzero);
      steepest_to = omega (arith, c.greatest_drop-steepest.ensures, greatest_le o.drops);
      least_to = omega (arith, c.least_drop-least.ensures, least_le o.drops);
      sum_to = omega (arith, c.drop_sum-sum.ensures, sum_le o.drops);
    }

-- what is found is the document's total
total_is :
    (c : After-total-all) →
    let a = c.args in
    c.total-all.result ≡ total_by a.rules a.depth a.last a.roughness a.lasts a.drops
total_is c =
    let a = c.args in
    total_made a.rules a.depth a.last a.roughness a.lasts a.drops c.requires.drops_nonzero c.greatest_drop-steepest.ensures
    c.least_drop-least.ensures c.drop_sum-sum.ensures c.total-all.ensures

pub returns-then-has_one_drop : goal.returns-then-has_one_drop
returns-then-has_one_drop c = through_made _ (total_is (goal.at.returns-then-has_one_drop c).After-total-all) c.halves.ensures

pub through_sides-requires : goal.through_sides-requires
through_sides-requires c =
    let a = c.args in
    let o = c.requires.weighable in record {
      drops_in_range = o.drops;
      total_le_most_depth = (
        omega (arith, total_is (goal.at.through_sides-requires c).After-total-all, total_le a.rules a.depth a.last a.roughness a.lasts a.drops, o.square.depth_to),
        omega (arith, c.requires.drops_nonzero, c.drop_sum-sum.ensures, greatest_sum a.drops),
        c.drop_sum-sum.ensures,
      );
    }

pub returns : goal.returns
returns c = through_made _ (total_is (goal.at.returns c).After-total-all) c.through_sides.ensures
