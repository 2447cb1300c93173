-- `rule::weighing::directed` meets its contract: each amount is its own drop's, and none is above the depth.
-- Assumes nothing.
use native.Mathlib.Omega.{arith}
use lib.ListN.{get_or}
use Rattle.rule.proofs.WeighingLaws.{directed_le, directed_made}
use Rattle.rule.proofs.weighing.directed.Goals as goal

pub scaled-requires : goal.scaled-requires
scaled-requires c =
    let a = c.args in
    let square = c.requires.0 in (
      square.depth_to,
      record {
        north = omega (arith, c.directed_amount-north.ensures, directed_le a.rules a.depth a.roughness a.lasts (get_or a.drops 0 0));
        east = omega (arith, c.directed_amount-east.ensures, directed_le a.rules a.depth a.roughness a.lasts (get_or a.drops 1 0));
        south = omega (arith, c.directed_amount-south.ensures, directed_le a.rules a.depth a.roughness a.lasts (get_or a.drops 2 0));
        west = omega (arith, c.directed_amount-west.ensures, directed_le a.rules a.depth a.roughness a.lasts (get_or a.drops 3 0));
      },
    )

pub returns : goal.returns
returns c =
    let a = c.args in
    directed_made a.rules a.depth a.roughness a.lasts a.drops c.directed_amount-north.ensures c.directed_amount-east.ensures
    c.directed_amount-south.ensures c.directed_amount-west.ensures c.scaled.ensures
