-- `raster::amounts::decimals_at` meets its contract: the decimals so far.
-- Assumes nothing.
use native.Mathlib.Omega.{arith}
use Rattle.raster.proofs.DecimalLaws.{sofar_none, sofar_more, sofar_all, pow_five}
use Rattle.raster.proofs.amounts.decimals_at.Goals as goal

pub loop-init : goal.loop-init
loop-init c = sofar_none _ _ _ (omega arith)

pub next_decimal-done-requires : goal.next_decimal-done-requires
next_decimal-done-requires c =
    let l = c.loop in
    omega (arith, l.invariant.below, pow_five l.counter (omega arith))

pub loop-preserved : goal.loop-preserved
loop-preserved c = sofar_more c.loop.invariant c.next_decimal-done.ensures

pub returns : goal.returns
returns c = sofar_all (omega arith) c.loop.invariant
