-- `peaks::raising::raise` meets its contract: the rooms are raised below the square reached, by eights and then by what is left.
-- Assumes nothing.
use mathlib.Core.Path.{◌≡◌}
use Prim.Native.Nat.{◌/◌}
use native.Mathlib.Omega.{arith}
use lib.ListN.{length}
use Rattle.reckon.proofs.ListLaws.{filled_none}
use Rattle.peaks.proofs.RaiseLaws.{raised_whole}
use Rattle.peaks.proofs.raising.raise.Goals as goal

pub loop-eight-init : goal.loop-eight-init
loop-eight-init c = record { peaks_are = filled_none _ _ _; clocks_are = filled_none _ _ _ }

pub returns : goal.returns
returns c =
    let end : c.loop-eight.eight ≡ length c.args.marks.now / 8 = omega arith in
    raised_whole _ _ _ _ _ _ (c.raise_between.ensures _ _ (rw end at c.loop-eight.invariant))
