-- `hours::running::add_wet` meets its contract: the room is filled up to the square.
-- Assumes nothing.
use mathlib.Core.Path.{ap}
use Prim.Native.Nat.{ℕ, ◌+◌}
use native.Mathlib.Omega.{arith}
use lib.ListN.{get_or}
use Rattle.reckon.proofs.ListLaws.{filled_none}
use Rattle.hours.proofs.AddedLaws.{wet_at_most, added_ahead, added_more, added_whole}
use Rattle.hours.proofs.running.add_wet.Goals as goal

pub loop-square-init : goal.loop-square-init
loop-square-init c = record { times_are = filled_none _ _ _ }

pub overflow_add-time : goal.overflow_add-time
overflow_add-time c = record {
  fits = omega (
    arith,
    added_ahead c.args.lasted c.args.marks.now c.args.depths.now c.args.times.now c.loop-square.square (omega arith) c.loop-square.invariant,
    c.wet_for.ensures,
    wet_at_most c.args.lasted c.args.marks.now c.args.depths.now c.loop-square.square,
    c.requires.by_index c.loop-square.square (omega arith),
  );
}

pub loop-square-preserved : goal.loop-square-preserved
loop-square-preserved c =
    added_more c.args.lasted c.args.marks.now c.args.depths.now c.args.times.now c.loop-square.square (omega arith) c.loop-square.invariant
    (ap (λ (k : ℕ). get_or c.loop-square.times c.loop-square.square 0 + k) c.wet_for.ensures)

pub returns : goal.returns
returns c = added_whole _ _ _ _ c.requires.depths_len.1 (omega arith) c.loop-square.invariant
