use Prim.Native.Nat.{◌-◌, ◌^◌}
use Rattle.reckon.specs.Inner.RootSearch.{Place}
use Rattle.panel.proofs.place_above.Given as goal

abbrev pub invariant-loop-place : goal.invariant-loop-place
invariant-loop-place g l = Place l.p l.place

abbrev pub decreases-loop-place : goal.decreases-loop-place
decreases-loop-place g l = 10 ^ 18 - l.place
