use Prim.Native.Nat.{◌-◌, ◌^◌, ◌≤◌}
use Rattle.panel.proofs.raise_digit.Given as goal

abbrev pub invariant-loop-root : goal.invariant-loop-root
invariant-loop-root g l = l.root ^ l.p ≤ l.n

abbrev pub decreases-loop-root : goal.decreases-loop-root
decreases-loop-root g l = l.n - l.root
