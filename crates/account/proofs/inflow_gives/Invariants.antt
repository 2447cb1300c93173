use mathlib.Core.Path.{◌≡◌}
use Prim.Native.Nat.{◌*◌, ◌≤◌}
use Rattle.reckon.specs.Lists.{sum_below}
use Rattle.adding.specs.Inner.Added.{poured_once}
use Rattle.account.specs.Inner.Given.{most_poured}
use Rattle.account.proofs.inflow_gives.Given as goal

abbrev pub invariant-loop-j : goal.invariant-loop-j
invariant-loop-j l = (l.sum ≤ l.j * most_poured) × (l.sum ≡ sum_below l.j (poured_once l.inflow l.side l.start l.end))
