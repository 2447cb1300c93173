-- What the call that repairs a sheet promises gives what its caller has.
-- Assumes nothing.
use mathlib.Core.List.{List}
use Prim.Native.Nat.{ℕ}
use Rattle.holes.specs.Repaired.{PrintsRepair}
use Rattle.demands.proofs.Holes.{repair_right}
use Rattle.calls.specs.Repairing.{AfterRepair}
use Rattle.calls.proofs.ListedLaws.{printed}

pub after_repair : (s : List ℕ) {old new : List ℕ} {long : ℕ} → PrintsRepair s old new long → AfterRepair s old new long
after_repair s x = record { printed = (printed x.wrote).0; rest_stays = (printed x.wrote).1; right = repair_right s }
