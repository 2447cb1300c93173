use Rattle.raster.proofs.DecimalLaws.{Sofar}
use Rattle.raster.proofs.amounts.decimals_at.Given as goal

abbrev pub invariant-loop : goal.invariant-loop
invariant-loop l = Sofar l.text l.at l.whole l.counter l.done.value l.done.next
