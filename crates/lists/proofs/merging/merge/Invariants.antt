use Rattle.lists.proofs.MergeLaws.{MergedTo}
use Rattle.lists.proofs.merging.merge.Given as goal

abbrev pub invariant-loop-square : goal.invariant-loop-square
invariant-loop-square l = MergedTo l.merging l.marks l.peaks l.initial.counts l.initial.deepest l.initial.places l.square l.counts l.deepest l.places
