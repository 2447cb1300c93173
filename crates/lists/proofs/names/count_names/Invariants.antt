use Rattle.lists.proofs.NameLaws.{Counted}
use Rattle.lists.proofs.names.count_names.Given as goal

abbrev pub invariant-loop-p : goal.invariant-loop-p
invariant-loop-p l = Counted l.text l.at l.count l.begun l.p
