use Rattle.stands.specs.Texts.{hatch_text}
use Rattle.stands.specs.Inner.Putting.{most_hatch}
use Rattle.stands.proofs.PutLaws.{Lines}
use Rattle.stands.proofs.putting.put_hatches.Given as goal

abbrev pub invariant-loop-hatch : goal.invariant-loop-hatch
invariant-loop-hatch l = Lines most_hatch (hatch_text l.hatches l.litres) l.at l.initial.out l.out l.next l.hatch
