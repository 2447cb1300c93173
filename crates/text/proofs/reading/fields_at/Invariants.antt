use Rattle.text.proofs.ReadingLaws.{Got}
use Rattle.text.proofs.reading.fields_at.Given as goal

abbrev pub invariant-loop-i : goal.invariant-loop-i
invariant-loop-i l = Got l.text l.at l.count l.values l.next l.i
