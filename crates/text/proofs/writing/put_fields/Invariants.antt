use lib.ListN.{drop}
use Rattle.text.specs.Writing.{fields_text}
use Rattle.text.proofs.WritingLaws.{Left}
use Rattle.text.proofs.writing.put_fields.Given as goal

abbrev pub invariant-loop-value : goal.invariant-loop-value
invariant-loop-value l = Left (fields_text (drop l.value-index l.values)) l.next l.room (fields_text l.values) l.at l.initial.room
