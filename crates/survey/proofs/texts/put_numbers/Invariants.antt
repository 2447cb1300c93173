use lib.ListN.{drop}
use Rattle.text.specs.Writing.{fields_text}
use Rattle.text.proofs.WritingLaws.{Left}
use Rattle.survey.proofs.PutLaws.{numbers}
use Rattle.survey.proofs.texts.put_numbers.Given as goal

abbrev pub invariant-loop-value : goal.invariant-loop-value
invariant-loop-value l = Left (fields_text (drop l.value-index (numbers l.table l.first l.width))) l.next l.out (fields_text (numbers l.table l.first l.width)) l.at l.initial.out
