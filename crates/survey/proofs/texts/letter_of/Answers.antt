-- `survey::texts::letter_of` meets its contract: one of the three letters.
-- Assumes nothing.
use mathlib.Core.Path.{sym, ap}
use Rattle.sheet.specs.Lines.{letter_of}
use Rattle.survey.proofs.PutLaws.{third_letter}
use Rattle.survey.proofs.texts.letter_of.Goals as goal

pub returns-then-mark-eq0 : goal.returns-then-mark-eq0
unfolding letter_of
returns-then-mark-eq0 c = sym (ap letter_of c.if-mark-eq0.true)

pub returns-then-mark-eq1 : goal.returns-then-mark-eq1
unfolding letter_of
returns-then-mark-eq1 c = sym (ap letter_of c.if-mark-eq1.true)

pub returns : goal.returns
returns c = third_letter c.args.mark c.requires c.if-mark-eq0.false c.if-mark-eq1.false
