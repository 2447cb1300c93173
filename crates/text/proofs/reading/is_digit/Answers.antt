-- `text::reading::is_digit` meets its contract: past the end the byte reads as 0, which is no digit; else two comparisons decide.
-- Assumes nothing.
use mathlib.Core.Path.{sym}
use Rattle.text.proofs.ReadingLaws.{digit_past, digit_under, digit-leb}
use Rattle.text.proofs.reading.is_digit.Goals as goal

pub returns-then-text-at : goal.returns-then-text-at
returns-then-text-at c = sym (digit_past c.args.text.now c.args.at c.if-text-at.true)

pub returns-then-text-at-lt48 : goal.returns-then-text-at-lt48
returns-then-text-at-lt48 c = sym (digit_under _ c.if-text-at-lt48.true)

pub returns : goal.returns
returns c = sym (digit-leb _ c.if-text-at-lt48.false)
