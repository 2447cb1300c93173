-- `text::reading::word_at` meets its contract: a text that starts with the word stands from the position on.
-- Assumes nothing.
use mathlib.Core.Path.{sym}
use native.Mathlib.Omega.{arith}
use Rattle.text.proofs.ReadingLaws.{word_past}
use Rattle.text.proofs.StandLaws.{word_starts}
use Rattle.text.proofs.reading.word_at.Goals as goal

pub returns-then-text-at : goal.returns-then-text-at
returns-then-text-at c = sym (word_past c.args.text.now c.args.at c.args.word.now (omega arith))

pub returns : goal.returns
returns c = word_starts c.args.text.now c.args.at c.args.word.now c.if-text-at.false _ c.starts_with.ensures.value
