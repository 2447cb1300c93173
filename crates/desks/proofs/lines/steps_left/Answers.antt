use mathlib.Core.Path.{sym}
use borrow.Author.Tests.{le-leb, lt-leb}
use Rattle.reckon.proofs.TestLaws.{every_fails}
use Rattle.desks.specs.Lines.{steps_left}
use Rattle.desks.proofs.AnswerLaws.{both_hold}
use Rattle.desks.proofs.lines.steps_left.Goals as goal

-- src/lines.rt:216:9
pub returns-then-series-lt1 : goal.returns-then-series-lt1
unfolding steps_left
returns-then-series-lt1 c = sym (every_fails _ 0 (lt-leb _ _ c.if-series-lt1.true))

-- src/lines.rt:212:1
pub returns : goal.returns
unfolding steps_left
returns c = both_hold _ _ (le-leb _ _ c.if-series-lt1.false)
