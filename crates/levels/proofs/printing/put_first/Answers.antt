-- `levels::printing::put_first` meets its contract: the clock, or `-`.
-- Assumes nothing.
use mathlib.Core.Path.{ap}
use native.Mathlib.Omega.{arith}
use lib.ListN.{length}
use Rattle.answer.proofs.PrintLaws.{written_as}
use Rattle.levels.proofs.LevelLaws.{first-reached, first_never}
use Rattle.levels.proofs.printing.put_first.Goals as goal

pub put_field-requires : goal.put_field-requires
put_field-requires c = omega (arith, c.requires, ap length (first-reached c.args.board c.if-board.true))

pub returns-then-board : goal.returns-then-board
returns-then-board c = written_as (first-reached c.args.board c.if-board.true) c.put_field.ensures

pub put_word-requires : goal.put_word-requires
put_word-requires c = omega (arith, c.requires, ap length (first_never c.args.board c.if-board.false))

pub returns : goal.returns
returns c = written_as (first_never c.args.board c.if-board.false) c.put_word.ensures
