-- `stands::laying::bad_line` meets its contract: the lines are asked in their order, and the first that cannot be read is given.
-- Assumes nothing.
use native.Mathlib.Omega.{arith}
use Rattle.ledger.specs.Runs.{plan}
use Rattle.stands.proofs.LayLaws.{lines_few, bad_head, bad_square, bad_rest, bad_none}
use Rattle.stands.proofs.laying.bad_line.Goals as goal

pub returns-then-head-ne0 : goal.returns-then-head-ne0
returns-then-head-ne0 c = bad_head c.requires.2 (plan c.args.shape c.args.marks.now) c.if-head-ne0.true

pub overflow_add-line : goal.overflow_add-line
overflow_add-line c = omega (arith, lines_few c.requires.2)

pub overflow_add-line-2 : goal.overflow_add-line-2
overflow_add-line-2 c = omega (arith, lines_few c.requires.2, c.pass_squares-scan.ensures.few, c.requires.0.few)

pub returns-then-scan-squares_of : goal.returns-then-scan-squares_of
returns-then-scan-squares_of c =
    bad_square c.requires.2 (plan c.args.shape c.args.marks.now) c.if-head-ne0.false c.pass_squares-scan.ensures
    (omega (arith, c.squares_of.ensures, c.if-scan-squares_of.true))

pub returns-then-scan-text : goal.returns-then-scan-text
returns-then-scan-text c = bad_rest c.requires.2 (plan c.args.shape c.args.marks.now) c.if-head-ne0.false c.pass_squares-scan.ensures c.if-scan-text.true

pub returns : goal.returns
returns c =
    bad_none c.requires.2 (plan c.args.shape c.args.marks.now) c.if-head-ne0.false c.pass_squares-scan.ensures
    (omega (arith, c.squares_of.ensures, c.if-scan-squares_of.false))
    c.if-scan-text.false
