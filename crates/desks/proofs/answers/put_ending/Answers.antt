use native.Mathlib.Omega.{arith}
use Rattle.answer.proofs.PrintLaws.{refused-short}
use Rattle.desks.proofs.AnswerParts.{ending-refused, ending_done}
use Rattle.desks.proofs.answers.put_ending.Goals as goal

-- src/answers.rt:69:9
pub returns-then-number-ne0 : goal.returns-then-number-ne0
returns-then-number-ne0 c =
    ending-refused c.args.number c.args.line c.if-number-ne0.true
    (refused-short _ _ (omega (arith, c.well_formed)) (omega (arith, c.well_formed))) c.put_refused.ensures

-- src/answers.rt:64:1
pub returns : goal.returns
returns c = ending_done c.args.number c.args.line c.if-number-ne0.false c.put_word.ensures
