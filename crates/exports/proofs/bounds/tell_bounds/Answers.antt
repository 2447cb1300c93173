-- `exports::bounds::tell_bounds` meets its contract, case by case; only figures are written.
-- Assumes nothing.
use Rattle.exports.proofs.AnswerLaws.{stored}
use Rattle.exports.proofs.BoundsLaws.{told-refused, told_not, told_both}
use Rattle.exports.proofs.bounds.tell_bounds.Goals as goal

pub returns-in-Refused : goal.returns-in-Refused
returns-in-Refused c = told-refused _ c.in-Refused.is

pub returns-in-NotBounded : goal.returns-in-NotBounded
returns-in-NotBounded c = told_not _ c.in-NotBounded.is

pub returns-in-Bounded : goal.returns-in-Bounded
returns-in-Bounded c = told_both _ c.in-Bounded.is (stored _ c.args.bounds.now c.requires)
