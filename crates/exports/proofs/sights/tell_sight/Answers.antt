-- `exports::sights::tell_sight` meets its contract, case by case; only speeds are written.
-- Assumes nothing.
use Rattle.exports.proofs.AnswerLaws.{stored}
use Rattle.exports.proofs.SightLaws.{seen-closed, seen-dry, seen_still, seen-refused, seen_moving}
use Rattle.exports.proofs.sights.tell_sight.Goals as goal

pub returns-in-Refused : goal.returns-in-Refused
returns-in-Refused c = seen-refused _ c.in-Refused.is

pub returns-in-Closed : goal.returns-in-Closed
returns-in-Closed c = seen-closed _ c.in-Closed.is

pub returns-in-Dry : goal.returns-in-Dry
returns-in-Dry c = seen-dry _ c.in-Dry.is

pub returns-in-Still : goal.returns-in-Still
returns-in-Still c = seen_still _ c.in-Still.is

pub returns-in-Moving : goal.returns-in-Moving
returns-in-Moving c = seen_moving _ c.in-Moving.is (stored _ c.args.speeds.now c.requires)
