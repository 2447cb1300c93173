-- `exports::sights::tell_wet` meets its contract: a refusal writes nothing, and a count is written.
-- Assumes nothing.
use Rattle.exports.proofs.AnswerLaws.{stored}
use Rattle.exports.proofs.SightLaws.{count_told, wet_refused-told}
use Rattle.exports.proofs.sights.tell_wet.Goals as goal

pub returns-in-Refused : goal.returns-in-Refused
returns-in-Refused c = wet_refused-told _ c.in-Refused.is

pub returns-in-Count : goal.returns-in-Count
returns-in-Count c = count_told _ c.in-Count.is (stored _ c.args.count.now c.requires)
