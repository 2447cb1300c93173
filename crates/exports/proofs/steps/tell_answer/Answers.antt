-- `exports::steps::tell_answer` meets its contract: a refusal writes nothing, and a run is put whole.
-- Assumes nothing.
use Rattle.exports.proofs.AnswerLaws.{done_told, refused-told}
use Rattle.exports.proofs.steps.tell_answer.Goals as goal

pub returns-in-Refused : goal.returns-in-Refused
returns-in-Refused c = refused-told _ c.in-Refused.is

pub returns-in-Done : goal.returns-in-Done
returns-in-Done c = done_told _ c.in-Done.is c.put_run.ensures
