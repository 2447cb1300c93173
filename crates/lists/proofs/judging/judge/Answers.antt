-- `lists::judging::judge` meets its contract: a sheet that cannot be opened is refused with 12.
-- Assumes nothing.
use Rattle.lists.proofs.JudgedLaws.{judged_not_opened, judged-opened}
use Rattle.lists.proofs.judging.judge.Goals as goal

pub returns-then-not-opened : goal.returns-then-not-opened
returns-then-not-opened c = judged_not_opened c.args.text.now (c.if-not-opened.true) c.refused.ensures

pub returns : goal.returns
returns c = judged-opened c.args.text.now (c.if-not-opened.false) c.judge_text.ensures
