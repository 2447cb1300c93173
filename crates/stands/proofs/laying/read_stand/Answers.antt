-- `stands::laying::read_stand` meets its contract: the rooms are filled only where nothing is refused.
-- Assumes nothing.
use Rattle.ledger.specs.Runs.{plan}
use Rattle.stands.proofs.LayLaws.{water-kept, water_laid}
use Rattle.stands.proofs.laying.read_stand.Goals as goal

pub returns-then-laid-ne0 : goal.returns-then-laid-ne0
returns-then-laid-ne0 c = record { answer = c.decide-verdict.ensures.laid_is; rooms_are = water-kept _ _ _ _ c.if-laid-ne0.true }

pub returns : goal.returns
returns c = record {
  answer = c.decide-verdict.ensures.laid_is;
  rooms_are =
      water_laid (plan c.args.shape c.args.marks.now) c.args.text.now _ _ _ c.if-laid-ne0.false c.decide-verdict.ensures.at_is
      c.store_squares.ensures.0
      c.store_squares.ensures.1;
}
