-- `hatches::log::is_named` meets its contract: test after test.
-- Assumes nothing.
use Rattle.hatches.proofs.LogLaws.{named_low, named_high, named_is}
use Rattle.hatches.proofs.log.is_named.Goals as goal

pub returns-then-number-lt1 : goal.returns-then-number-lt1
returns-then-number-lt1 c = named_low _ _ c.if-number-lt1.true

pub returns-then-number-gt9 : goal.returns-then-number-gt9
returns-then-number-gt9 c = named_high _ _ c.if-number-gt9.true

pub returns : goal.returns
returns c = named_is _ _ c.if-number-lt1.false c.if-number-gt9.false
