-- `hatches::log::kept_records` meets its contract: the least of two.
-- Assumes nothing.
use Rattle.hatches.proofs.LogLaws.{kept_many, kept_few}
use Rattle.hatches.proofs.log.kept_records.Goals as goal

pub returns-then-held-gt-MOST_KEPT : goal.returns-then-held-gt-MOST_KEPT
returns-then-held-gt-MOST_KEPT c = kept_many c.args.shape c.record_size-held.ensures c.if-held-gt-MOST_KEPT.true

pub returns : goal.returns
returns c = kept_few c.args.shape c.record_size-held.ensures c.if-held-gt-MOST_KEPT.false
