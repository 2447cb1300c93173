use Rattle.desks.proofs.StateLaws.{slots_many, slots_few}
use Rattle.desks.proofs.state.kept_slots.Goals as goal

-- src/state.rt:56:9
pub returns-then-held-gt-MOST_SLOTS : goal.returns-then-held-gt-MOST_SLOTS
returns-then-held-gt-MOST_SLOTS c = slots_many c.args.shape c.record_size-held.ensures c.if-held-gt-MOST_SLOTS.true

-- src/state.rt:50:1
pub returns : goal.returns
returns c = slots_few c.args.shape c.record_size-held.ensures c.if-held-gt-MOST_SLOTS.false
