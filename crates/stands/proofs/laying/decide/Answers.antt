-- `stands::laying::decide` meets its contract: 12 first, and then the checks.
-- Assumes nothing.
use Rattle.ledger.specs.Runs.{plan}
use Rattle.stands.specs.Inner.Passing.{NamedRead}
use Rattle.stands.proofs.LayLaws.{named-at, saved_is, laid_bad, laid_checked}
use Rattle.stands.proofs.laying.decide.Goals as goal

pub returns-then-bad-ne0 : goal.returns-then-bad-ne0
returns-then-bad-ne0 c =
    let k : NamedRead c.args.text.now c.read_head-head.result c.read_hatches-named.result =
    record { head_is = c.read_head-head.ensures; named_is = c.read_hatches-named.ensures } in
    record {
      laid_is = laid_bad (plan c.args.shape c.args.marks.now) _ _ _ c.bad_line-bad.ensures (saved_is k _ c.saved_from-saved.ensures) c.if-bad-ne0.true;
      at_is = named-at k;
    }

pub returns : goal.returns
returns c =
    let k : NamedRead c.args.text.now c.read_head-head.result c.read_hatches-named.result =
    record { head_is = c.read_head-head.ensures; named_is = c.read_hatches-named.ensures } in
    record {
      laid_is =
          laid_checked (plan c.args.shape c.args.marks.now) _ _ _ c.bad_line-bad.ensures (saved_is k _ c.saved_from-saved.ensures) c.if-bad-ne0.false (named-at k)
          c.checked-number.ensures;
      at_is = named-at k;
    }
