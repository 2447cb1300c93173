-- `rule::rules::rules_fine` meets its contract: each early return is a test that fails.
-- Assumes nothing.
use borrow.Author.Tests.{le-leb, lt-leb}
use Rattle.reckon.specs.Tests.{every}
use Rattle.reckon.proofs.TestLaws.{and_true}
use Rattle.rule.specs.Rules.{rules_fine}
use Rattle.rule.proofs.rules.rules_fine.Goals as goal

pub returns-then-rules-gt-MOST_TOLERANCE : goal.returns-then-rules-gt-MOST_TOLERANCE
unfolding rules_fine every
returns-then-rules-gt-MOST_TOLERANCE c = search (lt-leb, le-leb)

pub returns-then-rules-lt1 : goal.returns-then-rules-lt1
unfolding rules_fine every
returns-then-rules-lt1 c = search (lt-leb, le-leb)

pub returns-then-rules : goal.returns-then-rules
unfolding rules_fine every
returns-then-rules c = search (lt-leb, le-leb)

pub returns-then-rules-gt-MOST_LENGTH : goal.returns-then-rules-gt-MOST_LENGTH
unfolding rules_fine every
returns-then-rules-gt-MOST_LENGTH c = search (lt-leb, le-leb)

pub returns-then-rules-lt1-2 : goal.returns-then-rules-lt1-2
unfolding rules_fine every
returns-then-rules-lt1-2 c = search (lt-leb, le-leb)

pub returns-then-rules-gt-MOST_UPDATE : goal.returns-then-rules-gt-MOST_UPDATE
unfolding rules_fine every
returns-then-rules-gt-MOST_UPDATE c = search (lt-leb, le-leb)

pub returns-then-rules-gt-MOST_EDGE : goal.returns-then-rules-gt-MOST_EDGE
unfolding rules_fine every
returns-then-rules-gt-MOST_EDGE c = search (lt-leb, le-leb)

pub returns-then-rules-lt1-3 : goal.returns-then-rules-lt1-3
unfolding rules_fine every
returns-then-rules-lt1-3 c = search (lt-leb, le-leb)

pub returns : goal.returns
unfolding rules_fine every
returns c = search (lt-leb, le-leb, and_true)
