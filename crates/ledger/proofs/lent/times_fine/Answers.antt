-- `ledger::lent::times_fine` meets its contract: each early return is a test that fails, and the time lasted decides at last.
-- Assumes nothing.
use mathlib.Core.Path.{ap, ◌∙◌}
use Prim.Native.Nat.{ℕ}
use native.Mathlib.Omega.{arith}
use lib.Dec.{leb}
use borrow.Author.Tests.{lt-leb}
use Rattle.reckon.specs.Ranges.{most_length}
use Rattle.ledger.specs.Record.{held_in, lasted_in}
use Rattle.ledger.proofs.CheckLaws.{times_fail, lasted_decides}
use Rattle.ledger.proofs.lent.times_fine.Goals as goal

pub returns-then-held-lt1 : goal.returns-then-held-lt1
returns-then-held-lt1 c =
    times_fail c.args.rec.now 0
    (lt-leb 1 (held_in c.args.rec.now) (omega (arith, c.held_before-held.ensures, c.if-held-lt1.true)))

pub returns-then-held-gt-MOST_LENGTH : goal.returns-then-held-gt-MOST_LENGTH
returns-then-held-gt-MOST_LENGTH c =
    times_fail c.args.rec.now 1
    (lt-leb (held_in c.args.rec.now) most_length (omega (arith, c.held_before-held.ensures, c.if-held-gt-MOST_LENGTH.true)))

pub returns-then-lasts-lt1 : goal.returns-then-lasts-lt1
returns-then-lasts-lt1 c =
    times_fail c.args.rec.now 2
    (lt-leb 1 (lasted_in c.args.rec.now) (omega (arith, c.lasted-lasts.ensures, c.if-lasts-lt1.true)))

pub returns : goal.returns
returns c =
    ap (λ (k : ℕ). leb k most_length) c.lasted-lasts.ensures ∙ lasted_decides
    c.args.rec.now
    (omega (arith, c.held_before-held.ensures, c.if-held-lt1.false))
    (omega (arith, c.held_before-held.ensures, c.if-held-gt-MOST_LENGTH.false))
    (omega (arith, c.lasted-lasts.ensures, c.if-lasts-lt1.false))
