-- `text::reading::needless_zero` meets its contract: both tests are the definition's.
-- Assumes nothing.
use native.Mathlib.Omega.{arith}
use borrow.Author.Tests.{eq-eqb, ne_eqb}
use Rattle.text.proofs.ReadingLaws.{digit-within}
use Rattle.text.proofs.reading.needless_zero.Goals as goal

pub bounds-text-at : goal.bounds-text-at
bounds-text-at c = digit-within c.args.text.now c.args.at c.requires

pub returns-then-text-at-ne48 : goal.returns-then-text-at-ne48
returns-then-text-at-ne48 c = rw (ne_eqb _ _ c.if-text-at-ne48.true)

pub overflow_add-at : goal.overflow_add-at
overflow_add-at c =
    let a = c.args in
    omega (arith, digit-within a.text.now a.at c.requires)

pub returns : goal.returns
returns c = rw (eq-eqb _ _ c.if-text-at-ne48.false) c.is_digit.ensures
