-- `text::reading::digits` meets its contract: what the digits passed make and what is left make the whole; once above the most it only grows.
-- Assumes nothing.
use mathlib.Core.Path.{sym, ◌∙◌}
use native.Mathlib.Omega.{arith}
use Rattle.text.proofs.ReadingLaws.{counted_none, counted-end, counted_over, counted_more, digit-within, digit_high}
use Rattle.text.proofs.reading.digits.Goals as goal

pub loop-value-init : goal.loop-value-init
loop-value-init c = counted_none _ _

pub overflow_mul-value : goal.overflow_mul-value
overflow_mul-value c = omega (arith, c.loop-value.invariant.small)

pub digit-requires : goal.digit-requires
digit-requires c = sym c.is_digit.ensures ∙ c.loop-value-test.true

pub overflow_add-value : goal.overflow_add-value
overflow_add-value c =
    let l = c.loop-value in
    omega (
      arith,
      l.invariant.small,
      c.digit.ensures,
      digit_high _
          (sym c.is_digit.ensures ∙ c.loop-value-test.true),
    )

pub returns-then-value-gt-MOST_NUMBER : goal.returns-then-value-gt-MOST_NUMBER
returns-then-value-gt-MOST_NUMBER c =
    let l = c.loop-value in
    sym (counted_over l.invariant _ (sym c.is_digit.ensures ∙ c.loop-value-test.true)
    c.digit.ensures c.if-value-gt-MOST_NUMBER.true)

pub overflow_add-next : goal.overflow_add-next
overflow_add-next c =
    let a = c.args in
    let l = c.loop-value in
    omega (
      arith,
      digit-within a.text.now l.next
          (sym c.is_digit.ensures ∙ c.loop-value-test.true),
    )

pub loop-value-smaller : goal.loop-value-smaller
loop-value-smaller c =
    let a = c.args in
    let l = c.loop-value in
    omega (
      arith,
      digit-within a.text.now l.next
          (sym c.is_digit.ensures ∙ c.loop-value-test.true),
    )

pub loop-value-preserved : goal.loop-value-preserved
loop-value-preserved c =
    let l = c.loop-value in
    counted_more l.invariant _ (sym c.is_digit.ensures ∙ c.loop-value-test.true)
    c.digit.ensures c.if-value-gt-MOST_NUMBER.false

pub overflow_cast-result : goal.overflow_cast-result
overflow_cast-result c = omega (arith, c.loop-value.invariant.small)

pub returns : goal.returns
returns c = sym (counted-end c.loop-value.invariant (sym c.is_digit.ensures ∙ c.loop-value-test.false))
