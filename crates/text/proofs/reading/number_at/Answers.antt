-- `text::reading::number_at` meets its contract: the first byte, and the one after a 0, decide whether the digits are well formed.
-- Assumes nothing.
use mathlib.Core.Path.{sym, ◌∙◌}
use Rattle.text.proofs.ReadingLaws.{number_none, number_zero, number_good}
use Rattle.text.proofs.reading.number_at.Goals as goal

pub returns-then-not-is_digit : goal.returns-then-not-is_digit
returns-then-not-is_digit c =
    let a = c.args in
    sym (number_none a.text.now a.at (sym c.is_digit.ensures ∙ c.if-not-is_digit.true))

pub needless_zero-requires : goal.needless_zero-requires
needless_zero-requires c = sym c.is_digit.ensures ∙ c.if-not-is_digit.false

pub returns-then-needless_zero : goal.returns-then-needless_zero
returns-then-needless_zero c =
    let a = c.args in
    sym
    (number_zero a.text.now a.at
    (sym c.is_digit.ensures ∙ c.if-not-is_digit.false)
    (sym c.needless_zero.ensures ∙ c.if-needless_zero.true))

pub returns : goal.returns
returns c =
    let a = c.args in
    c.digits.ensures
    ∙ sym
    (number_good a.text.now a.at
    (sym c.is_digit.ensures ∙ c.if-not-is_digit.false)
    (sym c.needless_zero.ensures ∙ c.if-needless_zero.false))
