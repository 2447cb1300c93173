-- `raster::amounts::next_decimal` meets its contract: the digit there, or 0.
-- Assumes nothing.
use mathlib.Core.Path.{sym, ap, ◌∙◌}
use mathlib.Core.List.{List}
use Prim.Native.Nat.{ℕ}
use native.Mathlib.Omega.{arith}
use lib.ListN.{length, get_or}
use Rattle.text.proofs.ReadingLaws.{digit_high, digit_low, digit-within, digits_here, digits_end}
use Rattle.raster.proofs.amounts.next_decimal.Goals as goal

pub digit-requires : goal.digit-requires
digit-requires c = sym c.is_digit.ensures ∙ c.if-is_digit.true

pub overflow_add-result : goal.overflow_add-result
overflow_add-result c = omega (arith, c.digit.ensures, digit_high _ (sym c.is_digit.ensures ∙ c.if-is_digit.true))

pub overflow_add-result-then-is_digit : goal.overflow_add-result-then-is_digit
overflow_add-result-then-is_digit c =
    let a = c.args in
    omega (arith, digit-within a.text.now a.done.next (sym c.is_digit.ensures ∙ c.if-is_digit.true))

pub returns-then-is_digit : goal.returns-then-is_digit
returns-then-is_digit c =
    let a = c.args in
    let e = sym c.is_digit.ensures ∙ c.if-is_digit.true in
    let d = digits_here a.text.now a.done.next e in
    record { worth = omega (arith, c.digit.ensures, ap (λ (l : List ℕ). get_or l 0 0) d, digit_low _ e); end = omega (arith, ap length d) }

pub returns : goal.returns
returns c =
    let a = c.args in
    let d = digits_end a.text.now a.done.next (sym c.is_digit.ensures ∙ c.if-is_digit.false) in
    record { worth = omega (arith, ap (λ (l : List ℕ). get_or l 0 0) d); end = omega (arith, ap length d) }
