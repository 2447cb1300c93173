-- `raster::amounts::decimals_after` meets its contract: no point, a bare point, too many decimals, or some.
-- Assumes nothing.
use mathlib.Core.Path.{sym, ◌∙◌}
use native.Mathlib.Omega.{arith}
use Rattle.text.proofs.ReadingLaws.{byte_within}
use Rattle.raster.proofs.AfterLaws.{no_point, bare-point, too_many, some_decimals}
use Rattle.raster.proofs.amounts.decimals_after.Goals as goal

pub returns-then-not-byte_is : goal.returns-then-not-byte_is
returns-then-not-byte_is c =
    let a = c.args in
    no_point a.places a.text.now a.whole a.at (sym c.byte_is.ensures ∙ c.if-not-byte_is.true) c.requires.1
    c.decimals_at.ensures
    c.up_to_most.ensures

pub overflow_add-at : goal.overflow_add-at
overflow_add-at c =
    let a = c.args in
    omega (arith, byte_within a.text.now a.at 46 (sym c.byte_is.ensures ∙ c.if-not-byte_is.false))

pub returns-then-not-is_digit : goal.returns-then-not-is_digit
returns-then-not-is_digit c =
    let a = c.args in
    bare-point a.places a.text.now a.whole a.at (sym c.byte_is.ensures ∙ c.if-not-byte_is.false)
    (sym c.is_digit.ensures ∙ c.if-not-is_digit.true)

pub overflow_add-at-2 : goal.overflow_add-at-2
overflow_add-at-2 c =
    let a = c.args in
    omega (arith, byte_within a.text.now a.at 46 (sym c.byte_is.ensures ∙ c.if-not-byte_is.false))

pub returns-then-is_digit : goal.returns-then-is_digit
returns-then-is_digit c =
    let a = c.args in
    too_many a.places a.text.now a.whole a.at (sym c.byte_is.ensures ∙ c.if-not-byte_is.false)
    c.decimals_at-found.ensures
    (sym c.is_digit-2.ensures ∙ c.if-is_digit.true)

pub returns : goal.returns
returns c =
    let a = c.args in
    some_decimals a.places a.text.now a.whole a.at (sym c.byte_is.ensures ∙ c.if-not-byte_is.false)
    (sym c.is_digit.ensures ∙ c.if-not-is_digit.false)
    c.decimals_at-found.ensures (sym c.is_digit-2.ensures ∙ c.if-is_digit.false) c.up_to_most-2.ensures
