-- `raster::amounts::put_last_digits` meets its contract: the digits before the last are the tenth's, and the places fall at each call of itself.
-- Assumes nothing.
use Rattle.std.proofs.Common.{arith, ◌≡◌, ap, sym, ◌∙◌, ℕ, suc, ◌-◌, ◌/◌}
use Rattle.text.proofs.WritingLaws.{placed_none, wrote_both, written_as}
use Rattle.raster.specs.Amounts.{last_digits}
use Rattle.raster.proofs.AmountLaws.{last_long}
use Rattle.raster.proofs.PutLaws.{last-digit, no_digit}
use Rattle.raster.proofs.amounts.+put_last_digits.Goals as goal

pub returns-then-places-eq0 : goal.returns-then-places-eq0
returns-then-places-eq0 t c =
    let a = c.args in
    written_as (ap (λ (k : ℕ). last_digits k a.n) c.if-places-eq0.true ∙ no_digit a.n)
    (record { next = omega arith; room = sym (placed_none a.room.now a.at) })

pub put_byte-requires : goal.put_byte-requires
put_byte-requires t c =
    let a = c.args in
    omega (
      arith,
      c.if-places-eq0.false,
      c.put_last_digits-last.ensures.next,
      last_long (a.places - 1) (a.n / 10),
      c.put_last_digits-last.auto.room,
    )

pub returns : goal.returns
returns t c =
    let a = c.args in
    let z : a.places ≡ suc (a.places - 1) = omega (arith, c.if-places-eq0.false) in
    written_as (ap (λ (k : ℕ). last_digits k a.n) z ∙ last-digit (a.places - 1) a.n)
    (wrote_both (omega (arith, last_long (a.places - 1) (a.n / 10), c.if-places-eq0.false)) c.put_last_digits-last.ensures
    c.put_byte.ensures)
