-- `raster::amounts::amount_at` meets its contract: the whole number, and what follows it.
-- Assumes nothing.
use mathlib.Core.Path.{sym, ◌∙◌}
use Rattle.text.proofs.RoundTrip.{number_only}
use Rattle.raster.proofs.AmountLaws.{amount_known, amount_none}
use Rattle.raster.proofs.amounts.amount_at.Goals as goal

pub returns-in_err-whole : goal.returns-in_err-whole
returns-in_err-whole c =
    let a = c.args in
    c.from_residual.ensures ∙ sym (amount_none a.scale a.text.now a.at (sym c.in_err-whole.ensures))

pub decimals_after-requires : goal.decimals_after-requires
decimals_after-requires c =
    let a = c.args in
    (c.places_of.ensures.1, (number_only a.text.now a.at (sym c.in_ok-whole.ensures)).alone)

pub returns : goal.returns
returns c =
    let a = c.args in
    amount_known a.scale a.text.now a.at c.places_of.ensures.0 c.decimals_after.ensures (sym c.in_ok-whole.ensures)
