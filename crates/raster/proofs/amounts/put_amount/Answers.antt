-- `raster::amounts::put_amount` meets its contract: by its scale.
-- Assumes nothing.
use mathlib.Core.Path.{ap}
use lib.ListN.{length}
use Rattle.text.proofs.WritingLaws.{written_as}
use Rattle.raster.specs.Amounts.{amount_text}
use Rattle.raster.specs.declared.amounts.Scale.{Scale}
use Rattle.raster.proofs.PutLaws.{fits_as}
use Rattle.raster.proofs.amounts.put_amount.Goals as goal

pub put_metres-requires : goal.put_metres-requires
put_metres-requires c =
    let a = c.args in
    fits_as a.at (length a.room.now) (ap (λ (k : Scale). amount_text k a.n) c.in-Metres.is) c.requires

pub put_number-requires : goal.put_number-requires
unfolding amount_text
put_number-requires c =
    let a = c.args in
    fits_as a.at (length a.room.now) (ap (λ (k : Scale). amount_text k a.n) c.in-Whole.is) c.requires

pub returns-in-Metres : goal.returns-in-Metres
returns-in-Metres c =
    let a = c.args in
    written_as (ap (λ (k : Scale). amount_text k a.n) c.in-Metres.is) c.put_metres.ensures

pub returns-in-Whole : goal.returns-in-Whole
unfolding amount_text
returns-in-Whole c =
    let a = c.args in
    written_as (ap (λ (k : Scale). amount_text k a.n) c.in-Whole.is) c.put_number.ensures
