-- Every contract leaves one outcome: each is an equation for all that a call gives.
-- Assumes nothing.
use Rattle.reckon.proofs.OutcomeLaws.{exactly}
use Rattle.text.proofs.Determined.{written}
use Rattle.raster.specs.Inner.Determined.{RasterDetermined}

pub raster_determined : RasterDetermined
raster_determined =
    record {
      head-of = λ text. exactly;
      entry_at = λ scale text at last. exactly;
      grid-bad = λ scale text. exactly;
      put_grid = λ scale shape marks values side at room. written;
    }
