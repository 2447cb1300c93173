-- Every contract leaves one outcome: each is an equation for all that a call gives.
-- Assumes nothing.
use mathlib.Core.Path.{sym, ◌∙◌}
use Rattle.reckon.proofs.OutcomeLaws.{exactly}
use Rattle.adding.specs.Inner.Determined.{AddingDetermined}

pub adding_determined : AddingDetermined
adding_determined =
    record {
      rows_apart = λ inflow. exactly;
      poured-once = λ inflow side start end j. exactly;
      add-water =
          λ p g start end old a b x y.
          let same = x.fits_is ∙ sym y.fits_is in
          (same, λ t i h c. x.stored t i h c ∙ sym (y.stored (sym same ∙ t) i h c));
    }
