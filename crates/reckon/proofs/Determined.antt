-- Every contract leaves one outcome: each is an equation for all that a call gives.
-- Assumes nothing.
use Rattle.reckon.proofs.RootLaws.{root_unique}
use Rattle.reckon.proofs.OutcomeLaws.{exactly}
use Rattle.reckon.specs.Inner.Determined.{ReckonDetermined}

pub reckon_determined : ReckonDetermined
reckon_determined =
    record {
      lesser = λ a b. exactly;
      greater = λ a b. exactly;
      number = λ list at. exactly;
      part = λ d x y. exactly;
      copy_into = λ from old at. exactly;
      water-fine = λ depth last. exactly;
      side-fine = λ side. exactly;
      rate-fine = λ rate. exactly;
      square_root = λ n a b. root_unique;
      cube_root = λ n a b. root_unique;
      soak-due = λ rate start end. exactly;
      row_on = λ rows j r c. exactly;
      rain-by = λ rows t. exactly;
      inflow-by = λ rows r c side t. exactly;
      rain-added = λ rows start end. exactly;
      inflow-added = λ rows r c side start end. exactly;
      rain_fine = λ rows. exactly;
      inflow_fine = λ rows. exactly;
    }
