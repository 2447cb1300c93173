-- Every contract leaves one outcome: each is an equation for all that a call gives.
-- Assumes nothing.
use Rattle.reckon.proofs.OutcomeLaws.{exactly}
use Rattle.grid.specs.Inner.Determined.{GridDetermined}

pub grid_determined : GridDetermined
grid_determined =
    record {
      shape-fine = λ s. exactly;
      squares_of = λ s. exactly;
      square-at = λ s row column. exactly;
      next_column = λ s column. exactly;
      beside_on = λ s square side. exactly;
      opposite_side = λ side. exactly;
      on-rim = λ s square. exactly;
      is_closed = λ marks square. exactly;
      is_exit = λ marks square. exactly;
      marks-fine = λ s marks. exactly;
      inflow_squares-fine = λ s marks rows. exactly;
      row-mask = λ marks numbers least first columns. exactly;
      mask_rows = λ s marks depths least. exactly;
      ones = λ mask. exactly;
      next-set = λ mask column. exactly;
      next-within = λ mask column columns. exactly;
      next_after = λ mask column columns. exactly;
      within-row = λ mask columns. exactly;
      lowest_set = λ mask. exactly;
      without-lowest = λ mask. exactly;
      beside-set = λ rows row. exactly;
    }
