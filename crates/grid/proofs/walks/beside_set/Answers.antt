-- `grid::walks::beside_set` meets its contract: the row's mask moved both ways, and those above and below.
-- Assumes nothing.
use mathlib.Core.Path.{ap₂}
use Prim.Native.Nat.{ℕ, ◌*◌, ◌/◌, ◌%◌, ◌^◌}
use lib.Bits.{bit_or}
use lib.ListN.{get_or}
use Rattle.grid.specs.Masks.{bits}
use Rattle.grid.specs.Walks.{beside_set}
use Rattle.grid.proofs.walks.beside_set.Goals as goal

pub returns : goal.returns
unfolding beside_set
returns c =
    let own = get_or c.args.rows.now c.args.row 0 in
    ap₂ (λ (above below : ℕ). bit_or (bit_or (bit_or (bit_or own (own * 2 ^ 1 % 2 ^ bits)) (own / 2 ^ 1)) above) below) c.row_above.ensures c.row_below.ensures
