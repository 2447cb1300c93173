-- The wet rows are as document 01 says.
-- Assumes nothing.
use mathlib.Core.Path.{◌≡◌, refl, ap, ◌∙◌}
use mathlib.Core.Bool.{◌&&◌}
use mathlib.Core.List.{List}
use Prim.Native.Nat.{ℕ, ◌*◌, ◌<◌}
use lib.Dec.{ltb}
use lib.ListN.{length, get_or}
use Rattle.reckon.proofs.ListLaws.{length-tabulate, get_or-tabulate}
use Rattle.grid.specs.Squares.{square_at}
use Rattle.grid.specs.Masks.{is_wet, bit_at, row_mask, wet_masks}
use Rattle.grid.proofs.MaskLaws.{mask_bit}
use Rattle.ledger.specs.Runs.{Plan}
use Rattle.sight.specs.WetRows.{ones_over}
use Rattle.sight.proofs.WetLaws.{count_is}
use Rattle.demands.specs.WetAre.{WetAre}

module _ (p : Plan) (depths : List ℕ) (least : ℕ) where
  abbrev masks : List ℕ
  masks = wet_masks p.shape p.marks depths least

  one_a_row : length masks ≡ p.shape.rows
  unfolding wet_masks
  one_a_row = length-tabulate p.shape.rows (row_mask p.shape (is_wet p.marks depths least))

  bits_are : (row column : ℕ) → row < p.shape.rows →
      bit_at (get_or masks row 0) column ≡ (ltb column p.shape.columns && is_wet p.marks depths least (square_at p.shape row column))
  unfolding wet_masks
  bits_are row column h =
      ap (λ (m : ℕ). bit_at m column) (get_or-tabulate p.shape.rows (row_mask p.shape (is_wet p.marks depths least)) row h)
      ∙ mask_bit (is_wet p.marks depths least) (row * p.shape.columns) p.shape.columns column

  pub wet_are : WetAre p depths least masks (ones_over masks)
  wet_are = record { one_a_row = one_a_row; bits = bits_are; ones_over = refl; squares_wet = count_is p depths least }
