-- What the exported flow arrow and wet rows give.
-- Assumes nothing.
use Rattle.std.specs.Prelude.{◌≡◌, Bool, List, [], ◌∷◌, ℕ, length, Float}
use Rattle.reckon.specs.Tests.{every, pick}
use Rattle.ledger.specs.Runs.{Plan, World}
use Rattle.sight.specs.Arrows.{seen_at}
use Rattle.sight.specs.WetRows.{ones_over, wet_number}
use Rattle.grid.specs.Masks.{wet_masks}
use Rattle.sight.specs.declared.arrows.Sight.{Sight}
use Rattle.sight.specs.declared.arrows.Sight.TheVariants.{Closed, Dry, Still, Moving, Refused}
use Rattle.sight.specs.declared.wet_rows.Wet.{Wet}
use Rattle.sight.specs.declared.wet_rows.Wet.TheVariants.{Count}
use Rattle.exports.specs.Numbers.{count_size, run_size, sized, speeds_size}
use Rattle.exports.specs.Refusals.{number_if, unless_refused}

-- "one of: closed; dry; still; moving, with the arrow; or a refusal", each as a number
unfoldable pub sight_number : Sight → ℕ
sight_number Closed = 101
sight_number Dry = 102
sight_number Still = 103
sight_number (Moving a) = 0
sight_number (Refused n) = n

-- the speeds east and north of a moving square; else the slice stays
unfoldable pub speeds_in : Sight → List Float → List Float
speeds_in Closed old = old
speeds_in Dry old = old
speeds_in Still old = old
speeds_in (Moving a) old = a.east ∷ a.north ∷ []
speeds_in (Refused n) old = old

module _ (p : Plan) (D : ℕ) (w : World) (row column : ℕ) (run : List ℕ) (old : List Float) where
  abbrev pub arrow_sized : Bool
  arrow_sized = every (sized run run_size ∷ sized old speeds_size ∷ [])

  pub record ExportsArrow (number : ℕ) (speeds : List Float) : Type 0 where
    pub number_is : number ≡ number_if arrow_sized (sight_number (seen_at p D w row column))
    pub speeds_are : speeds ≡ pick arrow_sized (speeds_in (seen_at p D w row column) old) old

-- a refusal's number, 0 for a count
unfoldable pub wet_number_of : Wet → ℕ
wet_number_of (Count n) = 0
wet_number_of (Wet.Refused n) = n

module _ (p : Plan) (depths : List ℕ) (least : ℕ) (old_rows old_count : List ℕ) where
  abbrev pub wet_gives : ℕ
  wet_gives = number_if (sized old_count count_size) (wet_number p depths least (length old_rows))

  pub record ExportsWet (number : ℕ) (rows count : List ℕ) : Type 0 where
    pub number_is : number ≡ wet_gives
    pub rows_are : rows ≡ unless_refused wet_gives (wet_masks p.shape p.marks depths least) old_rows
    pub count_is : count ≡ unless_refused wet_gives (ones_over (wet_masks p.shape p.marks depths least) ∷ []) old_count
