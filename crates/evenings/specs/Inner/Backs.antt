-- One take-back of a line `back`, and the line whole.
-- Assumes nothing.
use Rattle.std.specs.Prelude.{◌≡◌, ℕ}
use Rattle.ledger.specs.Runs.{Plan, World}
use Rattle.ledger.specs.TakeBack.{back_number, taken_back}
use Rattle.checks.specs.Given.{Given}
use Rattle.hatches.specs.Log.{Evening}
use Rattle.evenings.specs.Taking.{line_back, after_back}

-- its number, 0 for none, and the world after it
pub record BacksOnce (p : Plan) (w : World) (number : ℕ) (after : World) : Type 0 where
  pub number_is : number ≡ back_number p w
  pub world_is : after ≡ taken_back p w

-- the line's number and the evening after it, whatever a step is given: a take-back asks for none of that
abbrev pub BackTaken : Plan → Evening → ℕ → ℕ → Evening → Type 0
BackTaken p e count number after = (g : Given) → (number ≡ (line_back p g e count).number) × (after ≡ after_back p g e count)
