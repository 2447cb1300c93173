-- What a walk over the squares has written so far, and what it finds: whether a test holds, and if so what left the grid and what soaked; and
-- which squares have sent.
-- Assumes nothing.
use Rattle.std.specs.Prelude.{◌≡◌, Bool, Option, IfSome, is_some, ◌&&◌, not, List, ◌∷◌, ℕ, eqb, length, take}
use Rattle.reckon.specs.Lists.{joined}
use Rattle.grid.specs.Squares.{north}
use Rattle.ledger.specs.Runs.{Plan}
use Rattle.ledger.specs.Flows.{Leaves, shut, gone, off_grid, soaked_grid}
use Rattle.ledger.specs.Record.{record_size, word_place, square_record, leaves_in, soaked_in}
use Rattle.ledger.specs.declared.take_back.Found.{Found}

-- a record of which the head and the first i squares stand
pub record RecordedTo (p : Plan) (held lasted : ℕ) (out : Leaves) (last added soaked : ℕ → ℕ) (i : ℕ) (rec : List ℕ) : Type 0 where
  pub long : length rec ≡ record_size p
  pub so_far : take (word_place i north) rec ≡ held ∷ lasted ∷ joined i (square_record p out last added soaked)

-- what is found: something where the test holds
pub record Walked (p : Plan) (rec : List ℕ) (test : Bool) (r : Option Found) : Type 0 where
  pub fits_is : is_some r ≡ test
  pub off_is : IfSome r (λ f. f.off ≡ off_grid p (leaves_in rec))
  pub soaked_is : IfSome r (λ f. f.soaked ≡ soaked_grid p (soaked_in rec))

-- whether a square not closed sent anything
unfoldable pub sends : Plan → Leaves → ℕ → Bool
sends p out i = not (shut p i) && not (eqb (gone out i) 0)
