-- Document 01, "Flow arrows and wet rows": the flow arrows of all squares of a grid, each the answer that `arrow` gives of it.
-- Assumes nothing.
use Rattle.std.specs.Prelude.{◌≡◌, List, [], ◌∷◌, ℕ, zero, suc, ◌/◌, ◌%◌, eqb, Float, length}
use Rattle.reckon.specs.Tests.{pick, every, Row, ◌unless◌, refusal}
use Rattle.grid.specs.Squares.{squares}
use Rattle.ledger.specs.Runs.{Plan, World}
use Rattle.sight.specs.Speeds.{zero64}
use Rattle.sight.specs.Arrows.{seen_at, arrow_refusals}
use Rattle.sight.specs.declared.speeds.Arrow.{Arrow}
use Rattle.sight.specs.declared.arrows.Sight.{Sight}
use Rattle.sight.specs.declared.arrows.Sight.TheVariants.{Closed, Dry, Still, Moving, Refused}

-- an answer's kind as a number; a refusal is of the whole grid, so that its 4 is never stored
unfoldable pub kind_of : Sight → ℕ
kind_of (Moving a) = 0
kind_of Closed = 1
kind_of Dry = 2
kind_of Still = 3
kind_of (Refused n) = 4

-- an answer's arrow, 0 where the square does not move
unfoldable pub arrow_in : Sight → Arrow
arrow_in (Moving a) = a
arrow_in Closed = record { east = zero64; north = zero64 }
arrow_in Dry = record { east = zero64; north = zero64 }
arrow_in Still = record { east = zero64; north = zero64 }
arrow_in (Refused n) = record { east = zero64; north = zero64 }

-- f 0, f 1, .. f (n - 1), of numbers or speeds
unfoldable pub each_of : {A : Type 0} → ℕ → (ℕ → A) → List A
each_of zero f = []
each_of (suc n) f = f zero ∷ each_of n (λ k. f (suc k))

-- The three rooms that are lent: a kind, a speed towards the east and one towards the north for each square.
pub record Sights : Type 0 where
  pub kinds : List ℕ
  pub east : List Float
  pub north : List Float

abbrev pub sights : List ℕ → List Float → List Float → Sights
sights k e n = record { kinds = k; east = e; north = n }

-- some answer for each square, laid out in the rooms
unfoldable pub laid_out : ℕ → (ℕ → Sight) → Sights
laid_out n f = sights (each_of n (λ i. kind_of (f i))) (each_of n (λ i. (arrow_in (f i)).east)) (each_of n (λ i. (arrow_in (f i)).north))

module _ (p : Plan) (D : ℕ) (w : World) where
  -- what `arrow` answers of a square, asked by its row and column
  unfoldable pub seen_square : ℕ → Sight
  seen_square i = seen_at p D w (i / p.shape.columns) (i % p.shape.columns)

  -- 1, "a slice not one number a square": the rooms are as long as the marks, which the next row holds to the grid. Then the rows of an arrow: asked
  -- of the first square they are those of every square (`number_of_all`).
  unfoldable pub all_refusals : Sights → List Row
  all_refusals old =
      1 unless every (eqb (length old.kinds) (length p.marks) ∷ eqb (length old.east) (length p.marks) ∷ eqb (length old.north) (length p.marks) ∷ [])
      ∷ arrow_refusals p D w 0 0

  unfoldable pub all_number : Sights → ℕ
  all_number old = refusal (all_refusals old)

-- ---- what the public function gives: its number, and the rooms afterwards

pub record SeesAll (p : Plan) (D : ℕ) (w : World) (old : Sights) (number : ℕ) (new : Sights) : Type 0 where
  pub number_is : number ≡ all_number p D w old
  pub rooms_are : new ≡ pick (eqb (all_number p D w old) 0) (laid_out (squares p.shape) (seen_square p D w)) old
