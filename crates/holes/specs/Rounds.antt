-- Document 02, #111: unknown beds filled "in rounds".
-- Assumes nothing.
use Rattle.std.specs.Prelude.{◌≡◌, true, false, not, ◌&&◌, List, ℕ, zero, suc, ◌+◌, ◌≤◌, ◌<◌, min, eqb, length, get_or}
use Rattle.reckon.specs.Tests.{pick, first_failing}
use Rattle.reckon.specs.Lists.{tabulate}
use Rattle.reckon.specs.Ranges.{most_bed}
use Rattle.grid.specs.Squares.{squares, within, beside, north, east, south, west, sides}
use Rattle.grid.specs.Marks.{closed}
use Rattle.grid.specs.declared.squares.Shape.{Shape}

-- what stands for a bed that is not known: above every bed
abbrev pub no_bed : ℕ
no_bed = most_bed + 1

module _ (shape : Shape) (marks : List ℕ) where
  -- the bed of a "known, not closed neighbour"
  unfoldable pub bed_beside : List ℕ → ℕ → ℕ → ℕ
  bed_beside beds i side =
      pick (within shape (beside shape i side) && not (closed marks (beside shape i side))) (get_or beds (beside shape i side) 0) no_bed

  -- "the lowest of those neighbours' beds"; `no_bed` where there is none
  unfoldable pub lowest_beside : List ℕ → ℕ → ℕ
  lowest_beside beds i =
      min (min (bed_beside beds i north) (bed_beside beds i east)) (min (bed_beside beds i south) (bed_beside beds i west))

  -- "In each round every unknown square .. takes [it] as they were before the round"
  abbrev pub bed_after : List ℕ → ℕ → ℕ
  bed_after beds i = pick (eqb (get_or beds i 0) no_bed) (lowest_beside beds i) (get_or beds i 0)

  unfoldable pub round_of : List ℕ → List ℕ
  round_of beds = tabulate (squares shape) (bed_after beds)

  unfoldable pub after_rounds : List ℕ → ℕ → List ℕ
  after_rounds beds zero = beds
  after_rounds beds (suc r) = round_of (after_rounds beds r)

  -- "It stops when a round fills nothing": as many rounds as there are squares are never too few (`rounds_end`)
  unfoldable pub filled_beds : List ℕ → List ℕ
  filled_beds beds = after_rounds beds (squares shape)

  -- "round (from 1)": the first after which the bed is known, 0 where it was known at the start
  unfoldable pub round_filling : List ℕ → ℕ → ℕ
  round_filling beds i = first_failing (squares shape) (λ r. eqb (get_or (after_rounds beds r) i 0) no_bed)

-- ---- laws

-- how a known square is reached from i in r steps, each to a neighbour that is not closed
pub data Reach (shape : Shape) (marks beds : List ℕ) : ℕ → ℕ → Type 0 where
  here : {i : ℕ} → i < squares shape → (get_or beds i 0 ≡ no_bed → ⊥) → Reach shape marks beds 0 i
  wait : {r i : ℕ} → Reach shape marks beds r i → Reach shape marks beds (suc r) i
  step : {r i : ℕ} (side : ℕ) → i < squares shape → side < sides → within shape (beside shape i side) ≡ true → closed marks (beside shape i side) ≡ false →
      Reach shape marks beds r (beside shape i side) → Reach shape marks beds (suc r) i

-- one bed a square, none of a square not closed above that of an unknown one
pub record BedsSeen (shape : Shape) (marks beds : List ℕ) : Type 0 where
  pub one_each : length beds ≡ squares shape
  pub none_above : (i : ℕ) → closed marks i ≡ false → get_or beds i 0 ≤ no_bed

pub record RoundsLaw (shape : Shape) (marks beds : List ℕ) : Type 0 where
  -- a bed that was known stays
  pub known_stays : (r i : ℕ) → i < squares shape → (get_or (after_rounds shape marks beds r) i 0 ≡ no_bed → ⊥) →
      get_or (after_rounds shape marks beds (suc r)) i 0 ≡ get_or (after_rounds shape marks beds r) i 0
  -- a bed that is given is the lowest of its neighbours' as they were before the round
  pub lowest_given : (r i : ℕ) → i < squares shape → get_or (after_rounds shape marks beds r) i 0 ≡ no_bed →
      get_or (after_rounds shape marks beds (suc r)) i 0 ≡ lowest_beside shape marks (after_rounds shape marks beds r) i
  -- once a round fills nothing, no later one does
  pub still : (r k : ℕ) → after_rounds shape marks beds (suc r) ≡ after_rounds shape marks beds r → after_rounds shape marks beds (r + k) ≡ after_rounds shape marks beds r
  -- and that is so after as many rounds as there are squares
  pub rounds_end : (k : ℕ) → after_rounds shape marks beds (squares shape + k) ≡ filled_beds shape marks beds
  -- the round in which a square is filled is its distance from the nearest known one
  pub filled_is_reached : (r i : ℕ) → i < squares shape → (get_or (after_rounds shape marks beds r) i 0 ≡ no_bed → ⊥) → Reach shape marks beds r i
  pub reached_is_filled : (r i : ℕ) → Reach shape marks beds r i → get_or (after_rounds shape marks beds r) i 0 ≡ no_bed → ⊥
