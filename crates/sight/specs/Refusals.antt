-- Document 01, "Numbers given back on refusal": the rows that arrows and wet rows share.
-- Assumes nothing.
use Rattle.std.specs.Prelude.{Bool, ◌||◌, List, [], ◌∷◌, ℕ, leb, get_or}
use Rattle.reckon.specs.Tests.{every, all_below, Row, ◌unless◌}
use Rattle.reckon.specs.Ranges.{most_depth}
use Rattle.grid.specs.Squares.{squares, shape_fine}
use Rattle.grid.specs.Marks.{marks_fine}
use Rattle.ledger.specs.Runs.{Plan}
use Rattle.ledger.specs.Flows.{shut}
use Rattle.ledger.specs.Checks.{one_each}

-- 3: "depth .. of a square not closed out of range"
unfoldable pub depths_fine : Plan → List ℕ → Bool
depths_fine p depths = all_below (squares p.shape) (λ i. shut p i || leb (get_or depths i 0) most_depth)

-- 1, "shape .. out of range, a slice not one number a square", with a call's further tests of 1; 2, of marks alone; 3, of depths alone
unfoldable pub shared_refusals : Plan → List ℕ → Bool → List Row
shared_refusals p depths more =
    1 unless every (shape_fine p.shape ∷ one_each p p.marks ∷ one_each p depths ∷ [])
    ∷ 1 unless more
    ∷ 2 unless marks_fine p.shape p.marks
    ∷ 3 unless depths_fine p depths
    ∷ []
