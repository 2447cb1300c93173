-- Document 01, "The step": the drops of a square.
-- Assumes nothing.
use Rattle.std.specs.Prelude.{List, [], ◌∷◌, ℕ, get_or}
use Rattle.reckon.specs.Tests.{pick}
use Rattle.grid.specs.Squares.{north, east, south, west, within, beside}
use Rattle.grid.specs.Marks.{exit}
use Rattle.rule.specs.Drops.{level, drop_to, drop_off}
use Rattle.rule.specs.declared.rules.Rules.{Rules}
use Rattle.ledger.specs.Runs.{Plan}
use Rattle.ledger.specs.Flows.{shut}

module _ (p : Plan) (r : Rules) (beds depths : List ℕ) where
  -- "Level = bed + depth"
  abbrev pub level_at : ℕ → ℕ
  level_at i = level (get_or beds i 0) (get_or depths i 0)

  -- "towards an open or exit neighbour, own level less its level if positive, else 0; towards a closed square or off the grid, 0; but
  -- off the grid from an exit" by the edge slope (document 02, #102)
  unfoldable pub side_drop : ℕ → ℕ → ℕ
  side_drop i side =
      pick (within p.shape (beside p.shape i side))
      (pick (shut p (beside p.shape i side)) 0 (drop_to (level_at i) (level_at (beside p.shape i side))))
      (pick (exit p.marks i) (drop_off r (get_or depths i 0)) 0)

  -- "The four sides' drops of one cell, V for north, east, south and west"
  unfoldable pub drops_of : ℕ → List ℕ
  drops_of i = side_drop i north ∷ side_drop i east ∷ side_drop i south ∷ side_drop i west ∷ []
