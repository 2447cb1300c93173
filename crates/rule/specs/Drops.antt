-- Document 01, "The step": the drops of one cell, but for which neighbour lies where.
-- Assumes nothing.
use Rattle.std.specs.Prelude.{◌≡◌, ℕ, ◌+◌, ◌-◌, ◌*◌, min}
use Rattle.rule.specs.declared.rules.Rules.{Rules}

-- "Level = bed + depth"
abbrev pub level : ℕ → ℕ → ℕ
level bed d = bed + d

-- "own level less its level if positive, else 0"
abbrev pub drop_to : ℕ → ℕ → ℕ
drop_to own neighbour = own - neighbour

-- document 02, #102: "the drop off the grid is the smaller of d and e·100·D"
unfoldable pub drop_off : Rules → ℕ → ℕ
drop_off r d = min d (r.edge * 100 * r.square_side)

-- ---- what the public functions give

abbrev pub DropTo : ℕ → ℕ → ℕ → Type 0
DropTo own neighbour r = r ≡ drop_to own neighbour

abbrev pub DropOff : Rules → ℕ → ℕ → Type 0
DropOff rules d r = r ≡ drop_off rules d
