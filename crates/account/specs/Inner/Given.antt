-- What the tables give in two sums: rain by how many squares are not closed, inflow by its rows.
-- Assumes nothing.
use Rattle.std.specs.Prelude.{List, ℕ, ◌/◌, length}
use Rattle.reckon.specs.Lists.{sum_below}
use Rattle.grid.specs.Marks.{inflow_words}
use Rattle.ledger.specs.Runs.{Plan}
use Rattle.ledger.specs.Account.{over_open}
use Rattle.adding.specs.Inner.Added.{poured_once}

-- how many squares are not closed
unfoldable pub open_squares : Plan → ℕ
open_squares p = over_open p (λ i. 1)

-- what each inflow row adds to its square, each square counted once
unfoldable pub inflow_gives : List ℕ → ℕ → ℕ → ℕ → ℕ
inflow_gives inflow side start end = sum_below (length inflow / inflow_words) (poured_once inflow side start end)

-- the most rain on one square, and the most that a row counts for: 64 rows, each at the most for a whole week
abbrev pub most_fallen : ℕ
most_fallen = 10_752_000_000

abbrev pub most_poured : ℕ
most_poured = 3_870_720_000_000_000
