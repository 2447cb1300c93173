-- Document 02, #108, worked by hand: the water on the ground and what the tables give, every number another one.
-- Assumes nothing.
use Rattle.std.specs.Prelude.{◌≡◌, [], ◌∷◌}
use Rattle.rule.specs.declared.rules.Rules.{Rules}
use Rattle.ledger.specs.Runs.{Plan, plan}
use Rattle.ledger.specs.Account.{water}
use Rattle.checks.specs.Given.{Given, given, ground}
use Rattle.adding.specs.Account.{tables_give}

abbrev rules : Rules
rules = record { square_side = 3; tolerance = 10; shortest = 300; longest = 700; update = 1_000; edge = 5; edition = 2 }

-- 2 rows of 3, the last square of the first row closed
abbrev meadow : Plan
meadow = plan (record { rows = 2; columns = 3 }) (1 ∷ 1 ∷ 0 ∷ 1 ∷ 1 ∷ 1 ∷ [])

-- rain from 1 s to 5 s, 250 µm in each second; 18 l/s on the last square, of 9 m², from 0 to 10 s
abbrev tables : Given
tables = given (ground rules [] [] []) (1_000 ∷ 5_000 ∷ 900_000 ∷ []) (1 ∷ 2 ∷ 0 ∷ 10_000 ∷ 18 ∷ [])

pub record AccountCases : Type 0 where
  -- the 13 of the closed square is not counted
  pub on_the_ground : water meadow (11 ∷ 12 ∷ 13 ∷ 14 ∷ 15 ∷ 16 ∷ []) ≡ 68
  -- 875 - 250 on each of five squares, and 9,000 - 4,000
  pub between : tables_give meadow tables 2_000 4_500 ≡ 8_125
  -- before the rain, only the hatch
  pub before_rain : tables_give meadow tables 0 1_000 ≡ 2_000
