-- Shape, rules, run and heading as plain numbers in document 01's order, and how many they are.
-- Assumes nothing.
use Rattle.std.specs.Prelude.{Bool, List, [], ◌∷◌, ◌++◌, ℕ, eqb, length, get_or}
use Rattle.grid.specs.declared.squares.Shape.{Shape}
use Rattle.rule.specs.declared.rules.Rules.{Rules}
use Rattle.ledger.specs.declared.runs.Run.{Run}
use Rattle.sheet.specs.declared.reading.Heading.{Heading}

-- "rows, columns"
abbrev pub shape_from : ℕ → ℕ → Shape
shape_from rows columns = record { rows = rows; columns = columns }

-- "side D", "slope tolerance q", "shortest, longest step", "update time U", "edge slope e", "edition": in this order
abbrev pub rules_from : List ℕ → Rules
rules_from l =
    record { square_side = get_or l 0 0; tolerance = get_or l 1 0; shortest = get_or l 2 0; longest = get_or l 3 0; update = get_or l 4 0; edge = get_or l 5 0; edition = get_or l 6 0 }

abbrev pub rules_numbers : Rules → List ℕ
rules_numbers r = r.square_side ∷ r.tolerance ∷ r.shortest ∷ r.longest ∷ r.update ∷ r.edge ∷ r.edition ∷ []

-- "A run value holds: clock, step length .., outflow total, kept .., newest slot", and "a total soaked" (document 02, #106): in this order
abbrev pub run_value_from : List ℕ → Run
run_value_from l =
    record { clock = get_or l 0 0; length = get_or l 1 0; outflow = get_or l 2 0; kept = get_or l 3 0; newest = get_or l 4 0; soaked = get_or l 5 0 }

abbrev pub run_numbers : Run → List ℕ
run_numbers u = u.clock ∷ u.length ∷ u.outflow ∷ u.kept ∷ u.newest ∷ u.soaked ∷ []

-- "`grid` rows columns D", "`run` q shortest longest U end", and how many `rain` and `inflow` lines there are
abbrev pub heading_numbers : Heading → List ℕ
heading_numbers h =
    h.shape.rows
    ∷ h.shape.columns
    ∷ (rules_numbers h.rules ++ (h.end ∷ h.rain_rows ∷ h.inflow_rows ∷ []))

-- ---- sizes: a slice lent for rules, a run or an answer has exactly these numbers

abbrev pub rules_size : ℕ
rules_size = 7

abbrev pub run_size : ℕ
run_size = 6

abbrev pub steps_size : ℕ
steps_size = 1

abbrev pub bounds_size : ℕ
bounds_size = 2

abbrev pub speeds_size : ℕ
speeds_size = 2

abbrev pub count_size : ℕ
count_size = 1

abbrev pub heading_size : ℕ
heading_size = 12

abbrev pub line_size : ℕ
line_size = 1

abbrev pub sized : {A : Type 0} → List A → ℕ → Bool
sized l size = eqb (length l) size
