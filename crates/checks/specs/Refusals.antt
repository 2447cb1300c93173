-- Document 01, "Numbers given back on refusal": the table, in its order and words, for the calls that are lent everything.
-- Assumes nothing.
use Rattle.std.specs.Prelude.{◌≡◌, Bool, ◌||◌, List, [], ◌∷◌, ℕ, ◌%◌, eqb, leb, length, get_or}
use Rattle.reckon.specs.Tests.{every, all_below, Row, ◌unless◌, refusal}
use Rattle.reckon.specs.Ranges.{last_clock, side_fine, rate_fine}
use Rattle.reckon.specs.Tables.{rain_kind, inflow_kind, table_fine}
use Rattle.grid.specs.Squares.{squares, shape_fine}
use Rattle.grid.specs.Marks.{marks_fine, inflow_squares_fine}
use Rattle.rule.specs.Rules.{ground_fine, rules_fine}
use Rattle.rule.specs.declared.rules.Rules.{Rules}
use Rattle.ledger.specs.Runs.{Plan, World, world, Seen, seen_of, run_values_fine}
use Rattle.ledger.specs.Flows.{shut}
use Rattle.ledger.specs.Record.{ring_of}
use Rattle.ledger.specs.Checks.{one_each, waters_fine}
use Rattle.ledger.specs.declared.runs.Run.{Run}
use Rattle.checks.specs.Given.{Ground, Given}

-- 2: "bed or roughness of a square not closed out of range", "a rate above 1,000,000" (document 02, #106)
unfoldable pub square_ground_fine : ℕ → ℕ → ℕ → Bool
square_ground_fine bed k rate = every (ground_fine bed k ∷ rate_fine rate ∷ [])

unfoldable pub grounds_fine : Plan → Ground → Bool
grounds_fine p o =
    all_below (squares p.shape) (λ i. shut p i || square_ground_fine (get_or o.beds i 0) (get_or o.roughness i 0) (get_or o.rates i 0))

-- 5: "end not a multiple of U or out of range"
unfoldable pub end_fine : Rules → ℕ → Bool
end_fine r end = every (leb end last_clock ∷ eqb (end % r.update) 0 ∷ [])

module _ (p : Plan) (g : Given) where
  -- rows 1 to 6, where `five` is row 5's test and `ring` says whether K, kept and newest are in range
  unfoldable pub check_refusals : Bool → Bool → Seen → List Row
  check_refusals five ring v =
      -- "shape or D out of range, a slice not one number a square"
      1 unless
      every
      (shape_fine p.shape
      ∷ side_fine g.lie.rules.square_side
      ∷ one_each p p.marks
      ∷ one_each p g.lie.beds
      ∷ one_each p g.lie.roughness
      ∷ one_each p g.lie.rates
      ∷ one_each p v.depths
      ∷ one_each p v.lasts
      ∷ [])
      -- "mark above 2, exit off the rim, bed or roughness of a square not closed out of range", and its soak rate
      ∷ 2 unless every (marks_fine p.shape p.marks ∷ grounds_fine p g.lie ∷ [])
      -- "depth or P of a square not closed out of range"
      ∷ 3 unless waters_fine p v.depths v.lasts
      -- "table: odd length (3s, 5s), over 64 rows, a value out of range, from > to, inflow on a closed or missing square"
      ∷ 4 unless
      every (table_fine rain_kind g.rain ∷ table_fine inflow_kind g.inflow ∷ inflow_squares_fine p.shape p.marks g.inflow ∷ [])
      -- "q, step limits, U .. out of range; end not a multiple of U or out of range"
      ∷ 5 unless five
      -- "K = 0, or a run value out of range"
      ∷ 6 unless run_values_fine ring v.clock v.length v.outflow v.soaked
      ∷ []

  -- a step's rows 1 to 6
  abbrev pub step_checks : Bool → Seen → List Row
  step_checks ring v = check_refusals (rules_fine g.lie.rules) ring v

  -- rows 1 to 6 of a run to an end
  abbrev pub run_checks : ℕ → World → List Row
  run_checks end w = check_refusals (every (rules_fine g.lie.rules ∷ end_fine g.lie.rules end ∷ [])) (ring_of p w) (seen_of w)

-- ---- what the public functions give

-- the first of rows 1 to 6 of a step that applies, 0 for none, with whatever record room of so many numbers
abbrev pub ChecksStep : Plan → Given → List ℕ → List ℕ → ℕ → Run → ℕ → Type 0
ChecksStep p g depths lasts numbers u r =
    (records : List ℕ) → length records ≡ numbers →
    r ≡ refusal (step_checks p g (ring_of p (world depths lasts records u)) (seen_of (world depths lasts records u)))

-- the same of a run to an end
abbrev pub Checks : Plan → Given → ℕ → List ℕ → List ℕ → ℕ → Run → ℕ → Type 0
Checks p g end depths lasts numbers u r = (records : List ℕ) → length records ≡ numbers → r ≡ refusal (run_checks p g end (world depths lasts records u))
