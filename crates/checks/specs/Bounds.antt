-- Document 02, #112: what is told of a run's steps before it is made.
-- Assumes nothing.
use Rattle.std.specs.Prelude.{◌≡◌, Bool, true, false, List, [], ◌∷◌, ℕ, zero, suc, leb}
use Rattle.reckon.specs.Tests.{every, Row, ◌unless◌, refusal}
use Rattle.reckon.specs.Ranges.{last_clock, side_fine}
use Rattle.rule.specs.Rules.{rules_fine}
use Rattle.rule.specs.Length.{is_update}
use Rattle.rule.specs.Bounds.{most_steps, least_steps}
use Rattle.rule.specs.declared.rules.Rules.{Rules}
use Rattle.checks.specs.Refusals.{end_fine}
use Rattle.checks.specs.declared.bounds.StepBounds.{StepBounds}
use Rattle.checks.specs.declared.bounds.Bounds.{Bounds}
use Rattle.checks.specs.declared.bounds.Bounds.TheVariants.{Bounded, NotBounded, Refused}

module _ (r : Rules) (clock end : ℕ) where
  -- rows 1, 5 and 6 of a run to an end, as far as rules, clock and end go: "A call skips checks of what it is not lent"
  unfoldable pub bounds_refusals : List Row
  bounds_refusals =
      -- "D out of range"
      1 unless side_fine r.square_side
      -- "q, step limits, U .. out of range; end not a multiple of U or out of range"
      ∷ 5 unless every (rules_fine r ∷ end_fine r end ∷ [])
      -- "a run value out of range"
      ∷ 6 unless leb clock last_clock
      ∷ []

  unfoldable pub bounds_number : ℕ
  bounds_number = refusal bounds_refusals

  -- "a run from a clock that is a multiple of U to an end E not before it"
  unfoldable pub spans_whole : Bool
  spans_whole = every (is_update r clock ∷ leb clock end ∷ [])

  -- both figures
  unfoldable pub figures : StepBounds
  figures = record { most = most_steps r clock end; least = least_steps r clock end }

-- A refusal's number (0 is none), whether the figures hold, and the figures, as the answer.
unfoldable pub told_bounds : ℕ → Bool → StepBounds → Bounds
told_bounds (suc n) holds b = Refused (suc n)
told_bounds zero false b = NotBounded
told_bounds zero true b = Bounded b

unfoldable pub bounds_of : Rules → ℕ → ℕ → Bounds
bounds_of r clock end = told_bounds (bounds_number r clock end) (spans_whole r clock end) (figures r clock end)

-- ---- what the public function gives

abbrev pub BoundsSteps : Rules → ℕ → ℕ → Bounds → Type 0
BoundsSteps r clock end a = a ≡ bounds_of r clock end
