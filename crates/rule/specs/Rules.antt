-- Document 01, "Units and ranges": the rules of a call, and the tests of refusals 2 and 5 that concern the rules or one square.
-- Assumes nothing.
use Rattle.std.specs.Prelude.{◌≡◌, Bool, [], ◌∷◌, ℕ, leb}
use Rattle.reckon.specs.Tests.{every}
use Rattle.reckon.specs.Ranges.{most_bed, most_roughness, most_tolerance, most_length, most_update, most_edge, most_edition}
use Rattle.rule.specs.declared.rules.Rules.{Rules}

-- ---- the tests, each by its refusal's number

-- 2: "bed or roughness of a square not closed out of range"
unfoldable pub ground_fine : ℕ → ℕ → Bool
ground_fine bed k = every (leb bed most_bed ∷ leb 1 k ∷ leb k most_roughness ∷ [])

-- 5: "q, step limits, U .. out of range", "e above 10,000", "another edition"
unfoldable pub rules_fine : Rules → Bool
rules_fine r =
    every
    (leb r.tolerance most_tolerance
    ∷ leb 1 r.shortest
    ∷ leb r.shortest r.longest
    ∷ leb r.longest most_length
    ∷ leb 1 r.update
    ∷ leb r.update most_update
    ∷ leb r.edge most_edge
    ∷ leb 1 r.edition
    ∷ leb r.edition most_edition
    ∷ [])

-- ---- what the public functions give

abbrev pub RulesJudged : Rules → Bool → Type 0
RulesJudged rules r = r ≡ rules_fine rules

abbrev pub GroundJudged : ℕ → ℕ → Bool → Type 0
GroundJudged bed k r = r ≡ ground_fine bed k
