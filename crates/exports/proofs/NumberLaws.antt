-- Laws of rules and runs as numbers: what came out goes in again; what is built of numbers is what they stand for.
-- Assumes nothing.
use mathlib.Core.Path.{◌≡◌, refl, ap}
use mathlib.Core.List.{List}
use Prim.Native.Nat.{ℕ}
use Rattle.grid.specs.declared.squares.Shape.{Shape}
use Rattle.rule.specs.declared.rules.Rules.{Rules}
use Rattle.ledger.specs.declared.runs.Run.{Run}
use Rattle.ledger.specs.Runs.{plan, world}
use Rattle.checks.specs.Given.{ground, given}
use Rattle.exports.specs.Numbers.{rules_from, rules_numbers, run_numbers, run_value_from}

-- ---- the array that came out of one call goes into the next

pub run_again : (u : Run) → run_value_from (run_numbers u) ≡ u
run_again u = refl

pub rules_again : (r : Rules) → rules_from (rules_numbers r) ≡ r
rules_again r = refl

-- ---- what a call is lent, by the shape, rules and run that were built

pub plan_of : {s t : Shape} {marks : List ℕ} → s ≡ t → plan s marks ≡ plan t marks
plan_of {s} {t} {marks} e = ap (λ (x : Shape). plan x marks) e

pub given_of :
    {r t : Rules} {beds roughness rates rain inflow : List ℕ} → r ≡ t →
    given (ground r beds roughness rates) rain inflow ≡ given (ground t beds roughness rates) rain inflow
given_of {r} {t} {beds} {roughness} {rates} {rain} {inflow} e = ap (λ (x : Rules). given (ground x beds roughness rates) rain inflow) e

pub world-of : {u v : Run} {depths lasts records : List ℕ} → u ≡ v → world depths lasts records u ≡ world depths lasts records v
world-of {u} {v} {depths} {lasts} {records} e = ap (λ (x : Run). world depths lasts records x) e
