-- Laws of the numbers of a sheet whose shape and rooms are good: its checks give 2 to 5 or nothing, since the rooms have one number a
-- square, the run is a fresh one, and its room holds one record.
-- Assumes nothing.
use mathlib.Core.Path.{◌≡◌, refl, ap, ◌∙◌}
use mathlib.Core.Bool.{Bool, true, false}
use mathlib.Core.List.{List, [], ◌∷◌}
use Prim.Native.Nat.{ℕ}
use native.Mathlib.Omega.{arith}
use lib.ListN.{length, replicate, length-replicate}
use borrow.Author.Tests.{eq-eqb, le-leb, leb-true}
use Rattle.reckon.specs.Tests.{pick, every, ◌unless◌, refusal}
use Rattle.reckon.specs.Ranges.{last_clock, most_outflow, most_soaked, side_fine}
use Rattle.reckon.proofs.TestLaws.{not_both, every_each, each_every}
use Rattle.reckon.proofs.ListLaws.{length-filled}
use Rattle.grid.specs.Squares.{squares, shape_fine}
use Rattle.rule.specs.Rules.{rules_fine}
use Rattle.ledger.specs.Runs.{run_values_fine}
use Rattle.ledger.specs.Record.{room_slots}
use Rattle.ledger.specs.Checks.{one_each}
use Rattle.checks.specs.Refusals.{check_refusals}
use Rattle.checks.specs.Fresh.{fresh_run}
use Rattle.sheet.proofs.KindLaws.{run_side}
use Rattle.sheet.specs.Sheet.{Rooms, rooms_fine, line_one, line_two, shape_of, plan_in, no_records, cells_filled, said, checks_in, checks_of}
use Rattle.sheet.proofs.JudgeLaws.{one_slot}
use Rattle.sheet.proofs.RunLaws.{ring_fresh}

-- where row 1 passes a table of rows 1 to 6 does not give 1, and gives 6 only where row 5 passes and row 6 does not
abbrev table : Bool → Bool → Bool → Bool → Bool → Bool → ℕ
table a b c d e n = refusal (1 unless a ∷ 2 unless b ∷ 3 unless c ∷ 4 unless d ∷ 5 unless e ∷ 6 unless n ∷ [])

table_one : (a b c d e n : Bool) → a ≡ true → table a b c d e n ≡ 1 → ⊥
unfolding refusal pick
table_one false b c d e n h q = not_both h refl
table_one true false c d e n h q = omega (arith, q)
table_one true true false d e n h q = omega (arith, q)
table_one true true true false e n h q = omega (arith, q)
table_one true true true true false n h q = omega (arith, q)
table_one true true true true true false h q = omega (arith, q)
table_one true true true true true true h q = omega (arith, q)

table_six : (a b c d e n : Bool) → a ≡ true → table a b c d e n ≡ 6 → (e ≡ true) × (n ≡ false)
unfolding refusal pick
table_six false b c d e n h q = not_both h refl
table_six true false c d e n h q = absurd (omega (arith, q))
table_six true true false d e n h q = absurd (omega (arith, q))
table_six true true true false e n h q = absurd (omega (arith, q))
table_six true true true true false n h q = absurd (omega (arith, q))
table_six true true true true true false h q = (refl, refl)
table_six true true true true true true h q = absurd (omega (arith, q))

module _ (s : List ℕ) (lent : Rooms) (f : rooms_fine (shape_of s) (line_one s).side lent ≡ true) where
  room-fine : (l : List ℕ) → length l ≡ squares (shape_of s) → one_each (plan_in (shape_of s) (line_two s).rules (said s)) l ≡ true
  unfolding one_each
  room-fine l e = eq-eqb _ _ e

  zeros : length (replicate {A = ℕ} (squares (shape_of s)) 0) ≡ squares (shape_of s)
  zeros = length-replicate (squares (shape_of s)) 0

  side-fine : side_fine (line_two s).rules.square_side ≡ true
  unfolding rooms_fine
  side-fine = ap side_fine (run_side s _ _) ∙ (every_each _ f).1.0

  abbrev lent_tests : List Bool
  lent_tests =
      shape_fine (shape_of s)
      ∷ side_fine (line_two s).rules.square_side
      ∷ one_each (plan_in (shape_of s) (line_two s).rules (said s)) (said s).cells.marks
      ∷ one_each (plan_in (shape_of s) (line_two s).rules (said s)) (said s).cells.beds
      ∷ one_each (plan_in (shape_of s) (line_two s).rules (said s)) (said s).cells.roughness
      ∷ one_each (plan_in (shape_of s) (line_two s).rules (said s)) (said s).cells.rates
      ∷ one_each (plan_in (shape_of s) (line_two s).rules (said s)) (said s).cells.depths
      ∷ one_each (plan_in (shape_of s) (line_two s).rules (said s)) (replicate (squares (shape_of s)) 0)
      ∷ []

  row_one : every lent_tests ≡ true
  unfolding rooms_fine cells_filled
  row_one =
      each_every _ (
        (every_each _ f).0,
        (
          side-fine,
          (
            room-fine _ (length-filled _ _ _ _ ∙ zeros),
            (
              room-fine _ (length-filled _ _ _ _ ∙ zeros),
              (
                room-fine _ (length-filled _ _ _ _ ∙ zeros),
                (room-fine _ (length-filled _ _ _ _ ∙ zeros), (room-fine _ (length-filled _ _ _ _ ∙ zeros), (room-fine _ zeros, tt))),
              ),
            ),
          ),
        ),
      )

  pub never_one : checks_of s ≡ 1 → ⊥
  unfolding checks_in check_refusals
  never_one q = table_one _ _ _ _ _ _ row_one q

  pub never_six : checks_of s ≡ 6 → ⊥
  unfolding checks_in check_refusals run_values_fine fresh_run rules_fine
  never_six q =
      let both = table_six _ _ _ _ _ _ row_one q in
      let rules = every_each _ (every_each _ both.0).0 in
      let K : ℕ = room_slots (plan_in (shape_of s) (line_two s).rules (said s)) (no_records (shape_of s) (line_two s).rules (said s)) in
      let one : K ≡ 1 = one_slot (shape_of s) (line_two s).rules (said s) in
      let low = leb-true 1 (line_two s).rules.shortest rules.1.0 in
      let high = leb-true (line_two s).rules.shortest (line_two s).rules.longest rules.1.1.0 in
      not_both
      (each_every _ (
        ring_fresh K (omega (arith, one)),
        (
          le-leb 0 last_clock (omega arith),
          (le-leb 1 (line_two s).rules.longest (omega (arith, low, high)), (rules.1.1.1.0, (le-leb 0 most_outflow (omega arith), (le-leb 0 most_soaked (omega arith), tt)))),
        ),
      ))
      both.1
