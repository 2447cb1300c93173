-- The tests of the rules and of one square, as facts.
-- Assumes nothing.
use mathlib.Core.Path.{◌≡◌}
use mathlib.Core.Bool.{true}
use mathlib.Core.List.{[], ◌∷◌}
use Prim.Native.Nat.{ℕ}
use lib.Dec.{leb}
use borrow.Author.Tests.{leb-true}
use Rattle.reckon.proofs.TestLaws.{every_each}
use Rattle.reckon.specs.Ranges.{most_side, most_bed, most_roughness, most_tolerance, most_length, most_update, most_edge, most_edition, side_fine}
use Rattle.rule.specs.Rules.{ground_fine, rules_fine}
use Rattle.rule.specs.Inner.InRange.{RulesInRange, GroundInRange}
use Rattle.rule.specs.declared.rules.Rules.{Rules}

pub rules_are : (r : Rules) → side_fine r.square_side ≡ true → rules_fine r ≡ true → RulesInRange r
unfolding side_fine rules_fine
rules_are r a b =
    let s = every_each (leb 1 r.square_side ∷ leb r.square_side most_side ∷ []) a in
    let t =
    every_each
    (leb r.tolerance most_tolerance
    ∷ leb 1 r.shortest
    ∷ leb r.shortest r.longest
    ∷ leb r.longest most_length
    ∷ leb 1 r.update
    ∷ leb r.update most_update
    ∷ leb r.edge most_edge
    ∷ leb 1 r.edition
    ∷ leb r.edition most_edition
    ∷ [])
    b in
    record {
      side_from = leb-true _ _ s.0;
      side_to = leb-true _ _ s.1.0;
      tolerance_to = leb-true _ _ t.0;
      shortest_from = leb-true _ _ t.1.0;
      shortest_to = leb-true _ _ t.1.1.0;
      longest_to = leb-true _ _ t.1.1.1.0;
      update_from = leb-true _ _ t.1.1.1.1.0;
      update_to = leb-true _ _ t.1.1.1.1.1.0;
      edge_to = leb-true _ _ t.1.1.1.1.1.1.0;
      edition_from = leb-true _ _ t.1.1.1.1.1.1.1.0;
      edition_to = leb-true _ _ t.1.1.1.1.1.1.1.1.0;
    }

pub ground_is : (bed k : ℕ) → ground_fine bed k ≡ true → GroundInRange bed k
unfolding ground_fine
ground_is bed k e =
    let t = every_each (leb bed most_bed ∷ leb 1 k ∷ leb k most_roughness ∷ []) e in
    record { bed_to = leb-true _ _ t.0; roughness_from = leb-true _ _ t.1.0; roughness_to = leb-true _ _ t.1.1.0 }
