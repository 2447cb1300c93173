-- Laws of the step length: the gentlest drop that counts has the least candidate, so that one root a square is enough; a length that
-- starts at the longest is the one of the list; a step lasts from 1 to 60,000 ms and never past the next multiple of U.
-- Assumes nothing.
use mathlib.Core.Path.{◌≡◌, refl, sym, ◌∙◌, ap, ap₂}
use mathlib.Core.Bool.{Bool, true, false}
use mathlib.Core.List.{List, [], ◌∷◌, ◌++◌}
use Prim.Native.Nat.{ℕ, ◌+◌, ◌*◌, ◌%◌, ◌≤◌, ◌<◌, min}
use native.Mathlib.Nat.{le_trans, mul-le-mul, mul-le-mul_left, mod-lt, min-eq_left, min-eq_right}
use native.Mathlib.Decide.{dec_le, ℕ_discrete}
use native.Mathlib.Omega.{arith}
use lib.Dec.{eqb, ltb}
use lib.ListN.{get_or}
use borrow.Author.Tests.{eq-eqb, ne_eqb, ltb-true}
use Rattle.reckon.specs.Tests.{pick}
use Rattle.reckon.proofs.TestLaws.{pick_true, pick_false, pick_both}
use Rattle.reckon.proofs.QuotientLaws.{div_mono}
use Rattle.reckon.proofs.RootLaws.{root_mono}
use Rattle.reckon.specs.Ranges.{most_length}
use Rattle.rule.specs.Inner.InRange.{RulesInRange, most_drop, DropsInRange, SquareInRange}
use Rattle.rule.specs.Weighing.{lesser_positive, least_drop, height_of, slope_of}
use Rattle.rule.specs.Length.{candidate, counts, side_candidates, candidates_of, least_from, held_between, fresh_length, is_update, length_at, duration_for}
use Rattle.rule.specs.declared.rules.Rules.{Rules}
use Rattle.rule.proofs.WeighingLaws.{slope_root, positive_first, positive_second, positive_both, positive_le}

-- ---- a step length's products fit

pub area_le : {r : Rules} {d k : ℕ} → SquareInRange r d k → 50000 * r.square_side * r.square_side ≤ 500000000
area_le {r} s =
    let a : 50000 * r.square_side ≤ 5000000 = omega arith in
    mul-le-mul a s.side_to

pub rough_area_le : {r : Rules} {d k : ℕ} → SquareInRange r d k → 50000 * r.square_side * r.square_side * k ≤ 5000000000000
rough_area_le s = mul-le-mul (area_le s) s.roughness_to

-- ---- the least of a list

pub least_none : (best : ℕ) → least_from best [] ≡ best
unfolding least_from
least_none best = refl

pub least_append : (best : ℕ) (xs ys : List ℕ) → least_from best (xs ++ ys) ≡ least_from (least_from best xs) ys
unfolding least_from
least_append best [] ys = refl
least_append best (x ∷ xs) ys = least_append (min best x) xs ys

pub least_min : (a b : ℕ) (cs : List ℕ) → least_from (min a b) cs ≡ min a (least_from b cs)
unfolding least_from
least_min a b [] = refl
least_min a b (c ∷ cs) = ap (λ (x : ℕ). least_from x cs) (omega arith) ∙ least_min a (min b c) cs

-- ---- a gentler drop has no greater candidate

slope_mono : (r : Rules) {a b : ℕ} → a ≤ b → b ≤ most_drop → slope_of r a ≤ slope_of r b
slope_mono r {a} {b} h m = root_mono (slope_root r (omega arith)) (slope_root r m) (div_mono r.square_side (omega arith))

candidate_mono : (r : Rules) (d k : ℕ) {a b : ℕ} → a ≤ b → b ≤ most_drop → candidate r d k a ≤ candidate r d k b
unfolding candidate
candidate_mono r d k h m =
    div_mono (d * height_of d) (mul-le-mul_left (50000 * r.square_side * r.square_side * k) (slope_mono r h m))

-- ---- the drops that count

counting_le : (r : Rules) {drop : ℕ} → drop ≤ most_drop → pick (counts r drop) drop 0 ≤ most_drop
counting_le r {drop} h = pick_both (λ (x : ℕ). x ≤ most_drop) (counts r drop) h (omega arith)

-- the four drops, 0 for one that does not count
abbrev counting : Rules → List ℕ → List ℕ
counting r v =
    pick (counts r (get_or v 0 0)) (get_or v 0 0) 0
    ∷ pick (counts r (get_or v 1 0)) (get_or v 1 0) 0
    ∷ pick (counts r (get_or v 2 0)) (get_or v 2 0) 0
    ∷ pick (counts r (get_or v 3 0)) (get_or v 3 0) 0
    ∷ []

-- the least of them, 0 where none counts
abbrev pub gentlest : Rules → List ℕ → ℕ
gentlest r v = least_drop (counting r v)

pub gentlest_le : (r : Rules) {v : List ℕ} → DropsInRange v → gentlest r v ≤ most_drop
unfolding least_drop
gentlest_le r o =
    positive_le (positive_le (counting_le r o.north) (counting_le r o.east)) (positive_le (counting_le r o.south) (counting_le r o.west))

-- as the code finds it
pub gentlest_made :
    (r : Rules) (v : List ℕ) {north east south west least : ℕ} →
    north ≡ pick (counts r (get_or v 0 0)) (get_or v 0 0) 0 → east ≡ pick (counts r (get_or v 1 0)) (get_or v 1 0) 0 →
    south ≡ pick (counts r (get_or v 2 0)) (get_or v 2 0) 0 → west ≡ pick (counts r (get_or v 3 0)) (get_or v 3 0) 0 →
    least ≡ least_drop (north ∷ east ∷ south ∷ west ∷ []) → least ≡ gentlest r v
gentlest_made r v n e s w l = cc

-- ---- candidates

module _ (r : Rules) (d k : ℕ) where
  -- the candidate of a counting drop; none where nothing counts
  abbrev only : ℕ → List ℕ
  only a = pick (eqb a 0) [] (candidate r d k a ∷ [])

  least_only : (best : ℕ) {a : ℕ} → (a ≡ 0 → ⊥) → least_from best (only a) ≡ min best (candidate r d k a)
  unfolding least_from
  least_only best {a} h = ap (least_from best) (pick_false _ _ (ne_eqb a 0 h))

  least_nothing : (best : ℕ) {a : ℕ} → a ≡ 0 → least_from best (only a) ≡ best
  unfolding least_from
  least_nothing best {a} e = ap (least_from best) (pick_true _ _ (eq-eqb a 0 e))

  -- of two the lesser that counts decides
  least_two : (best : ℕ) {a b : ℕ} → a ≤ most_drop → b ≤ most_drop → least_from best (only a ++ only b) ≡ least_from best (only (lesser_positive a b))
  least_two best {a} {b} h g = least_append best (only a) (only b) ∙ go (ℕ_discrete a 0) (ℕ_discrete b 0)
    where
      lesser_decides : Dec (a ≤ b) → min (min best (candidate r d k a)) (candidate r d k b) ≡ min best (candidate r d k (min a b))
      lesser_decides (yes l) = rw (min-eq_left l) (omega (arith, candidate_mono r d k l g))
      lesser_decides (no l) =
          let m : b ≤ a = omega arith in
          rw (min-eq_right m) (omega (arith, candidate_mono r d k m h))

      go : Dec (a ≡ 0) → Dec (b ≡ 0) → least_from (least_from best (only a)) (only b) ≡ least_from best (only (lesser_positive a b))
      go (yes e) y = ap (λ (x : ℕ). least_from x (only b)) (least_nothing best e) ∙ ap (λ (x : ℕ). least_from best (only x)) (sym (positive_first b e))
      go (no n) (yes e) =
          least_nothing (least_from best (only a)) e ∙ ap (λ (x : ℕ). least_from best (only x)) (sym (positive_second n e))
      go (no n) (no m) =
          ap (λ (x : ℕ). least_from x (only b)) (least_only best n)
          ∙ (least_only (min best (candidate r d k a)) m
          ∙ (lesser_decides (dec_le a b)
          ∙ (sym (least_only best {a = min a b} (λ z. n (omega arith))) ∙ ap (λ (x : ℕ). least_from best (only x)) (sym (positive_both n m)))))

  -- ---- the candidates of a square

  -- a drop that counts is above 0
  side_only : (drop : ℕ) → side_candidates r d k drop ≡ only (pick (counts r drop) drop 0)
  unfolding side_candidates counts pick
  side_only drop = go (ltb (r.tolerance * 100 * r.square_side) drop) refl
    where
      go :
          (b : Bool) → ltb (r.tolerance * 100 * r.square_side) drop ≡ b →
          pick b (candidate r d k drop ∷ []) [] ≡ only (pick b drop 0)
      go true e = sym (pick_false _ _ (ne_eqb drop 0 (λ z. omega (arith, ltb-true (r.tolerance * 100 * r.square_side) drop e))))
      go false e = refl

  module _ (best : ℕ) (v : List ℕ) where
    pub shorter_dry : d ≡ 0 → least_from best (candidates_of r d k v) ≡ best
    unfolding candidates_of least_from
    shorter_dry e = ap (least_from best) (pick_true _ _ (eq-eqb d 0 e))

    module _ (wet : d ≡ 0 → ⊥) (o : DropsInRange v) where
      gentlest_decides : least_from best (candidates_of r d k v) ≡ least_from best (only (gentlest r v))
      unfolding candidates_of least_drop
      gentlest_decides =
          let c₀ = pick (counts r (get_or v 0 0)) (get_or v 0 0) 0 in
          let c₁ = pick (counts r (get_or v 1 0)) (get_or v 1 0) 0 in
          let c₂ = pick (counts r (get_or v 2 0)) (get_or v 2 0) 0 in
          let c₃ = pick (counts r (get_or v 3 0)) (get_or v 3 0) 0 in
          ap (least_from best) (pick_false _ _ (ne_eqb d 0 wet))
          ∙ (ap (least_from best)
          (ap₂ ◌++◌ (ap₂ ◌++◌ (side_only (get_or v 0 0)) (side_only (get_or v 1 0))) (ap₂ ◌++◌ (side_only (get_or v 2 0)) (side_only (get_or v 3 0))))
          ∙ (least_append best (only c₀ ++ only c₁) (only c₂ ++ only c₃)
          ∙ (ap (λ (x : ℕ). least_from x (only c₂ ++ only c₃)) (least_two best (counting_le r o.north) (counting_le r o.east))
          ∙ (least_two (least_from best (only (lesser_positive c₀ c₁))) (counting_le r o.south) (counting_le r o.west)
          ∙ (sym (least_append best (only (lesser_positive c₀ c₁)) (only (lesser_positive c₂ c₃)))
          ∙ least_two best (positive_le (counting_le r o.north) (counting_le r o.east)) (positive_le (counting_le r o.south) (counting_le r o.west)))))))

      pub shorter_none : gentlest r v ≡ 0 → least_from best (candidates_of r d k v) ≡ best
      shorter_none e = gentlest_decides ∙ least_nothing best e

      pub shorter_some : (gentlest r v ≡ 0 → ⊥) → least_from best (candidates_of r d k v) ≡ min best (candidate r d k (gentlest r v))
      shorter_some h = gentlest_decides ∙ least_only best h

-- ---- the length: starting at the longest gives the list's

pub fresh-held : (r : Rules) (cs : List ℕ) → r.shortest ≤ r.longest → held_between r (least_from r.longest cs) ≡ fresh_length r cs
unfolding held_between fresh_length least_from
fresh-held r [] h = omega arith
fresh-held r (c ∷ cs) h = omega (arith, least_min r.longest c cs)

pub fresh_from : (r : Rules) (cs : List ℕ) → r.shortest ≤ r.longest → r.shortest ≤ fresh_length r cs
unfolding held_between fresh_length
fresh_from r [] h = h
fresh_from r (c ∷ cs) h = omega arith

pub fresh_to : (r : Rules) (cs : List ℕ) → r.shortest ≤ r.longest → fresh_length r cs ≤ r.longest
unfolding held_between fresh_length
fresh_to r [] h = omega arith
fresh_to r (c ∷ cs) h = omega arith

-- the length after a step is in range where the one held was
pub length_from : (r : Rules) (clock held : ℕ) (cs : List ℕ) → RulesInRange r → 1 ≤ held → 1 ≤ length_at r clock held cs
unfolding length_at
length_from r clock held cs o h =
    pick_both (λ (x : ℕ). 1 ≤ x) (is_update r clock) (le_trans o.shortest_from (fresh_from r cs o.shortest_to)) h

pub length_to : (r : Rules) (clock held : ℕ) (cs : List ℕ) → RulesInRange r → held ≤ most_length → length_at r clock held cs ≤ most_length
unfolding length_at
length_to r clock held cs o h =
    pick_both (λ (x : ℕ). x ≤ most_length) (is_update r clock) (le_trans (fresh_to r cs o.shortest_to) o.longest_to) h

-- ---- how long a step lasts

pub lasts_from : (r : Rules) (clock length : ℕ) → 0 < r.update → 1 ≤ length → 1 ≤ duration_for r clock length
unfolding duration_for
lasts_from r clock length u h = omega (arith, mod-lt clock u)

pub lasts_to : (r : Rules) (clock length : ℕ) → duration_for r clock length ≤ length
unfolding duration_for
lasts_to r clock length = omega arith

-- never past the next multiple of U
pub lasts_within : (r : Rules) (clock length : ℕ) → 0 < r.update → clock % r.update + duration_for r clock length ≤ r.update
unfolding duration_for
lasts_within r clock length u = omega (arith, mod-lt clock u)
