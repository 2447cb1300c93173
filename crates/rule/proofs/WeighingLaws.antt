-- Laws of the weighing: how large each part can be, that m may be held to d first, that a greater height or slope lets no less through, and what
-- every use above rests on, whatever the edition: the four sum to at most the depth, and a side without a drop sends nothing.
-- Assumes nothing.
use mathlib.Core.Path.{◌≡◌, refl, sym, ◌∙◌, ap}
use mathlib.Core.Bool.{Bool, true, false, ◌||◌}
use mathlib.Core.List.{List, [], ◌∷◌}
use Prim.Native.Nat.{ℕ, zero, suc, ◌+◌, ◌*◌, ◌/◌, ◌^◌, ◌≤◌, ◌<◌, min}
use native.Mathlib.Nat.{le_trans, mul-le-mul, mul-le-mul_left, mul-le-mul_right, div-le_self, div-mul-le_self, mul-add, add-mul, mul-zero, zero-mul, mul_comm, mul_assoc, mul_left_comm, mul-div_cancel, mul-div-mul_right, le_of_mul-le-mul_right, min-eq_left, min-eq_right, le-div_iff_mul-le, zero-div}
use native.Mathlib.Decide.{dec_le, ℕ_discrete}
use native.Mathlib.Omega.{arith}
use lib.Dec.{eqb, leb}
use lib.ListN.{get_or}
use borrow.Author.Tests.{eq-eqb, ne_eqb, leb-true, leb-false, le-leb, lt-leb}
use Rattle.reckon.specs.Tests.{pick}
use Rattle.reckon.specs.Numbers.{held_part}
use Rattle.reckon.specs.Roots.{Root}
use Rattle.reckon.proofs.TestLaws.{pick_true, pick_false, pick_both, pick_ap}
use Rattle.reckon.proofs.QuotientLaws.{div_mono, le_scaled}
use Rattle.reckon.proofs.RootLaws.{square, root_is, root_right, root_le, root_over, root_least, root_most}
use Rattle.reckon.specs.Ranges.{most_depth}
use Rattle.rule.specs.Weighing.{lesser_positive, least_drop, greatest_drop, drop_sum, height_of, slope_of, critical_speed, manning_speed, speed_of, most_through, total_of, through_sides, nothing_unless, directed_edition, unlimited_edition, weighted_sides, directed_amount, directed_amounts, four_of, scaled_to, directed_sides, unlimited_total, unlimited_sides, weighed}
use Rattle.rule.specs.Inner.Totals.{speed_by, most_by, limit_of, total_with, total_by, half_of}
use Rattle.rule.specs.Inner.InRange.{most_drop, most_slope, DropsInRange}
use Rattle.rule.specs.declared.rules.Rules.{Rules}

-- ---- the three roots: what the functions give, and how large they are

pub height_is : {d r : ℕ} → d ≤ most_depth → Root 3 (d * d) r → r ≡ height_of d
unfolding height_of
height_is h a = root_is (omega arith) (omega (arith, mul-le-mul h h)) a

pub height_le : {d : ℕ} → d ≤ most_depth → height_of d ≤ 215443
unfolding height_of
height_le {d} h = root_le 215443 (root_right 3 (d * d) (omega arith) (omega (arith, mul-le-mul h h))) (omega (arith, mul-le-mul h h))

-- a number whose cube is at most the depth's square is at most the height
pub height_low : {d : ℕ} (b : ℕ) → d ≤ most_depth → b ^ 3 ≤ d * d → b ≤ height_of d
unfolding height_of
height_low {d} b h low = root_least b (root_right 3 (d * d) (omega arith) (omega (arith, mul-le-mul h h))) low

-- water has a height
pub height_pos : {d : ℕ} → d ≤ most_depth → 0 < d → 0 < height_of d
unfolding height_of
height_pos {d} h pos = root_over 3 0 (root_right 3 (d * d) (omega arith) (omega (arith, mul-le-mul h h))) (omega (arith, mul-le-mul pos pos))

pub slope_is : (r : Rules) {drop s : ℕ} → drop ≤ most_drop → Root 2 (100 * drop / r.square_side) s → s ≡ slope_of r drop
unfolding slope_of
slope_is r {drop} h a = root_is (omega arith) (omega (arith, div-le_self (100 * drop) r.square_side)) a

pub slope_root : (r : Rules) {drop : ℕ} → drop ≤ most_drop → Root 2 (100 * drop / r.square_side) (slope_of r drop)
unfolding slope_of
slope_root r {drop} h = root_right 2 _ (omega arith) (omega (arith, div-le_self (100 * drop) r.square_side))

pub slope_le : (r : Rules) {drop : ℕ} → drop ≤ most_drop → slope_of r drop ≤ most_slope
slope_le r {drop} h = root_le most_slope (slope_root r h) (omega (arith, div-le_self (100 * drop) r.square_side))

pub slope_low : (r : Rules) {drop : ℕ} (b : ℕ) → drop ≤ most_drop → b ^ 2 ≤ 100 * drop / r.square_side → b ≤ slope_of r drop
slope_low r b h low = root_least b (slope_root r h) low

pub critical_is : {d s : ℕ} → d ≤ most_depth → Root 2 (9810000 * d) s → s ≡ critical_speed d
unfolding critical_speed
critical_is h a = root_is (omega arith) (omega arith) a

critical_root : {d : ℕ} → d ≤ most_depth → Root 2 (9810000 * d) (critical_speed d)
unfolding critical_speed
critical_root h = root_right 2 _ (omega arith) (omega arith)

critical_le : {d : ℕ} → d ≤ most_depth → critical_speed d ≤ 31320919
critical_le h = root_le 31320919 (critical_root h) (omega arith)

-- ---- the speed by a height and a slope, and that greater ones have no lesser speed

pub speed_le : {d : ℕ} (h s k : ℕ) → d ≤ most_depth → speed_by d h s k ≤ 31320919
unfolding speed_by
speed_le h s k deep = omega (arith, critical_le deep)

-- which is the smaller, told by the square of Manning's
module _ (d h s k : ℕ) {b : Bool} (deep : d ≤ most_depth) (told : b ≡ leb (100 * h * s / k * (100 * h * s / k)) (9810000 * d)) where
  pub manning_smaller : b ≡ true → 100 * h * s / k ≡ speed_by d h s k
  unfolding speed_by
  manning_smaller e =
      let v : ℕ = 100 * h * s / k in
      let low : v ≤ critical_speed d = root_least v (critical_root deep) (rw (square v) (leb-true _ _ (sym told ∙ e))) in
      omega (arith, low)

  pub critical_smaller : {c : ℕ} → b ≡ false → c ≡ critical_speed d → c ≡ speed_by d h s k
  unfolding speed_by
  critical_smaller e ec =
      let v : ℕ = 100 * h * s / k in
      let high : critical_speed d ≤ v = root_most v (critical_root deep) (rw (square v) (leb-false _ _ (sym told ∙ e))) in
      omega (arith, high, ec)

speed_mono : (d k : ℕ) {h g s t : ℕ} → h ≤ g → s ≤ t → speed_by d h s k ≤ speed_by d g t k
unfolding speed_by
speed_mono d k high steep = omega (arith, div_mono k (mul-le-mul (mul-le-mul_left 100 high) steep))

module _ (r : Rules) (d k ms : ℕ) where
  pub most_le : (h s : ℕ) → most_by r d h s k ms ≤ d
  unfolding most_by
  most_le h s = omega arith

  pub most_made : (h s : ℕ) {v x : ℕ} → v ≡ speed_by d h s k → x ≡ held_part d (v * ms) (r.square_side * 10 ^ 9) → x ≡ most_by r d h s k ms
  unfolding most_by held_part
  most_made h s ev ex = ex ∙ rw ev

  most_mono : {h g s t : ℕ} → h ≤ g → s ≤ t → most_by r d h s k ms ≤ most_by r d g t k ms
  unfolding most_by
  most_mono high steep =
      omega (arith, div_mono (r.square_side * 10 ^ 9) (mul-le-mul_right d (mul-le-mul_right ms (speed_mono d k high steep))))

  -- by the height and the slope themselves it is the document's m, held to d
  pub most_whole : (drop : ℕ) {h s x : ℕ} → h ≡ height_of d → s ≡ slope_of r drop → x ≡ most_by r d h s k ms → x ≡ min d (most_through r d k ms drop)
  unfolding most_by speed_by most_through speed_of manning_speed
  most_whole drop eh es ex = ex ∙ rw (eh, es)

  -- .. and by lesser ones no more
  pub most_low :
      (drop : ℕ) {h s x : ℕ} → h ≤ height_of d → s ≤ slope_of r drop → x ≡ most_by r d h s k ms → x ≤ min d (most_through r d k ms drop)
  most_low drop high steep ex = omega (arith, ex, most_mono high steep, most_whole drop refl refl refl)

-- ---- m may be held to d first

held : (d m t v : ℕ) → 0 < v → v ≤ t → Dec (m ≤ d) → min d (min d m * t / v) ≡ min d (m * t / v)
held d m t v pos le (yes h) = ap (λ (x : ℕ). min d (x * t / v)) (min-eq_right h)
held d m t v pos le (no h) =
    let l : d ≤ m = omega arith in
    rw (min-eq_left l) (omega (arith, le_scaled d pos le, div_mono v (mul-le-mul_right t l)))

hold : (d m t v q : ℕ) → 0 < v → v ≤ t → min d (min (min d m * t / v) q) ≡ min d (min (m * t / v) q)
hold d m t v q pos le = omega (arith, held d m t v pos le (dec_le m d))

-- ---- the least positive drop

pub positive_first : (b : ℕ) {a : ℕ} → a ≡ 0 → lesser_positive a b ≡ b
unfolding lesser_positive
positive_first b {a} e = pick_true _ _ (eq-eqb a 0 e)

pub positive_second : {a b : ℕ} → (a ≡ 0 → ⊥) → b ≡ 0 → lesser_positive a b ≡ a
unfolding lesser_positive
positive_second {a} {b} h e = pick_false _ _ (ne_eqb a 0 h) ∙ pick_true _ _ (eq-eqb b 0 e)

pub positive_both : {a b : ℕ} → (a ≡ 0 → ⊥) → (b ≡ 0 → ⊥) → lesser_positive a b ≡ min a b
unfolding lesser_positive
positive_both {a} {b} h g = pick_false _ _ (ne_eqb a 0 h) ∙ pick_false _ _ (ne_eqb b 0 g)

pub positive_le : {a b m : ℕ} → a ≤ m → b ≤ m → lesser_positive a b ≤ m
unfolding lesser_positive
positive_le {a} {b} {m} h g = pick_both (λ (x : ℕ). x ≤ m) (eqb a 0) g (pick_both (λ (x : ℕ). x ≤ m) (eqb b 0) h (omega arith))

-- ---- bounds of the drops' parts

pub least_le : {v : List ℕ} → DropsInRange v → least_drop v ≤ most_drop
unfolding least_drop
least_le o = positive_le (positive_le o.north o.east) (positive_le o.south o.west)

pub greatest_le : {v : List ℕ} → DropsInRange v → greatest_drop v ≤ most_drop
unfolding greatest_drop
greatest_le o = omega arith

pub sum_le : {v : List ℕ} → DropsInRange v → drop_sum v ≤ 5 * most_drop
unfolding drop_sum
sum_le o = omega (arith, least_le o)

pub greatest_sum : (v : List ℕ) → greatest_drop v ≤ drop_sum v
unfolding greatest_drop drop_sum
greatest_sum v = omega arith

pub total_le : (r : Rules) (d p k ms : ℕ) (v : List ℕ) → total_by r d p k ms v ≤ d
unfolding total_by total_of unlimited_total
total_le r d p k ms v = pick_both (λ (x : ℕ). x ≤ d) (eqb r.edition unlimited_edition) (omega arith) (omega arith)

-- ---- the total, with m held to d first

-- m·T / VM is 2·m where T is twice VM
pub by_twice : (most : ℕ) {sum steepest : ℕ} → 0 < steepest → sum ≡ 2 * steepest → 2 * most ≡ most * sum / steepest
by_twice most {sum} {steepest} pos e =
    sym
    (ap (λ (x : ℕ). x / steepest) (ap (λ (x : ℕ). most * x) e ∙ (mul_left_comm most 2 steepest ∙ sym (mul_assoc 2 most steepest)))
    ∙ mul-div_cancel (2 * most) pos)

-- the limit's cases as the code has them
module _ (r : Rules) (d p least : ℕ) where
  pub limit_third : r.edition ≡ unlimited_edition → d ≡ limit_of r d p least
  unfolding limit_of
  limit_third third = sym (pick_true _ _ (eq-eqb _ _ third))

  pub limit_other : {x : ℕ} → (r.edition ≡ unlimited_edition → ⊥) → x ≡ min d (least + p) → x ≡ limit_of r d p least
  unfolding limit_of
  limit_other other e = e ∙ sym (pick_false _ _ (ne_eqb _ _ other))

  pub limit_le : limit_of r d p least ≤ d
  unfolding limit_of
  limit_le = pick_both (λ (x : ℕ). x ≤ d) (eqb r.edition unlimited_edition) (omega arith) (omega arith)

  limit_both : (x : ℕ) → min (limit_of r d p least) x ≡ pick (eqb r.edition unlimited_edition) (min d x) (min d (min x (least + p)))
  unfolding limit_of
  limit_both x =
      pick_ap (λ (t : ℕ). min t x) (eqb r.edition unlimited_edition) d (min d (least + p))
      ∙ ap (λ (t : ℕ). pick (eqb r.edition unlimited_edition) (min d x) t) (omega arith)

-- the total's cases as the code has them: the limit, where a bound of the most from below reaches it, and else by the most itself
module _ (r : Rules) (d p k ms steepest least sum : ℕ) {limit : ℕ} (el : limit ≡ limit_of r d p least) where
  pub total_early :
      {m : ℕ} → 0 < steepest → m ≤ min d (most_through r d k ms steepest) → limit * steepest ≤ m * sum →
      limit ≡ total_with r d p k ms steepest least sum
  unfolding total_with
  total_early pos low reached = omega (arith, el, (le-div_iff_mul-le pos).1 (le_trans reached (mul-le-mul_right sum low)))

  pub total_late :
      {h s m x all : ℕ} → h ≡ height_of d → s ≡ slope_of r steepest → m ≡ most_by r d h s k ms → x ≡ m * sum / steepest → all ≡ min limit x →
      all ≡ total_with r d p k ms steepest least sum
  unfolding total_with
  total_late eh es em ex ea = ea ∙ rw (el, ex, most_whole r d k ms steepest eh es em)

-- the document's total, by the parts as the code names them
module _ (r : Rules) (d p k ms : ℕ) (v : List ℕ) where
  pub total_made :
      {steepest least sum all : ℕ} → 0 < greatest_drop v → steepest ≡ greatest_drop v → least ≡ least_drop v → sum ≡ drop_sum v →
      all ≡ total_with r d p k ms steepest least sum → all ≡ total_by r d p k ms v
  unfolding total_with total_by total_of unlimited_total
  total_made some eg el es ea =
      let m : ℕ = most_through r d k ms (greatest_drop v) in
      ea ∙ rw (
        eg,
        el,
        es,
        limit_both r d p (least_drop v) (min d m * drop_sum v / greatest_drop v),
        held d m (drop_sum v) (greatest_drop v) some (greatest_sum v) (dec_le m d),
        hold d m (drop_sum v) (greatest_drop v) (least_drop v + p) some (greatest_sum v),
      )

-- ---- one side alone has a drop

-- of two of which at most one is positive the least positive is their sum
positive_one : (a b : ℕ) → ((a ≡ 0 → ⊥) → b ≡ 0) → lesser_positive a b ≡ a + b
positive_one a b one = go (ℕ_discrete a 0)
  where
    go : Dec (a ≡ 0) → lesser_positive a b ≡ a + b
    go (yes e) = omega (arith, positive_first b e)
    go (no h) = omega (arith, positive_second h (one h), one h)

pub none_through : (a t : ℕ) → a * 0 / t ≡ 0
none_through a t = rw (mul-zero a) (zero-div t)

-- its share of a total, and that of a side without a drop
half_share : (a g drop : ℕ) → 0 < g → ((drop ≡ 0 → ⊥) → drop ≡ g) → half_of a drop ≡ a * drop / (2 * g)
unfolding half_of
half_share a g drop pos one = go (ℕ_discrete drop 0)
  where
    go : Dec (drop ≡ 0) → pick (eqb drop 0) 0 (a / 2) ≡ a * drop / (2 * g)
    go (yes e) = pick_true _ _ (eq-eqb drop 0 e) ∙ sym (ap (λ (x : ℕ). a * x / (2 * g)) e ∙ none_through a (2 * g))
    go (no h) = pick_false _ _ (ne_eqb drop 0 h) ∙ sym (ap (λ (x : ℕ). a * x / (2 * g)) (one h) ∙ mul-div-mul_right a 2 pos)

module _ (v : List ℕ) (one : four_of v ≡ greatest_drop v) where
  one_least : least_drop v ≡ greatest_drop v
  unfolding least_drop greatest_drop
  one_least =
      rw (
        positive_one (get_or v 0 0) (get_or v 1 0) (λ h. omega (arith, one, h)),
        positive_one (get_or v 2 0) (get_or v 3 0) (λ h. omega (arith, one, h)),
        positive_one (get_or v 0 0 + get_or v 1 0) (get_or v 2 0 + get_or v 3 0) (λ h. omega (arith, one, h)),
      ) (omega (arith, one))

  one_sum : drop_sum v ≡ 2 * greatest_drop v
  unfolding drop_sum
  one_sum = omega (arith, one, one_least)

  pub one_through :
      (a : ℕ) {n e s w : ℕ} → 0 < greatest_drop v → n ≡ half_of a (get_or v 0 0) → e ≡ half_of a (get_or v 1 0) → s ≡ half_of a (get_or v 2 0) →
      w ≡ half_of a (get_or v 3 0) → n ∷ e ∷ s ∷ w ∷ [] ≡ through_sides a v
  unfolding through_sides greatest_drop
  one_through a pos en ee es ew =
      rw (
        en,
        ee,
        es,
        ew,
        one_sum,
        half_share a (greatest_drop v) (get_or v 0 0) pos (λ h. omega (arith, one, h)),
        half_share a (greatest_drop v) (get_or v 1 0) pos (λ h. omega (arith, one, h)),
        half_share a (greatest_drop v) (get_or v 2 0) pos (λ h. omega (arith, one, h)),
        half_share a (greatest_drop v) (get_or v 3 0) pos (λ h. omega (arith, one, h)),
      )

-- ---- nothing leaves without water or without a drop

abbrev none : List ℕ
none = 0 ∷ 0 ∷ 0 ∷ 0 ∷ []

unless_dry : (d : ℕ) (v x : List ℕ) → d ≡ 0 → nothing_unless d v x ≡ none
unfolding nothing_unless
unless_dry d v x e = pick_true _ _ (rw (eq-eqb d 0 e))

unless_flat : (d : ℕ) (v x : List ℕ) → (d ≡ 0 → ⊥) → greatest_drop v ≡ 0 → nothing_unless d v x ≡ none
unfolding nothing_unless
unless_flat d v x h e = pick_true _ _ (rw (ne_eqb d 0 h, eq-eqb (greatest_drop v) 0 e))

unless_wet : (d : ℕ) (v x : List ℕ) → (d ≡ 0 → ⊥) → (greatest_drop v ≡ 0 → ⊥) → nothing_unless d v x ≡ x
unfolding nothing_unless
unless_wet d v x h g = pick_false _ _ (rw (ne_eqb d 0 h, ne_eqb (greatest_drop v) 0 g))

-- ---- the sum of four, and their shares

-- the shares of a total are at most it
shares_le : (a t n e s w : ℕ) → 0 < t → n + e + s + w ≤ t → a * n / t + a * e / t + a * s / t + a * w / t ≤ a
shares_le a t n e s w pos le =
    let e₁ : (a * n / t + a * e / t + a * s / t + a * w / t) * t ≡ a * n / t * t + a * e / t * t + a * s / t * t + a * w / t * t = simp add-mul in
    let e₂ : a * (n + e + s + w) ≡ a * n + a * e + a * s + a * w = simp mul-add in
    le_of_mul-le-mul_right
    (omega (
      arith,
      div-mul-le_self (a * n) t,
      div-mul-le_self (a * e) t,
      div-mul-le_self (a * s) t,
      div-mul-le_self (a * w) t,
      mul-le-mul_left a le,
    ))
    pos

through_le : (a : ℕ) (v : List ℕ) → 0 < drop_sum v → four_of (through_sides a v) ≤ a
unfolding through_sides drop_sum
through_le a v pos = shares_le a (drop_sum v) _ _ _ _ pos (omega arith)

pub through_made : (v : List ℕ) {a t : ℕ} {x : List ℕ} → a ≡ t → x ≡ through_sides a v → x ≡ through_sides t v
through_made v e ex = ex ∙ ap (λ (z : ℕ). through_sides z v) e

none_share : (a t : ℕ) → 0 * a / t ≡ 0
none_share a t = rw (zero-mul a) (zero-div t)

through_none : (a : ℕ) (v : List ℕ) (side : ℕ) → get_or v side 0 ≡ 0 → get_or (through_sides a v) side 0 ≡ 0
unfolding through_sides
through_none a v zero e = rw e (none_through a (drop_sum v))
through_none a v (suc zero) e = rw e (none_through a (drop_sum v))
through_none a v (suc (suc zero)) e = rw e (none_through a (drop_sum v))
through_none a v (suc (suc (suc zero))) e = rw e (none_through a (drop_sum v))
through_none a v (suc (suc (suc (suc side)))) e = refl

nothing : (side : ℕ) → ◌≡◌ {A = ℕ} (get_or (0 ∷ 0 ∷ 0 ∷ 0 ∷ []) side 0) 0
nothing zero = refl
nothing (suc zero) = refl
nothing (suc (suc zero)) = refl
nothing (suc (suc (suc zero))) = refl
nothing (suc (suc (suc (suc side)))) = refl

-- ---- editions 1 and 3: by a total

by_total_le : (d a : ℕ) (v : List ℕ) → a ≤ d → four_of (nothing_unless d v (through_sides a v)) ≤ d
by_total_le d a v le = go (ℕ_discrete d 0) (ℕ_discrete (greatest_drop v) 0)
  where
    go : Dec (d ≡ 0) → Dec (greatest_drop v ≡ 0) → four_of (nothing_unless d v (through_sides a v)) ≤ d
    go (yes e) x = rw (unless_dry d v (through_sides a v) e) (omega arith)
    go (no h) (yes e) = rw (unless_flat d v (through_sides a v) h e) (omega arith)
    go (no h) (no g) = rw (unless_wet d v (through_sides a v) h g) (le_trans (through_le a v (omega (arith, greatest_sum v))) le)

by_total_none : (d a : ℕ) (v : List ℕ) (side : ℕ) → get_or v side 0 ≡ 0 → get_or (nothing_unless d v (through_sides a v)) side 0 ≡ 0
unfolding nothing_unless
by_total_none d a v side e =
    pick_both (λ (l : List ℕ). get_or l side 0 ≡ 0) (eqb d 0 || eqb (greatest_drop v) 0) (nothing side) (through_none a v side e)

-- ---- edition 2: by each drop

module _ (r : Rules) (d k ms : ℕ) where
  pub directed_le : (drop : ℕ) → directed_amount r d k ms drop ≤ d
  unfolding directed_amount
  directed_le drop = pick_both (λ (x : ℕ). x ≤ d) (eqb drop 0) (omega arith) (omega arith)

  pub directed_zero : {drop : ℕ} → drop ≡ 0 → directed_amount r d k ms drop ≡ 0
  unfolding directed_amount
  directed_zero {drop} e = pick_true _ _ (eq-eqb drop 0 e)

  pub directed_some : {drop x : ℕ} → (drop ≡ 0 → ⊥) → x ≡ min d (most_through r d k ms drop) → x ≡ directed_amount r d k ms drop
  unfolding directed_amount
  directed_some {drop} h e = e ∙ sym (pick_false _ _ (ne_eqb drop 0 h))

  amounts_none : (v : List ℕ) (side : ℕ) → get_or v side 0 ≡ 0 → get_or (directed_amounts r d k ms v) side 0 ≡ 0
  unfolding directed_amounts
  amounts_none v zero e = directed_zero e
  amounts_none v (suc zero) e = directed_zero e
  amounts_none v (suc (suc zero)) e = directed_zero e
  amounts_none v (suc (suc (suc zero))) e = directed_zero e
  amounts_none v (suc (suc (suc (suc side)))) e = refl

scaled_le : (d : ℕ) (a : List ℕ) → four_of (scaled_to d a) ≤ d
unfolding scaled_to pick
scaled_le d a = go (leb (four_of a) d) refl
  where
    share : (x : ℕ) → x * d / four_of a ≡ d * x / four_of a
    share x = ap (λ (y : ℕ). y / four_of a) (mul_comm x d)

    cut : List ℕ
    cut = get_or a 0 0 * d / four_of a ∷ get_or a 1 0 * d / four_of a ∷ get_or a 2 0 * d / four_of a ∷ get_or a 3 0 * d / four_of a ∷ []

    go : (b : Bool) → leb (four_of a) d ≡ b → four_of (pick b a cut) ≤ d
    go true e = leb-true _ _ e
    go false e =
        let over : d < four_of a = leb-false _ _ e in
        rw (share (get_or a 0 0), share (get_or a 1 0), share (get_or a 2 0), share (get_or a 3 0))
        (shares_le d (four_of a) _ _ _ _ (omega arith) (omega arith))

scaled_none : (d : ℕ) (a : List ℕ) (side : ℕ) → get_or a side 0 ≡ 0 → get_or (scaled_to d a) side 0 ≡ 0
unfolding scaled_to
scaled_none d a side e = pick_both (λ (l : List ℕ). get_or l side 0 ≡ 0) (leb (four_of a) d) e (cut side e)
  where
    cut : (s : ℕ) → get_or a s 0 ≡ 0 →
        get_or (get_or a 0 0 * d / four_of a ∷ get_or a 1 0 * d / four_of a ∷ get_or a 2 0 * d / four_of a ∷ get_or a 3 0 * d / four_of a ∷ []) s 0 ≡ 0
    cut zero z = ap (λ (x : ℕ). x * d / four_of a) z ∙ none_share d (four_of a)
    cut (suc zero) z = ap (λ (x : ℕ). x * d / four_of a) z ∙ none_share d (four_of a)
    cut (suc (suc zero)) z = ap (λ (x : ℕ). x * d / four_of a) z ∙ none_share d (four_of a)
    cut (suc (suc (suc zero))) z = ap (λ (x : ℕ). x * d / four_of a) z ∙ none_share d (four_of a)
    cut (suc (suc (suc (suc s)))) z = refl

-- the cases as the code has them
module _ (d : ℕ) (a : List ℕ) where
  pub scaled_kept : four_of a ≤ d → a ≡ scaled_to d a
  unfolding scaled_to
  scaled_kept h = sym (pick_true _ _ (le-leb _ _ h))

  pub scaled_cut :
      {n e s w : ℕ} → d < four_of a → n ≡ get_or a 0 0 * d / four_of a → e ≡ get_or a 1 0 * d / four_of a → s ≡ get_or a 2 0 * d / four_of a →
      w ≡ get_or a 3 0 * d / four_of a → n ∷ e ∷ s ∷ w ∷ [] ≡ scaled_to d a
  unfolding scaled_to
  scaled_cut over en ee es ew = rw (en, ee, es, ew) (sym (pick_false _ _ (lt-leb _ _ over)))

-- four amounts of 0 stay
scaled_nothing : (d : ℕ) (a : List ℕ) → a ≡ none → scaled_to d a ≡ none
unfolding scaled_to
scaled_nothing d a e = rw e (pick_true _ _ (le-leb 0 d (omega arith)))

module _ (r : Rules) (d k ms : ℕ) (v : List ℕ) where
  directed_nothing : ((drop : ℕ) → drop ≤ greatest_drop v → directed_amount r d k ms drop ≡ 0) → directed_sides r d k ms v ≡ none
  unfolding directed_sides directed_amounts greatest_drop
  directed_nothing z =
      scaled_nothing d _
      (rw (z (get_or v 0 0) (omega arith), z (get_or v 1 0) (omega arith), z (get_or v 2 0) (omega arith), z (get_or v 3 0) (omega arith)))

  pub directed_made :
      {n e s w : ℕ} {x : List ℕ} → n ≡ directed_amount r d k ms (get_or v 0 0) → e ≡ directed_amount r d k ms (get_or v 1 0) →
      s ≡ directed_amount r d k ms (get_or v 2 0) → w ≡ directed_amount r d k ms (get_or v 3 0) → x ≡ scaled_to d (n ∷ e ∷ s ∷ w ∷ []) →
      x ≡ directed_sides r d k ms v
  unfolding directed_sides directed_amounts
  directed_made en ee es ew ex = ex ∙ rw (en, ee, es, ew)

  directed_dry : d ≡ 0 → directed_sides r d k ms v ≡ none
  directed_dry e = directed_nothing (λ drop h. omega (arith, directed_le r d k ms drop, e))

  directed_flat : greatest_drop v ≡ 0 → directed_sides r d k ms v ≡ none
  directed_flat e = directed_nothing (λ drop h. directed_zero r d k ms (omega (arith, e)))

-- ---- the edition chosen

module _ (r : Rules) (d p k ms : ℕ) (v : List ℕ) where
  pub weighed_directed : r.edition ≡ directed_edition → weighed r d p k ms v ≡ directed_sides r d k ms v
  unfolding weighed
  weighed_directed e = pick_true _ _ (eq-eqb _ _ e)

  -- the two that weigh by a total
  pub weighed_total : (r.edition ≡ directed_edition → ⊥) → weighed r d p k ms v ≡ nothing_unless d v (through_sides (total_by r d p k ms v) v)
  unfolding weighed weighted_sides unlimited_sides total_by
  weighed_total other =
      pick_false _ _ (ne_eqb _ _ other)
      ∙ sym (pick_ap (λ (t : ℕ). nothing_unless d v (through_sides t v)) (eqb r.edition unlimited_edition) (unlimited_total r d k ms v) (total_of r d p k ms v))

  -- demand 2's three readings
  pub weighed_weighted : r.edition ≡ 1 → weighed r d p k ms v ≡ weighted_sides r d p k ms v
  unfolding weighed
  weighed_weighted e =
      pick_false _ _ (ne_eqb r.edition directed_edition (λ (h : r.edition ≡ directed_edition). omega (arith, e, h)))
      ∙ pick_false _ _ (ne_eqb r.edition unlimited_edition (λ (h : r.edition ≡ unlimited_edition). omega (arith, e, h)))

  pub weighed_unlimited : r.edition ≡ unlimited_edition → weighed r d p k ms v ≡ unlimited_sides r d k ms v
  unfolding weighed
  weighed_unlimited e =
      pick_false _ _ (ne_eqb r.edition directed_edition (λ (h : r.edition ≡ directed_edition). omega (arith, e, h))) ∙ pick_true _ _ (eq-eqb _ _ e)

  -- ---- the cases as the code has them

  pub weighed-dry : d ≡ 0 → weighed r d p k ms v ≡ 0 ∷ 0 ∷ 0 ∷ 0 ∷ []
  weighed-dry e = go (ℕ_discrete r.edition directed_edition)
    where
      go : Dec (r.edition ≡ directed_edition) → weighed r d p k ms v ≡ none
      go (yes second) = weighed_directed second ∙ directed_dry r d k ms v e
      go (no other) = weighed_total other ∙ unless_dry d v _ e

  pub weighed_flat : (d ≡ 0 → ⊥) → greatest_drop v ≡ 0 → weighed r d p k ms v ≡ 0 ∷ 0 ∷ 0 ∷ 0 ∷ []
  weighed_flat h e = go (ℕ_discrete r.edition directed_edition)
    where
      go : Dec (r.edition ≡ directed_edition) → weighed r d p k ms v ≡ none
      go (yes second) = weighed_directed second ∙ directed_flat r d k ms v e
      go (no other) = weighed_total other ∙ unless_flat d v _ h e

  pub weighed_made :
      {x : List ℕ} → (d ≡ 0 → ⊥) → (greatest_drop v ≡ 0 → ⊥) → (r.edition ≡ directed_edition → ⊥) → x ≡ through_sides (total_by r d p k ms v) v →
      x ≡ weighed r d p k ms v
  weighed_made h g other ex = ex ∙ sym (weighed_total other ∙ unless_wet d v _ h g)

  -- ---- what every use above rests on, of every edition

  -- the four sum to at most the depth
  pub weighed_le : four_of (weighed r d p k ms v) ≤ d
  unfolding directed_sides
  weighed_le = go (ℕ_discrete r.edition directed_edition)
    where
      go : Dec (r.edition ≡ directed_edition) → four_of (weighed r d p k ms v) ≤ d
      go (yes second) = rw (weighed_directed second) (scaled_le d (directed_amounts r d k ms v))
      go (no other) = rw (weighed_total other) (by_total_le d (total_by r d p k ms v) v (total_le r d p k ms v))

  -- a side without a drop sends nothing
  pub weighed_none : (side : ℕ) → get_or v side 0 ≡ 0 → get_or (weighed r d p k ms v) side 0 ≡ 0
  unfolding directed_sides
  weighed_none side e = go (ℕ_discrete r.edition directed_edition)
    where
      go : Dec (r.edition ≡ directed_edition) → get_or (weighed r d p k ms v) side 0 ≡ 0
      go (yes second) = rw (weighed_directed second) (scaled_none d (directed_amounts r d k ms v) side (amounts_none r d k ms v side e))
      go (no other) = rw (weighed_total other) (by_total_none d (total_by r d p k ms v) v side e)
