-- Laws of the steps that a time needs: the least whole number not below a quotient, and what each step takes off it. A span is the time
-- from a multiple of U to the next. The length is worked at its start and held, so that the length held before it plays no part.
-- Assumes nothing.
use mathlib.Core.Path.{◌≡◌, refl, sym, ◌∙◌, ap}
use mathlib.Core.List.{List}
use Prim.Native.Nat.{ℕ, zero, suc, ◌+◌, ◌-◌, ◌*◌, ◌/◌, ◌%◌, ◌≤◌, ◌<◌, min}
use native.Mathlib.Nat.{le_trans, suc-mul, add-mul, mul-one, mul-le-mul_left, mul-mod_left, mul-add-mod_self_right, mod-eq_of_lt, div-eq_of_lt, add-div_right, lt-div-mul-add, div-lt_iff_lt-mul, div-mul_cancel, dvd_of_mod-eq-zero, dvd-sub}
use native.Mathlib.Numerals.{add-one}
use native.Mathlib.Decide.{dec_le, ℕ_discrete}
use native.Mathlib.Omega.{arith}
use borrow.Author.Tests.{eq-eqb, ne_eqb}
use Rattle.reckon.proofs.TestLaws.{pick_true, pick_false}
use Rattle.rule.specs.Bounds.{steps_over}
use Rattle.rule.specs.Length.{fresh_length, is_update, length_at, duration_for}
use Rattle.rule.specs.Inner.InRange.{RulesInRange}
use Rattle.rule.specs.declared.rules.Rules.{Rules}
use Rattle.rule.proofs.LengthLaws.{fresh_from, fresh_to}

-- ---- the least whole number not below a quotient

module _ (time : ℕ) {length : ℕ} (pos : 1 ≤ length) where
  -- so many steps of that length last the time
  pub over_reached : time ≤ steps_over time length * length
  unfolding steps_over
  over_reached = omega (arith, lt-div-mul-add {a = time + length - 1} {b = length} pos)

  -- and no fewer do
  pub over_least : (n : ℕ) → time ≤ n * length → steps_over time length ≤ n
  unfolding steps_over
  over_least n h =
      let below : time + length - 1 < suc n * length = omega (arith, h, suc-mul n length) in
      omega (arith, (div-lt_iff_lt-mul {k = length} {x = time + length - 1} {y = suc n} pos).1 below)

  -- a step takes one off
  pub over_step : 1 ≤ time → steps_over time length ≡ suc (steps_over (time - min length time) length)
  unfolding steps_over
  over_step some = go (dec_le length time)
    where
      go : Dec (length ≤ time) → (time + length - 1) / length ≡ suc ((time - min length time + length - 1) / length)
      go (yes l) =
          let e : time + length - 1 ≡ time - min length time + length - 1 + length = omega arith in
          ap (λ (x : ℕ). x / length) e ∙ (add-div_right (time - min length time + length - 1) pos ∙ add-one _)
      go (no l) =
          let e : time + length - 1 ≡ time - 1 + length = omega arith in
          let short : time - 1 < length = omega arith in
          let done : time - min length time + length - 1 < length = omega arith in
          ap (λ (x : ℕ). x / length) e
          ∙ (add-div_right (time - 1) pos
          ∙ (add-one _ ∙ ap suc (div-eq_of_lt short ∙ sym (div-eq_of_lt done))))

pub over_none : {length : ℕ} → 1 ≤ length → steps_over 0 length ≡ 0
over_none {length} pos = omega (arith, over_least 0 pos 0 (omega arith))

-- a step lasts at least 1 ms
pub over_le : (time : ℕ) {length : ℕ} → 1 ≤ length → steps_over time length ≤ time
over_le time {length} pos = over_least time pos time (omega (arith, mul-le-mul_left time pos, mul-one time))

-- a longer step needs no more of them
pub over_longer : (time : ℕ) {a b : ℕ} → 1 ≤ a → a ≤ b → steps_over time b ≤ steps_over time a
over_longer time {a} {b} pos h =
    over_least time (le_trans pos h) (steps_over time a) (le_trans (over_reached time pos) (mul-le-mul_left (steps_over time a) h))

-- ---- where a clock stands among the spans

-- `rest` ms before a multiple of U, with so many whole spans from there to the end
pub record Stands (U end clock multiple rest spans : ℕ) : Type 0 where
  pub there : clock + rest ≡ multiple * U
  pub within : rest < U
  pub left : end ≡ (multiple + spans) * U

module _ {U end clock multiple rest spans : ℕ} (s : Stands U end clock multiple rest spans) where
  at_multiple : rest ≡ 0 → clock % U ≡ 0
  at_multiple e =
      let c : clock ≡ multiple * U = omega (arith, s.there) in
      ap (λ (x : ℕ). x % U) c ∙ mul-mod_left multiple U

  time_left : (rest ≡ 0 → ⊥) → clock % U ≡ U - rest
  time_left d = go multiple s.there
    where
      go : (m : ℕ) → clock + rest ≡ m * U → clock % U ≡ U - rest
      go zero e = absurd (d (omega arith))
      go (suc m) e =
          let c : clock ≡ m * U + (U - rest) = omega (arith, e, suc-mul m U, s.within) in
          let l : U - rest < U = omega (arith, s.within) in
          ap (λ (x : ℕ). x % U) c ∙ (mul-add-mod_self_right m U (U - rest) ∙ mod-eq_of_lt l)

  -- the end is a multiple too, so that no clock stands between the last one and the end
  pub stands_end : end ≤ clock → (rest ≡ 0) × (spans ≡ 0)
  stands_end h = go spans (s.left ∙ add-mul multiple spans U)
    where
      go : (n : ℕ) → end ≡ multiple * U + n * U → (rest ≡ 0) × (n ≡ 0)
      go zero e = (omega (arith, e, s.there), refl)
      go (suc n) e = absurd (omega (arith, e, s.there, s.within, suc-mul n U))

pub stands_start :
    {U end clock : ℕ} → 0 < U → clock % U ≡ 0 → end % U ≡ 0 → clock ≤ end → Stands U end clock (clock / U) 0 ((end - clock) / U)
stands_start {U} {end} {clock} pos c e h =
    let begin = dvd_of_mod-eq-zero U c in
    let whole = dvd-sub U (dvd_of_mod-eq-zero U e) begin in
    record {
      there = omega (arith, div-mul_cancel U begin);
      within = pos;
      left = omega (arith, h, add-mul (clock / U) ((end - clock) / U) U, div-mul_cancel U begin, div-mul_cancel U whole);
    }

-- ---- what a step leaves of both figures

module _ (r : Rules) where
  -- the most and the least steps from where a clock stands, with the length that is held there
  abbrev pub most_left : ℕ → ℕ → ℕ → ℕ
  most_left spans rest length = spans * steps_over r.update r.shortest + steps_over rest length

  abbrev pub least_left : ℕ → ℕ → ℕ → ℕ
  least_left spans rest length = spans * steps_over r.update r.longest + steps_over rest length

  -- where the clock after a step stands: the most fell by at least one, the least by at most one
  pub record Onward (end most least clock length : ℕ) : Type 0 where
    pub multiple : ℕ
    pub rest : ℕ
    pub spans : ℕ
    pub stands : Stands r.update end clock multiple rest spans
    pub most_falls : suc (most_left spans rest length) ≤ most
    pub least_falls : least ≤ suc (least_left spans rest length)

  module _ (o : RulesInRange r) {end clock multiple held : ℕ} (pos : 1 ≤ held) where
    -- a step from a multiple of U begins a span, with a length between shortest and longest
    span_begins :
        {spans length : ℕ} → Stands r.update end clock multiple 0 (suc spans) → r.shortest ≤ length → length ≤ r.longest →
        Onward end (most_left (suc spans) 0 held) (least_left (suc spans) 0 held) (clock + min length r.update) length
    span_begins {spans} {length} s from to =
        let U = r.update in
        let some : 1 ≤ length = le_trans o.shortest_from from in
        let one-off = over_step U some o.update_from in
        record {
          multiple = suc multiple;
          rest = U - min length U;
          spans = spans;
          stands =
              record {
                there = omega (arith, s.there, suc-mul multiple U);
                within = omega (arith, some, o.update_from);
                left = s.left ∙ ap (λ (x : ℕ). x * U) (omega arith);
              };
          most_falls = omega (arith, one-off, over_longer U o.shortest_from from, suc-mul spans (steps_over U r.shortest));
          least_falls = omega (arith, one-off, over_longer U some to, over_none pos, suc-mul spans (steps_over U r.longest));
        }

    -- a step within a span goes on with the length that is held
    span_goes_on :
        {rest spans : ℕ} → Stands r.update end clock multiple rest spans → (rest ≡ 0 → ⊥) →
        Onward end (most_left spans rest held) (least_left spans rest held) (clock + min held rest) held
    span_goes_on {rest} {spans} s d =
        let one-off = over_step rest pos (omega arith) in
        record {
          multiple = multiple;
          rest = rest - min held rest;
          spans = spans;
          stands = record { there = omega (arith, s.there); within = omega (arith, s.within); left = s.left };
          most_falls = omega (arith, one-off);
          least_falls = omega (arith, one-off);
        }

  -- any step before the end
  pub step_on :
      RulesInRange r → {end clock multiple rest spans held : ℕ} → 1 ≤ held → Stands r.update end clock multiple rest spans → clock < end →
      (cs : List ℕ) →
      Onward end (most_left spans rest held) (least_left spans rest held) (clock + duration_for r clock (length_at r clock held cs)) (length_at r clock held cs)
  unfolding length_at duration_for is_update
  step_on o {end} {clock} {multiple} {rest} {spans} {held} pos s l cs = go (ℕ_discrete rest 0)
    where
      U : ℕ
      U = r.update

      begins : (n : ℕ) → Stands U end clock multiple 0 n → clock % U ≡ 0 →
          Onward end (most_left n 0 held) (least_left n 0 held) (clock + duration_for r clock (length_at r clock held cs)) (length_at r clock held cs)
      begins zero t e = absurd (omega (arith, l, t.there, t.left, add-mul multiple 0 U))
      begins (suc n) t e =
          let whole : U - clock % U ≡ U = omega (arith, e) in
          rw (pick_true (fresh_length r cs) held (eq-eqb (clock % U) 0 e), whole)
          (span_begins o pos t (fresh_from r cs o.shortest_to) (fresh_to r cs o.shortest_to))

      go : Dec (rest ≡ 0) →
          Onward end (most_left spans rest held) (least_left spans rest held) (clock + duration_for r clock (length_at r clock held cs)) (length_at r clock held cs)
      go (yes e) =
          let at = at_multiple s e in
          rw e (begins spans (rw (sym e) s) at)
      go (no d) =
          let at = time_left s d in
          let some : (clock % U ≡ 0 → ⊥) = λ z. omega (arith, at, z, s.within) in
          let t : U - clock % U ≡ rest = omega (arith, at, s.within) in
          rw (pick_false (fresh_length r cs) held (ne_eqb (clock % U) 0 some), t) (span_goes_on o pos s d)
