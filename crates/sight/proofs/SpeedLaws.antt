-- Laws of speeds: two whole numbers of at most 53 bits lose nothing when cast, so their division is one rounding of the fraction.
-- Assumes nothing.
use mathlib.Core.Path.{◌≡◌, sym, ap, subst, ◌∙◌}
use mathlib.Core.Bool.{Bool, true, false, cond, true≢false}
use Prim.Native.Nat.{ℕ, zero, suc, ◌-◌, ◌*◌, ◌^◌, ◌≤◌, ◌<◌}
use native.Mathlib.Nat.{mul-one, mul-pos, zero-mul, lt_irrefl, mul_assoc, mul_comm, mul-le-mul, le_trans, zero-lt-suc}
use native.Mathlib.Omega.{arith}
use lib.Dec.{eqb, eqb-suc-zero, lit≤}
use lib.IntN.{pos}
use lib.Ieee as Ieee
use lib.Ieee.{Float, nan, inf, fin, Format, binary64, up, down}
use lib.Ieee.Exact.{HasValue}
use lib.Ieee.Back.{round_whole}
use lib.Ieee.Fits.{up_pos, down_pos}
use lib.Ieee.Scale.{round_same}
use borrow.Author.Tests.{eq-eqb, ne_eqb, lt-ltb, le-ltb}
use Rattle.reckon.proofs.TestLaws.{pick_true, pick_false}
use Rattle.sight.specs.Speeds.{zero64, quotient_of, pace, side_speed, arrow_of}
use Rattle.sight.specs.Inner.Arrows.{Ranged}
use Rattle.sight.specs.declared.speeds.Through.{Through}

-- ---- a quotient

-- where a is n whole and b is m whole, each by its own scale, the fractions of the two are the same
cross : (n m a de dd b : ℕ) → a ≡ n * de → b ≡ m * dd → a * dd * m ≡ n * (b * de)
cross n m a de dd b p q =
    ap (λ (x : ℕ). x * dd * m) p
    ∙ mul_assoc (n * de) dd m
    ∙ ap (λ (x : ℕ). n * de * x) (mul_comm dd m ∙ sym q)
    ∙ mul_assoc n de b
    ∙ ap (λ (x : ℕ). n * x) (mul_comm de b)

div-at :
    (f : Format) (x y : Float) (n m : ℕ) → 0 < m → HasValue x false n 1 → HasValue y false m 1 → Ieee.div f x y ≡ Ieee.round f false n m
unfolding Ieee.div
div-at f nan y n m h v w = absurd v
div-at f (inf s) y n m h v w = absurd v
div-at f (fin s a e) nan n m h v w = absurd w
div-at f (fin s a e) (inf t) n m h v w = absurd w
div-at f (fin true a e) (fin t b d) n m h v w = absurd (true≢false v.0)
div-at f (fin false a e) (fin true b d) n m h v w = absurd (true≢false w.0)
div-at f (fin false a e) (fin false zero d) n m h v w =
    absurd
    (lt_irrefl 0
    (subst (λ (x : ℕ). 0 < x) (sym w.1 ∙ ap (λ (x : ℕ). x * 1) (zero-mul (up d))) (mul-pos h (down_pos d))))
div-at f (fin false a e) (fin false (suc b) d) n m h v w =
    ap (λ (t : Bool). cond t (cond (eqb a 0) nan (inf false)) (Ieee.round f false (a * up e * down d) (suc b * up d * down e)))
    (eqb-suc-zero b)
    ∙ round_same f false (a * up e * down d) (suc b * up d * down e) n m
    (mul-pos (mul-pos (zero-lt-suc b) (up_pos d)) (down_pos e)) h
    (cross n m (a * up e) (down e) (down d) (suc b * up d) (sym (mul-one (a * up e)) ∙ v.1) (sym (mul-one (suc b * up d)) ∙ w.1))

pub quotient_is :
    (n m : ℕ) → n ≤ 2 ^ 53 → m ≤ 2 ^ 53 → 0 < m →
    Ieee.div binary64 (Ieee.of_int binary64 (pos n)) (Ieee.of_int binary64 (pos m)) ≡ quotient_of n m
unfolding quotient_of Ieee.of_int
quotient_is n m p q h =
    div-at binary64 (Ieee.of_int binary64 (pos n)) (Ieee.of_int binary64 (pos m)) n m h (round_whole binary64 false n p) (round_whole binary64 false m q)

-- ---- what is divided, and by what, is below 2 ^ 53

pub above_le : {D : ℕ} (x y : ℕ) → x < 2 ^ 32 → D ≤ 100 → 2000 * (x - y) * D ≤ 858_993_459_200_000
above_le x y h g = mul-le-mul {n₁ = 2000 * (x - y)} {n₂ = 8_589_934_592_000} (omega arith) g

module _ {D lasted : ℕ} {t : Through} (r : Ranged D lasted t) where
  pub below_le : t.deep * lasted ≤ 12_000_000_000_000
  below_le = mul-le-mul {n₁ = t.deep} {n₂ = 200_000_000} r.deep_to r.lasted_to

  pub below_pos : 0 < t.deep * lasted
  below_pos = mul-pos r.deep_some r.lasted_some

  -- what the quotient asks, of what left less what came back and the other way round
  pub exact :
      (x y : ℕ) → x < 2 ^ 32 → (2000 * (x - y) * D ≤ 2 ^ 53) × (t.deep * lasted ≤ 2 ^ 53) × (0 < t.deep * lasted)
  exact x y h = (le_trans (above_le x y h r.side_to) (lit≤ tt), le_trans below_le (lit≤ tt), below_pos)

-- ---- a speed: net 0, net out, net back

module _ (D lasted : ℕ) (t : Through) where
  pub speed_none : t.out ≡ t.back → side_speed D lasted t ≡ zero64
  unfolding side_speed
  speed_none e = pick_true _ _ (eq-eqb _ _ e)

  pub speed_out : (t.out ≡ t.back → ⊥) → t.back < t.out → side_speed D lasted t ≡ pace D lasted (t.out - t.back) t.deep
  unfolding side_speed
  speed_out n h = pick_false _ _ (ne_eqb _ _ n) ∙ pick_true _ _ (lt-ltb _ _ h)

  pub speed_back : (t.out ≡ t.back → ⊥) → t.out ≤ t.back → side_speed D lasted t ≡ Ieee.neg (pace D lasted (t.back - t.out) t.deep)
  unfolding side_speed
  speed_back n h = pick_false _ _ (ne_eqb _ _ n) ∙ pick_false _ _ (le-ltb _ _ h)

pub same_arrow : {a b c d x y z w : Float} → a ≡ x → b ≡ y → c ≡ z → d ≡ w → arrow_of a b c d ≡ arrow_of x y z w
same_arrow p q r s = cc
