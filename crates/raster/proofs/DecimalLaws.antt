-- Laws of decimals read one by one.
-- Assumes nothing.
use mathlib.Core.Path.{◌≡◌, refl, sym, ap, subst, ◌∙◌}
use mathlib.Core.List.{List, [], ◌∷◌}
use Prim.Native.Nat.{ℕ, zero, suc, ◌+◌, ◌-◌, ◌*◌, ◌^◌, ◌≤◌, ◌<◌, min}
use native.Mathlib.Nat.{add-zero, pow-suc}
use native.Mathlib.Numerals.{add-one}
use native.Mathlib.Omega.{arith}
use lib.ListN.{length, get_or, drop, length-drop, get_or-eq_default}
use lib.Seq.{get_or-drop}
use Rattle.reckon.specs.Lists.{tabulate}
use Rattle.reckon.proofs.TestLaws.{pick_true, pick_false}
use Rattle.text.specs.Reading.{is_digit, digits_of, value_from}
use Rattle.text.proofs.ReadingLaws.{by_test, by_lt, digit_high, digits_here, digits_end}
use Rattle.raster.specs.Amounts.{with_decimals}
use Rattle.raster.specs.Inner.Decimals.{NextDecimal, DecimalsAt}

-- one decimal more
tabulate_more : (n v : ℕ) (f : ℕ → ℕ) → value_from v (tabulate (suc n) f) ≡ value_from v (tabulate n f) * 10 + f n
unfolding tabulate value_from
tabulate_more zero v f = refl
tabulate_more (suc n) v f = tabulate_more n (v * 10 + f zero) (λ k. f (suc k))

decimals_more : (i v : ℕ) (ds : List ℕ) → with_decimals (i + 1) v ds ≡ with_decimals i v ds * 10 + get_or ds i 0
unfolding with_decimals
decimals_more i v ds = rw add-one (tabulate_more i v (λ k. get_or ds k 0))

decimals_none : (v : ℕ) (ds : List ℕ) → with_decimals 0 v ds ≡ v
unfolding with_decimals tabulate value_from
decimals_none v ds = refl

-- the digits from k digits on
pub digits_drop : (k : ℕ) (s : List ℕ) (p : ℕ) → k ≤ length (digits_of (drop p s)) → digits_of (drop (p + k) s) ≡ drop k (digits_of (drop p s))
digits_drop zero s p h = rw (add-zero p)
digits_drop (suc k) s p h =
    by_test (is_digit (get_or s p 0))
    (λ e.
    let d = digits_here s p e in
    let z : p + suc k ≡ p + 1 + k = omega arith in
    ap (λ (q : ℕ). digits_of (drop q s)) z ∙ (digits_drop k s (p + 1) (omega (arith, ap length d)) ∙ sym (ap (drop (suc k)) d)))
    (λ e. absurd (omega (arith, ap length (digits_end s p e))))

-- what stands after i decimals, or after all where there are fewer
module _ (s : List ℕ) (at i : ℕ) where
  abbrev ds : List ℕ
  ds = digits_of (drop at s)

  next_digit : get_or (digits_of (drop (at + min i (length ds)) s)) 0 0 ≡ get_or ds i 0
  next_digit =
      by_lt i (length ds)
      (λ l.
      let m : min i (length ds) ≡ i = omega arith in
      ap (λ (k : ℕ). get_or (digits_of (drop (at + k) s)) 0 0) m
      ∙ (ap (λ (l : List ℕ). get_or l 0 0) (digits_drop i s at (omega arith)) ∙ (get_or-drop i ds 0 0 ∙ ap (λ (k : ℕ). get_or ds k 0) (add-zero i))))
      (λ l.
      let m : min i (length ds) ≡ length ds = omega arith in
      ap (λ (k : ℕ). get_or (digits_of (drop (at + k) s)) 0 0) m
      ∙ (ap (λ (l : List ℕ). get_or l 0 0) (digits_drop (length ds) s at (omega arith))
      ∙ (get_or-drop (length ds) ds 0 0 ∙ (get_or-eq_default ds 0 (omega arith) ∙ sym (get_or-eq_default ds 0 l)))))

  next_place_lem : min i (length ds) + min 1 (length (digits_of (drop (at + min i (length ds)) s))) ≡ min (i + 1) (length ds)
  next_place_lem =
      omega (
        arith,
        ap length (digits_drop (min i (length ds)) s at (omega arith)),
        length-drop (min i (length ds)) ds,
      )

pub pow_five : (i : ℕ) → i ≤ 5 → 10 ^ i ≤ 100_000
pow_five zero h = omega arith
pow_five (suc zero) h = omega arith
pow_five (suc (suc zero)) h = omega arith
pow_five (suc (suc (suc zero))) h = omega arith
pow_five (suc (suc (suc (suc zero)))) h = omega arith
pow_five (suc (suc (suc (suc (suc zero))))) h = omega arith
pow_five (suc (suc (suc (suc (suc (suc i)))))) h = absurd (omega arith)

digit_nine : (l : List ℕ) → get_or (digits_of l) 0 0 ≤ 9
unfolding digits_of
digit_nine [] = omega arith
digit_nine (b ∷ l) =
    by_test (is_digit b) (λ e. rw (pick_true ((b - 48) ∷ digits_of l) [] e) (omega (arith, digit_high b e)))
    (λ e. rw (pick_false ((b - 48) ∷ digits_of l) [] e) (omega arith))

-- a turn of the loop: i decimals are read
pub record Sofar (s : List ℕ) (at whole i v q : ℕ) : Type 0 where
  pub reads : DecimalsAt s at whole i v q
  pub below : v < 4_294_967_296 * 10 ^ i

pub sofar_none : (s : List ℕ) (at whole : ℕ) → whole < 4_294_967_296 → Sofar s at whole 0 whole at
sofar_none s at whole h =
    record {
      reads = record { worth = sym (decimals_none whole (digits_of (drop at s))); end = omega arith };
      below = omega arith;
    }

pub sofar_more :
    {s : List ℕ} {at whole i v q w r : ℕ} → Sofar s at whole i v q → NextDecimal s v q w r → Sofar s at whole (i + 1) w r
sofar_more {s} {at} {whole} {i} {v} {q} {w} {r} a m =
    let so = a.reads in
    record {
      reads =
          record {
            worth =
                m.worth
                ∙ (ap (λ (k : ℕ). v * 10 + get_or (digits_of (drop k s)) 0 0) so.end
                ∙ (omega (arith, next_digit s at i, so.worth, decimals_more i whole (digits_of (drop at s)))));
            end = omega (arith, m.end, so.end, ap (λ (k : ℕ). length (digits_of (drop k s))) so.end, next_place_lem s at i);
          };
      below = rw (add-one i) (omega (arith, m.worth, a.below, digit_nine (drop q s), pow-suc 10 i));
    }

-- all places are read
pub sofar_all : {s : List ℕ} {at whole i places v q : ℕ} → i ≡ places → Sofar s at whole i v q → DecimalsAt s at whole places v q
sofar_all {s} {at} {whole} {v = v} {q} e a = subst (λ (k : ℕ). DecimalsAt s at whole k v q) e a.reads
