-- What is written reads back: a number in metres, of which each decimal is written, and a whole one.
-- Assumes nothing.
use mathlib.Core.Path.{◌≡◌, refl, sym, ap, ◌∙◌}
use mathlib.Core.Bool.{true, false, ◌&&◌}
use mathlib.Core.List.{List, [], ◌∷◌, ◌++◌, append_assoc, append-nil}
use Prim.Native.Nat.{ℕ, zero, suc, ◌+◌, ◌*◌, ◌/◌, ◌%◌, ◌≤◌, ◌<◌}
use native.Mathlib.Omega.{arith}
use lib.Dec.{leb}
use lib.ListN.{length, get_or, drop, length-append}
use borrow.Author.Tests.{le-leb}
use Rattle.reckon.specs.Lists.{tabulate}
use Rattle.reckon.proofs.TestLaws.{pick_true, pick_false, and_both}
use Rattle.reckon.proofs.ListLaws.{is_tabulate}
use Rattle.text.specs.Reading.{most_number, is_byte, is_digit, digits_of, value_from, number, number_at}
use Rattle.text.specs.Writing.{decimal}
use Rattle.text.specs.Inner.Standing.{StandsAt}
use Rattle.text.specs.declared.reading.Number.{Number}
use Rattle.std.proofs.Common.{Option, None}
use native.Mathlib.Nat.{not-suc-le-zero}
use Rattle.text.proofs.ReadingLaws.{by_lt, digit_is, digit_under}
use Rattle.text.proofs.WritingLaws.{decimal_small, decimal_large, decimal-short}
use Rattle.text.proofs.StandLaws.{stands_first, stands_second, byte_stands}
use Rattle.text.proofs.RoundTrip.{number_back, digits_cons, digits_none, value_append, value_one, digits_front, front_after}
use Rattle.raster.specs.Amounts.{point, places_of, last_digits, amount_text, with_decimals, up_to_most, decimals_after, amount_at}
use Rattle.raster.specs.declared.amounts.Scale.{Scale}
use Rattle.raster.specs.declared.amounts.Scale.TheVariants.{Metres, Whole}

-- ---- the last digits of a number

-- a number without its last digits
cut : ℕ → ℕ → ℕ
cut zero n = n
cut (suc k) n = cut k (n / 10)

-- a text of k digits that make n after what is left of n without them
record Tail (k n : ℕ) (t : List ℕ) : Type 0 where
  apart : (rest : List ℕ) → digits_of (t ++ rest) ≡ digits_of t ++ digits_of rest
  long : length (digits_of t) ≡ k
  wide : length t ≡ k
  worth : value_from (cut k n) (digits_of t) ≡ n

value_none : (n : ℕ) → value_from n [] ≡ n
unfolding value_from
value_none n = refl

last_tail : (k n : ℕ) → Tail k n (last_digits k n)
unfolding last_digits cut
last_tail zero n =
    record {
      apart = λ rest. rw digits_none;
      long = ap length digits_none;
      wide = refl;
      worth = ap (value_from n) digits_none ∙ value_none n;
    }
last_tail (suc k) n =
    let h : n % 10 < 10 = omega arith in
    let ih = last_tail k (n / 10) in
    let t : List ℕ = last_digits k (n / 10) in
    let one : digits_of ((48 + n % 10) ∷ []) ≡ n % 10 ∷ [] = digits_cons (n % 10) [] h ∙ rw digits_none in
    let all : digits_of (t ++ ((48 + n % 10) ∷ [])) ≡ digits_of t ++ (n % 10 ∷ []) =
    ih.apart ((48 + n % 10) ∷ []) ∙ ap (λ (l : List ℕ). digits_of t ++ l) one in
    let z : n / 10 * 10 + n % 10 ≡ n = omega arith in
    record {
      apart = λ rest.
          ap digits_of (append_assoc t ((48 + n % 10) ∷ []) rest)
          ∙ (ih.apart ((48 + n % 10) ∷ rest)
          ∙ (ap (λ (l : List ℕ). digits_of t ++ l) (digits_cons (n % 10) rest h)
          ∙ sym (ap (λ (l : List ℕ). l ++ digits_of rest) all ∙ append_assoc (digits_of t) (n % 10 ∷ []) (digits_of rest))));
      long = ap length all ∙ (length-append (digits_of t) (n % 10 ∷ []) ∙ omega (arith, ih.long));
      wide = length-append t ((48 + n % 10) ∷ []) ∙ omega (arith, ih.wide);
      worth =
          ap (value_from (cut k (n / 10))) all
          ∙ (value_append (digits_of t) (n % 10 ∷ []) (cut k (n / 10))
          ∙ (ap (λ (v : ℕ). value_from v (n % 10 ∷ [])) ih.worth ∙ (value_one (n / 10) (n % 10) ∙ z)));
    }

cut_six : (n : ℕ) → cut 6 n ≡ n / 1_000_000
unfolding cut
cut_six n = omega arith

-- ---- a number

small_most : (n q : ℕ) → n ≤ most_number → up_to_most n q ≡ number n q
unfolding up_to_most
small_most n q h = pick_true _ _ (le-leb n most_number h)

-- all of its decimals are there
all_there : (n v : ℕ) (ds : List ℕ) → length ds ≡ 6 → value_from v ds ≡ n → with_decimals 6 v ds ≡ n
unfolding with_decimals
all_there n v ds l e = ap (value_from v) (sym (is_tabulate 6 (λ i. get_or ds i 0) ds l (λ i h. refl))) ∙ e

none_there : (n : ℕ) → with_decimals 0 n [] ≡ n
unfolding with_decimals tabulate value_from
none_there n = refl

point-alone : is_digit point ≡ false
point-alone = digit_under point (omega arith)

-- where the whole number is read, what follows it is looked at
amount_after : (k : Scale) (s : List ℕ) (p : ℕ) {q v : ℕ} → number_at s p ≡ number v q → amount_at k s p ≡ decimals_after (places_of k) s v q
unfolding amount_at
amount_after k s p {q} {v} e = rw e

-- what was written, with no digit and no point after it, reads as itself
pub amount_back :
    (k : Scale) {s : List ℕ} {p q : ℕ} (n : ℕ) → StandsAt s p (amount_text k n) q → is_digit (get_or s q 0) ≡ false →
    is_byte s q point ≡ false → n ≤ most_number → amount_at k s p ≡ number n q
unfolding amount_text decimals_after places_of
amount_back Whole {s} {p} {q} n a alone dot small =
    amount_after Whole s p (number_back n (record { stands = a; alone = alone; readable = (small, tt) }))
    ∙ (pick_false _ _ dot ∙ (ap (λ (m : ℕ). up_to_most m q) (none_there n) ∙ small_most n q small))
amount_back Metres {s} {p} {q} n a alone dot small =
    let v : ℕ = n / 1_000_000 in
    let m : ℕ = p + length (decimal v) in
    let first : StandsAt s p (decimal v) m = stands_first (decimal v) (point ∷ last_digits 6 n) a in
    let second : StandsAt s m (point ∷ last_digits 6 n) q = stands_second (decimal v) (point ∷ last_digits 6 n) a in
    let third : StandsAt s (m + 1) (last_digits 6 n) q = stands_second (point ∷ []) (last_digits 6 n) second in
    let tail = last_tail 6 n in
    let rest : digits_of (drop q s) ≡ [] = digits_front (drop q s) (ap is_digit (front_after s q) ∙ alone) in
    let ds : digits_of (drop (m + 1) s) ≡ digits_of (last_digits 6 n) =
    ap digits_of third.text ∙ (tail.apart (drop q s) ∙ rw rest (append-nil (digits_of (last_digits 6 n)))) in
    let end : m + 1 + length (digits_of (last_digits 6 n)) ≡ q = omega (arith, tail.long, tail.wide, third.after) in
    let worth : with_decimals 6 v (digits_of (last_digits 6 n)) ≡ n =
    all_there n v (digits_of (last_digits 6 n)) tail.long
    (ap (λ (x : ℕ). value_from x (digits_of (last_digits 6 n))) (sym (cut_six n)) ∙ tail.worth) in
    let few : (leb 1 (length (digits_of (last_digits 6 n))) && leb (length (digits_of (last_digits 6 n))) 6) ≡ true =
    and_both _ _ (le-leb 1 (length (digits_of (last_digits 6 n))) (omega (arith, tail.long)))
    (le-leb (length (digits_of (last_digits 6 n))) 6 (omega (arith, tail.long))) in
    amount_after Metres s p
    (number_back v
    (record {
      stands = first;
      alone = ap is_digit (byte_stands second).0 ∙ point-alone;
      readable = (omega arith, tt);
    }))
    ∙ (pick_true _ _ (byte_stands second).1
    ∙ rw (ds, end, worth) (pick_true _ _ few ∙ small_most n q small))

-- a corner: 0 with no decimals is 0
pub zero_back :
    {s : List ℕ} {p q : ℕ} → StandsAt s p (decimal 0) q → is_digit (get_or s q 0) ≡ false → is_byte s q point ≡ false →
    amount_at Metres s p ≡ number 0 q
unfolding decimals_after places_of with_decimals tabulate value_from
zero_back {s} {p} {q} a alone dot =
    amount_after Metres s p (number_back 0 (record { stands = a; alone = alone; readable = (omega arith, tt) }))
    ∙ (pick_false _ _ dot ∙ small_most 0 q (omega arith))

-- ---- a number begins with a digit

abbrev pub BeginsWithDigit : List ℕ → Type 0
BeginsWithDigit t = (rest : List ℕ) → is_digit (get_or (t ++ rest) 0 0) ≡ true

decimal_under : (f n : ℕ) → n < f → BeginsWithDigit (decimal n)
decimal_under zero n h rest = absurd (not-suc-le-zero h)
decimal_under (suc f) n h rest =
    by_lt n 10 (λ l. rw (decimal_small n l) (digit_is (48 + n) (omega arith) (omega arith)))
    (λ l.
    rw (decimal_large n l, append_assoc (decimal (n / 10)) ((48 + n % 10) ∷ []) rest)
    (decimal_under f (n / 10) (omega arith) ((48 + n % 10) ∷ rest)))

pub decimal_begins : (n : ℕ) → BeginsWithDigit (decimal n)
decimal_begins n = decimal_under (suc n) n (omega arith)

pub amount_begins : (k : Scale) (n : ℕ) → BeginsWithDigit (amount_text k n)
unfolding amount_text
amount_begins Whole n rest = decimal_begins n rest
amount_begins Metres n rest =
    rw (append_assoc (decimal (n / 1_000_000)) (point ∷ last_digits 6 n) rest)
    (decimal_begins (n / 1_000_000) ((point ∷ last_digits 6 n) ++ rest))

-- ---- how long a number is

pub last_long : (k n : ℕ) → length (last_digits k n) ≡ k
last_long k n = (last_tail k n).wide

-- at most ten digits, or four and six with a point between
pub amount_short : (k : Scale) (n : ℕ) → n ≤ most_number → length (amount_text k n) ≤ 11
unfolding amount_text
amount_short Whole n h = omega (arith, decimal-short 9 n (omega arith))
amount_short Metres n h =
    omega (
      arith,
      decimal-short 3 (n / 1_000_000) (omega arith),
      last_long 6 n,
      length-append (decimal (n / 1_000_000)) (point ∷ last_digits 6 n),
    )

-- where no whole number is read, there is no number
pub amount_none : (k : Scale) (s : List ℕ) (p : ℕ) → number_at s p ≡ None → amount_at k s p ≡ None
unfolding amount_at
amount_none k s p e = rw e

pub amount_known :
    (k : Scale) (s : List ℕ) (p : ℕ) {places n q : ℕ} {r : Option Number} → places ≡ places_of k → r ≡ decimals_after places s n q → number_at s p ≡ number n q →
    r ≡ amount_at k s p
amount_known k s p {places} {n} {q} e f g = f ∙ (ap (λ (m : ℕ). decimals_after m s n q) e ∙ sym (amount_after k s p g))
