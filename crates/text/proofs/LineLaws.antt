-- Laws of lines: a text with no newline in it and then one is a line, and each line start is found from the one before it, so that
-- carrying the position passes each byte once.
-- Assumes nothing.
use mathlib.Core.Path.{◌≡◌, refl, sym, ap, subst, ◌∙◌}
use mathlib.Core.Bool.{true}
use mathlib.Core.List.{List, [], ◌∷◌, ◌++◌, append_assoc}
use Prim.Native.Nat.{ℕ, zero, suc, ◌+◌, ◌/◌, ◌%◌, ◌<◌}
use native.Mathlib.Nat.{not-suc-le-zero, add-zero, add-suc}
use native.Mathlib.Numerals.{add-one}
use native.Mathlib.Omega.{arith}
use lib.Dec.{eqb}
use lib.ListN.{length, drop, length-append}
use borrow.Author.Tests.{ne_eqb}
use Rattle.reckon.specs.Lists.{joined}
use Rattle.reckon.proofs.TestLaws.{not_both, pick_true, pick_false}
use Rattle.text.specs.Reading.{tab, newline, line_length, next_line, line_from}
use Rattle.text.specs.Writing.{decimal, field_text, fields_text}
use Rattle.text.specs.Inner.Standing.{plain, StandsAt, LineStands}
use Rattle.text.proofs.StandLaws.{stands_none, stands_both}
use Rattle.text.proofs.ReadingLaws.{by_test, by_lt}
use Rattle.text.proofs.WritingLaws.{decimal_small, decimal_large}

-- ---- texts with no newline in them

pub plain_cons : (b : ℕ) (t : List ℕ) → (b ≡ newline → ⊥) → plain t ≡ true → plain (b ∷ t) ≡ true
unfolding plain
plain_cons b t d e = pick_false _ _ (ne_eqb b newline d) ∙ e

pub plain_both : (t u : List ℕ) → plain t ≡ true → plain u ≡ true → plain (t ++ u) ≡ true
unfolding plain
plain_both [] u e f = f
plain_both (b ∷ t) u e f =
    by_test (eqb b newline) (λ h. not_both e (pick_true _ _ h))
    (λ h. pick_false _ _ h ∙ plain_both t u (sym (pick_false _ _ h) ∙ e) f)

plain_none : plain [] ≡ true
unfolding plain
plain_none = refl

plain_under : (f n : ℕ) → n < f → plain (decimal n) ≡ true
plain_under zero n h = absurd (not-suc-le-zero h)
plain_under (suc f) n h =
    by_lt n 10 (λ l. rw (decimal_small n l) (plain_cons (48 + n) [] (λ z. omega arith) plain_none))
    (λ l.
    rw (decimal_large n l)
    (plain_both (decimal (n / 10)) ((48 + n % 10) ∷ []) (plain_under f (n / 10) (omega arith))
    (plain_cons (48 + n % 10) [] (λ z. omega arith) plain_none)))

pub plain-decimal : (n : ℕ) → plain (decimal n) ≡ true
plain-decimal n = plain_under (suc n) n (omega arith)

pub plain_fields : (vs : List ℕ) → plain (fields_text vs) ≡ true
unfolding fields_text field_text
plain_fields [] = plain_none
plain_fields (v ∷ vs) =
    plain_both (tab ∷ decimal v) (fields_text vs) (plain_cons tab (decimal v) (λ z. omega arith) (plain-decimal v))
    (plain_fields vs)

-- ---- where a line ends

plain-length : (t r : List ℕ) → plain t ≡ true → line_length (t ++ r) ≡ length t + line_length r
unfolding plain line_length
plain-length [] r e = omega arith
plain-length (b ∷ t) r e =
    by_test (eqb b newline) (λ h. not_both e (pick_true _ _ h))
    (λ h. pick_false _ _ h ∙ (ap suc (plain-length t r (sym (pick_false _ _ h) ∙ e)) ∙ omega arith))

newline-length : (r : List ℕ) → line_length (newline ∷ r) ≡ 1
unfolding line_length
newline-length r = pick_true _ _ refl

-- a text with no newline, and then one: the next line starts after it
pub line_ends : {s : List ℕ} {p q : ℕ} (t : List ℕ) → plain t ≡ true → StandsAt s p (t ++ (newline ∷ [])) q → next_line s p ≡ q
unfolding next_line
line_ends {s} {p} {q} t e a =
    let l : line_length (drop p s) ≡ length t + 1 =
    ap line_length (a.text ∙ append_assoc t (newline ∷ []) (drop q s))
    ∙ (plain-length t (newline ∷ drop q s) e ∙ ap (λ (k : ℕ). length t + k) (newline-length (drop q s))) in
    omega (arith, a.after, length-append t (newline ∷ []))

-- ---- lines one after the other

-- the position carried is the line's start: line k + 1 is found from line k alone
pub line_next : (s : List ℕ) (p k : ℕ) → line_from s p (k + 1) ≡ next_line s (line_from s p k)
unfolding line_from
line_next s p k = rw add-one

-- j lines on, and then k more
pub line_add : (s : List ℕ) (p j k : ℕ) → line_from s (line_from s p j) k ≡ line_from s p (j + k)
unfolding line_from
line_add s p j zero = rw add-zero
line_add s p j (suc k) = ap (next_line s) (line_add s p j k) ∙ rw add-suc

-- line a + i, found from line a on
pub line-from : (s : List ℕ) (a i : ℕ) {t : List ℕ} →
    StandsAt s (line_from s (line_from s 0 a) i) t (next_line s (line_from s (line_from s 0 a) i)) → LineStands s (a + i) t
unfolding line_from
line-from s a i {t} h = subst (λ (q : ℕ). StandsAt s q t (next_line s q)) (line_add s 0 a i) h

-- n lines from line a on, of which each stands in its place, stand together
pub lines_stand :
    (s : List ℕ) (a n : ℕ) (f : ℕ → List ℕ) → ((i : ℕ) → i < n → LineStands s (a + i) (f i)) →
    StandsAt s (line_from s 0 a) (joined n f) (line_from s 0 (a + n))
unfolding joined
lines_stand s a zero f h = rw add-zero (stands_none s (line_from s 0 a))
lines_stand s a (suc n) f h = rw add-suc (stands_both (lines_stand s a n f (λ i l. h i (omega arith))) (h n (omega arith)))
