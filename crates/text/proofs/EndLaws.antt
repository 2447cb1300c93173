-- Laws of a line's end: found byte by byte; the next line starts after its newline; a line lies in its text.
-- Assumes nothing.
use mathlib.Core.Path.{◌≡◌, refl}
use mathlib.Core.List.{List, [], ◌∷◌}
use Prim.Native.Nat.{ℕ, zero, suc, ◌+◌, ◌≤◌, ◌<◌}
use native.Mathlib.Nat.{add-zero}
use native.Mathlib.Numerals.{add-one}
use native.Mathlib.Omega.{arith}
use lib.Dec.{eqb}
use lib.ListN.{length, get_or, drop, length-drop, drop_of_length-le}
use lib.Seq.{drop-cons}
use borrow.Author.Tests.{eq-eqb, ne_eqb}
use Rattle.reckon.proofs.TestLaws.{pick_true, pick_false}
use Rattle.text.specs.Reading.{newline, line_length, next_line, line_from}
use Rattle.text.specs.Lines.{before_newline, line_end}
use Rattle.text.proofs.ReadingLaws.{by_test}

-- ---- a line's end, byte by byte

pub end-last : (s : List ℕ) (p : ℕ) → length s ≤ p → line_end s p ≡ p
unfolding line_end before_newline
end-last s p h = rw (drop_of_length-le s h, add-zero)

pub end_here : (s : List ℕ) (p : ℕ) → p < length s → get_or s p 0 ≡ newline → line_end s p ≡ p
unfolding line_end before_newline
end_here s p h e = rw (drop-cons s p 0 h, pick_true _ _ (eq-eqb (get_or s p 0) newline e), add-zero)

pub end_on : (s : List ℕ) (p : ℕ) → p < length s → (get_or s p 0 ≡ newline → ⊥) → line_end s p ≡ line_end s (p + 1)
unfolding line_end before_newline
end_on s p h d =
    let z : before_newline (drop p s) ≡ suc (before_newline (drop (p + 1) s)) =
    rw (drop-cons s p 0 h, add-one) (pick_false _ _ (ne_eqb (get_or s p 0) newline d)) in
    omega arith

-- ---- a line lies in its text

before-short : (s : List ℕ) → before_newline s ≤ length s
unfolding before_newline
before-short [] = omega arith
before-short (b ∷ rest) =
    by_test (eqb b newline) (λ e. omega (arith, pick_true 0 (suc (before_newline rest)) e))
    (λ e. omega (arith, pick_false 0 (suc (before_newline rest)) e, before-short rest))

pub end-within : (s : List ℕ) (p : ℕ) → p ≤ length s → (p ≤ line_end s p) × (line_end s p ≤ length s)
unfolding line_end
end-within s p h = (omega arith, omega (arith, before-short (drop p s), length-drop p s))

-- ---- the next line

line-length : (s : List ℕ) → (before_newline s < length s → line_length s ≡ before_newline s + 1) × (length s ≤ before_newline s → line_length s ≡ before_newline s)
unfolding before_newline line_length
line-length [] = (λ h. omega arith, λ h. refl)
line-length (b ∷ rest) =
    by_test (eqb b newline)
    (λ e.
    let z = pick_true 0 (suc (before_newline rest)) e in
    let y = pick_true 1 (suc (line_length rest)) e in
    (λ h. omega (arith, z, y), λ h. omega (arith, z)))
    (λ e.
    let z = pick_false 0 (suc (before_newline rest)) e in
    let y = pick_false 1 (suc (line_length rest)) e in
    (λ h. omega (arith, z, y, (line-length rest).0 (omega (arith, z))), λ h. omega (arith, z, y, (line-length rest).1 (omega (arith, z)))))

pub next_after : (s : List ℕ) (p : ℕ) → p ≤ length s → line_end s p < length s → next_line s p ≡ line_end s p + 1
unfolding line_end next_line
next_after s p h l = omega (arith, (line-length (drop p s)).0 (omega (arith, length-drop p s)))

pub next_last : (s : List ℕ) (p : ℕ) → p ≤ length s → length s ≤ line_end s p → next_line s p ≡ line_end s p
unfolding line_end next_line
next_last s p h l = omega (arith, (line-length (drop p s)).1 (omega (arith, length-drop p s)))

length-short : (s : List ℕ) → line_length s ≤ length s
unfolding line_length
length-short [] = omega arith
length-short (b ∷ rest) =
    by_test (eqb b newline) (λ e. omega (arith, pick_true 1 (suc (line_length rest)) e))
    (λ e. omega (arith, pick_false 1 (suc (line_length rest)) e, length-short rest))

pub next-within : (s : List ℕ) (p : ℕ) → p ≤ length s → next_line s p ≤ length s
unfolding next_line
next-within s p h = omega (arith, length-drop p s, length-short (drop p s))

-- every line starts within its text
pub start-within : (s : List ℕ) (k : ℕ) → line_from s 0 k ≤ length s
unfolding line_from
start-within s zero = omega arith
start-within s (suc k) = next-within s (line_from s 0 k) (start-within s k)
