-- Laws of spaces, and of one test.
-- Assumes nothing.
use mathlib.Core.Path.{◌≡◌, refl, sym, ap, ◌∙◌}
use mathlib.Core.Bool.{Bool, true, false, ◌&&◌}
use mathlib.Core.List.{List, [], ◌∷◌}
use Prim.Native.Nat.{ℕ, suc, ◌+◌, ◌<◌}
use native.Mathlib.Numerals.{add-one}
use native.Mathlib.Omega.{arith}
use lib.ListN.{length, get_or, drop, get_or-eq_default}
use lib.Seq.{drop-cons}
use borrow.Author.Tests.{ne_eqb, eqb-false}
use Rattle.reckon.proofs.TestLaws.{pick_true, pick_false}
use Rattle.text.specs.Reading.{is_byte}
use Rattle.text.specs.Inner.Standing.{StandsAt}
use Rattle.text.proofs.ReadingLaws.{by_lt, byte_here, byte_within, byte_same}
use Rattle.text.proofs.RoundTrip.{front_after}
use Rattle.raster.specs.Raster.{space, spaces_of, past_spaces}

pub spaces_none : (l : List ℕ) → (get_or l 0 0 ≡ space → ⊥) → spaces_of l ≡ 0
unfolding spaces_of
spaces_none [] h = refl
spaces_none (b ∷ l) h = pick_false _ _ (ne_eqb b space h)

spaces_cons : (l : List ℕ) → spaces_of (space ∷ l) ≡ suc (spaces_of l)
unfolding spaces_of
spaces_cons l = pick_true _ _ refl

-- one space with none after it
pub one_space : {s : List ℕ} {q r : ℕ} → StandsAt s q (space ∷ []) r → spaces_of (drop r s) ≡ 0 → past_spaces s q ≡ r
unfolding past_spaces
one_space {s} {q} {r} a h = omega (arith, ap spaces_of a.text, spaces_cons (drop r s), h, a.after)

-- what one byte more tells
module _ (s : List ℕ) (p : ℕ) where
  pub space_more : is_byte s p space ≡ true → past_spaces s (p + 1) ≡ past_spaces s p
  unfolding past_spaces
  space_more e =
      let d : drop p s ≡ space ∷ drop (p + 1) s = drop-cons s p 0 (byte_within s p space e) ∙ rw (byte_same s p space e, add-one) in
      omega (arith, ap spaces_of d, spaces_cons (drop (p + 1) s))

  pub space_stop : is_byte s p space ≡ false → past_spaces s p ≡ p
  unfolding past_spaces
  space_stop e =
      omega (
        arith,
        spaces_none (drop p s)
            (λ z.
            by_lt p (length s) (λ l. eqb-false (get_or s p 0) space (sym (byte_here s p space l) ∙ e) (sym (front_after s p) ∙ z))
            (λ l. absurd (omega (arith, sym (front_after s p) ∙ z, get_or-eq_default s 0 l)))),
      )

pub past_more : (s : List ℕ) (q : ℕ) → is_byte s q space ≡ true → q < past_spaces s q
unfolding past_spaces
past_more s q e = let z = space_more s q e in omega (arith, z)

-- ---- tests

pub and_no : (a b : Bool) → a ≡ false → (a && b) ≡ false
and_no a b e = rw e
