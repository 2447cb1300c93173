-- Laws of a text that stands in another: its parts stand one after the other, and a byte or a word is read exactly where it stands.
-- Assumes nothing.
use mathlib.Core.Path.{◌≡◌, refl, sym, ap, subst, ◌∙◌}
use mathlib.Core.Bool.{Bool, true}
use mathlib.Core.List.{List, [], ◌∷◌, ◌++◌, append_assoc, append-nil}
use Prim.Native.Nat.{ℕ, ◌+◌, ◌-◌, ◌≤◌, ◌<◌}
use native.Mathlib.Nat.{zero-add, add-zero}
use native.Mathlib.Numerals.{add-one}
use native.Mathlib.Omega.{arith}
use lib.Dec.{eqb}
use lib.ListN.{length, get_or, take, drop, length-append, length-drop, take-append-drop, drop_of_length-le, get_or-append}
use lib.Seq.{drop-cons, drop-drop, drop-append_seam, drop_at, get_or-drop, get_or-take, ext_get_or, length-take-le}
use borrow.Author.Tests.{eq-eqb, eqb-true}
use Rattle.std.specs.List.{starts_with}
use Rattle.std.proofs.lemmas.List.{take_all}
use Rattle.std.proofs.lemmas.Slice.Eq.{starts_is}
use Rattle.std.proofs.lemmas.Bool.Decides.{Decides-eqb}
use Rattle.reckon.proofs.TestLaws.{not_both, no_more, all_at, all_of}
use Rattle.text.specs.Reading.{is_byte, word_at, same_at}
use Rattle.text.specs.Writing.{Wrote}
use Rattle.text.specs.Inner.Standing.{StandsAt}
use Rattle.reckon.specs.Lists.{placed}
use Rattle.reckon.proofs.ListLaws.{placed-after}
use Rattle.text.proofs.ReadingLaws.{by_test, byte_here, byte_within, byte_same, word_within, word_all, word_same}

pub stands_none : (s : List ℕ) (p : ℕ) → StandsAt s p [] p
stands_none s p = record { after = sym (add-zero p); text = refl }

pub stands_both : {s t u : List ℕ} {p q r : ℕ} → StandsAt s p t q → StandsAt s q u r → StandsAt s p (t ++ u) r
stands_both {s} {t} {u} {p} {q} {r} a b =
    record {
      after = omega (arith, a.after, b.after, length-append t u);
      text = a.text ∙ (ap (λ (l : List ℕ). t ++ l) b.text ∙ sym (append_assoc t u (drop r s)));
    }

-- a text that stands, cut after t
module _ {s : List ℕ} {p r : ℕ} (t u : List ℕ) (a : StandsAt s p (t ++ u) r) where
  after_first : drop (p + length t) s ≡ u ++ drop r s
  after_first =
      sym (drop-drop (length t) p s)
      ∙ (ap (drop (length t)) (a.text ∙ append_assoc t u (drop r s)) ∙ drop-append_seam t (u ++ drop r s))

  pub stands_first : StandsAt s p t (p + length t)
  stands_first =
      record { after = refl; text = a.text ∙ (append_assoc t u (drop r s) ∙ ap (λ (l : List ℕ). t ++ l) (sym after_first)) }

  pub stands_second : StandsAt s (p + length t) u r
  stands_second = record { after = omega (arith, a.after, length-append t u); text = after_first }

-- a text stands in itself, and two texts in the two together
pub stands_whole : (s : List ℕ) → StandsAt s 0 s (length s)
stands_whole s =
    let h : length s ≤ length s = omega arith in
    record { after = omega arith; text = sym (ap (λ (l : List ℕ). s ++ l) (drop_of_length-le s h) ∙ append-nil s) }

module _ (t u : List ℕ) where
  pub front_stands : StandsAt (t ++ u) 0 t (length t)
  front_stands = subst (λ (k : ℕ). StandsAt (t ++ u) 0 t k) (zero-add (length t)) (stands_first t u (stands_whole (t ++ u)))

  pub back_stands : StandsAt (t ++ u) (length t) u (length (t ++ u))
  back_stands = subst (λ (k : ℕ). StandsAt (t ++ u) k u (length (t ++ u))) (zero-add (length t)) (stands_second t u (stands_whole (t ++ u)))

-- a text with a byte in it ends within
pub stands_within : {s : List ℕ} {p q b : ℕ} {t : List ℕ} → StandsAt s p (b ∷ t) q → q ≤ length s
stands_within {s} {p} {q} {b} {t} a =
    omega (arith, a.after, ap length a.text, length-append (b ∷ t) (drop q s), length-drop p s, length-drop q s)

pub stands_byte : (s : List ℕ) (p b : ℕ) → is_byte s p b ≡ true → StandsAt s p (b ∷ []) (p + 1)
stands_byte s p b e =
    record { after = refl; text = drop-cons s p 0 (byte_within s p b e) ∙ rw (byte_same s p b e, add-one) }

pub byte_stands : {s t : List ℕ} {p q b : ℕ} → StandsAt s p (b ∷ t) q → (get_or s p 0 ≡ b) × (is_byte s p b ≡ true)
byte_stands {s} {t} {p} {q} {b} a =
    let e : get_or s p 0 ≡ b =
    ap (λ (k : ℕ). get_or s k 0) (sym (add-zero p)) ∙ (sym (get_or-drop p s 0 0) ∙ ap (λ (l : List ℕ). get_or l 0 0) a.text) in
    let h : p < length s = omega (arith, a.after, stands_within a) in
    (e, byte_here s p b h ∙ eq-eqb _ _ e)

pub stands_word : (s : List ℕ) (p : ℕ) (word : List ℕ) → word_at s p word ≡ true → StandsAt s p word (p + length word)
stands_word s p word e =
    let h : p + length word ≤ length s = word_within s p word e in
    let long : length (take (length word) (drop p s)) ≡ length word =
    length-take-le (length word) (drop p s) (rw (length-drop p s) (omega arith)) in
    let same : take (length word) (drop p s) ≡ word =
    ext_get_or 0 (take (length word) (drop p s)) word long
    (λ i l.
    let m : i < length word = omega arith in
    get_or-take (length word) (drop p s) i 0 m
    ∙ (get_or-drop p s i 0 ∙ eqb-true _ _ (all_at (length word) (same_at s p word) (word_all s p word e) i m))) in
    record {
      after = refl;
      text =
          sym (take-append-drop (length word) (drop p s))
          ∙ (ap (λ (l : List ℕ). l ++ drop (length word) (drop p s)) same
          ∙ ap (λ (l : List ℕ). word ++ l) (drop-drop (length word) p s));
    }

pub word_stands : {s word : List ℕ} {p q : ℕ} → q ≤ length s → StandsAt s p word q → word_at s p word ≡ true
word_stands {s} {word} {p} {q} h a =
    word_same s p word (omega (arith, a.after))
    (all_of (length word) (same_at s p word)
    (λ i l.
    eq-eqb _ _
    (sym (get_or-drop p s i 0)
    ∙ (ap (λ (t : List ℕ). get_or t i 0) a.text ∙ get_or-append word (drop q s) 0 i l))))

-- a text from p on starts with the word exactly where the word stands at p
pub word_starts :
    (s : List ℕ) (p : ℕ) (word : List ℕ) → p ≤ length s → (r : Bool) →
    r ≡ starts_with eqb (take (length s - p) (drop p s)) word → r ≡ word_at s p word
word_starts s p word h r e =
    let is = starts_is Decides-eqb (drop p s) word r (rw (take_all (length s - p) (drop p s) (omega (arith, length-drop p s))) at e) in
    by_test r
    (λ t.
    let q : p + length word ≤ length s = omega (arith, ap length (is.0 t), length-append word (drop (length word) (drop p s)), length-drop p s) in
    t ∙ sym (word_stands q (record { after = refl; text = is.0 t ∙ ap (λ (l : List ℕ). word ++ l) (drop-drop (length word) p s) })))
    (λ t. t ∙ sym (no_more (word_at s p word) (λ w. not_both (is.1 _ (stands_word s p word w).text) t)))

-- what was put into a room stands there, and what follows it in the room is as it was
module _ {t old new : List ℕ} {at r : ℕ} (fits : at + length t ≤ length old) (put : Wrote t at old new r) where
  pub wrote_stands : StandsAt new at t r
  unfolding placed
  wrote_stands =
      let e : drop at new ≡ t ++ drop (length t) (drop at old) =
      ap (drop at) put.room
      ∙ drop_at (take at old) (t ++ drop (length t) (drop at old)) at (length-take-le at old (omega arith)) in
      let rest : drop (length t) (drop at old) ≡ drop r new =
      sym
      (ap (λ (k : ℕ). drop k new) put.next
      ∙ (sym (drop-drop (length t) at new)
      ∙ (ap (drop (length t)) e ∙ drop-append_seam t (drop (length t) (drop at old))))) in
      record { after = put.next; text = e ∙ ap (λ (l : List ℕ). t ++ l) rest }

  pub wrote_after : get_or new r 0 ≡ get_or old r 0
  wrote_after =
      ap (λ (l : List ℕ). get_or l r 0) put.room ∙ placed-after old at t fits r (omega (arith, put.next))
