-- Laws of the list on standard input: what each byte of its names counts, and what its first line gives.
-- Assumes nothing.
use mathlib.Core.Path.{◌≡◌, sym, ap, subst, ◌∙◌}
use mathlib.Core.Bool.{Bool, true, false}
use mathlib.Core.List.{List}
use Prim.Native.Nat.{ℕ, suc, ◌+◌, ◌≤◌, ◌<◌}
use native.Mathlib.Numerals.{add-one}
use native.Mathlib.Omega.{arith}
use lib.ListN.{length, get_or, drop, drop_of_length-le}
use lib.Seq.{drop-cons}
use borrow.Author.Tests.{eq-eqb, ne_eqb}
use Rattle.reckon.specs.Tests.{pick}
use Rattle.reckon.proofs.TestLaws.{pick_true, pick_false}
use Rattle.text.specs.Reading.{newline, is_byte, with_number}
use Rattle.std.proofs.Common.{Option}
use Rattle.text.specs.declared.reading.Number.{Number}
use Rattle.lists.specs.Names.{lines_in, names_from, list_number, list_after}
use Rattle.lists.specs.declared.names.Listed.{Listed}

-- ---- names, byte by byte

module _ (s : List ℕ) (begun : Bool) (p : ℕ) where
  line_ends : p < length s → get_or s p 0 ≡ newline → lines_in begun (drop p s) ≡ suc (lines_in false (drop (p + 1) s))
  unfolding lines_in
  line_ends l e = rw (drop-cons s p 0 l, add-one p) (pick_true _ _ (eq-eqb _ _ e))

  line_goes_on : p < length s → (get_or s p 0 ≡ newline → ⊥) → lines_in begun (drop p s) ≡ lines_in true (drop (p + 1) s)
  unfolding lines_in
  line_goes_on l d = rw (drop-cons s p 0 l, add-one p) (pick_false _ _ (ne_eqb _ _ d))

  text_ends : length s ≤ p → lines_in begun (drop p s) ≡ pick begun 1 0
  unfolding lines_in
  text_ends l = rw (drop_of_length-le s l)

-- up to p: so many lines have ended, and `begun` tells of the one that p stands in
pub record Counted (s : List ℕ) (at count : ℕ) (begun : Bool) (p : ℕ) : Type 0 where
  pub within : p ≤ length s
  pub few : count ≤ p
  pub rest : names_from s at ≡ count + lines_in begun (drop p s)

pub counted_none : (s : List ℕ) (at : ℕ) → at ≤ length s → Counted s at 0 false at
counted_none s at h = record { within = h; few = omega arith; rest = omega arith }

module _ {s : List ℕ} {at count p : ℕ} {begun : Bool} (k : Counted s at count begun p) where
  pub counted-end :
      {count' : ℕ} {begun' : Bool} → p < length s → get_or s p 0 ≡ newline → count' ≡ count + 1 → begun' ≡ false → Counted s at count' begun' (p + 1)
  counted-end {count'} {begun'} l e c b =
      record {
        within = omega (arith, l);
        few = omega (arith, c, k.few);
        rest =
            subst (λ (z : Bool). names_from s at ≡ count' + lines_in z (drop (p + 1) s)) (sym b)
            (omega (arith, k.rest, c, line_ends s begun p l e));
      }

  pub counted_on :
      {count' : ℕ} {begun' : Bool} → p < length s → (get_or s p 0 ≡ newline → ⊥) → count' ≡ count → begun' ≡ true → Counted s at count' begun' (p + 1)
  counted_on {count'} {begun'} l d c b =
      record {
        within = omega (arith, l);
        few = omega (arith, c, k.few);
        rest =
            subst (λ (z : Bool). names_from s at ≡ count' + lines_in z (drop (p + 1) s)) (sym b)
            (omega (arith, k.rest, c, line_goes_on s begun p l d));
      }

  pub counted_open : length s ≤ p → begun ≡ true → count + 1 ≡ names_from s at
  counted_open l b =
      let e : lines_in begun (drop p s) ≡ 1 = text_ends s begun p l ∙ pick_true 1 0 b in
      omega (arith, k.rest, e)

  pub counted-closed : length s ≤ p → begun ≡ false → count ≡ names_from s at
  counted-closed l b =
      let e : lines_in begun (drop p s) ≡ 0 = text_ends s begun p l ∙ pick_false 1 0 b in
      omega (arith, k.rest, e)

-- ---- the first line

pub list_good :
    (s : List ℕ) (wet q : ℕ) {number names : ℕ} → is_byte s q newline ≡ true → names ≡ names_from s (q + 1) → number ≡ list_number wet names →
    ◌≡◌ {A = Listed} (record { number = number; line = 0; wet = wet; names = names }) (list_after s wet q)
unfolding list_after
list_good s wet q {number} {names} b n m =
    same n (m ∙ ap (list_number wet) n) ∙ sym (pick_true _ _ b)
  where
    same :
        {names names' number number' : ℕ} → names ≡ names' → number ≡ number' →
        ◌≡◌ {A = Listed} (record { number = number; line = 0; wet = wet; names = names })
        (record { number = number'; line = 0; wet = wet; names = names' })
    same e f = cc

pub by_number :
    (other : Listed) (f : ℕ → ℕ → Listed) {found told : Option Number} {r : Listed} → found ≡ told → r ≡ with_number told other f → r ≡ with_number found other f
by_number other f {r = r} e g = subst (λ (n : Option Number). r ≡ with_number n other f) (sym e) g
