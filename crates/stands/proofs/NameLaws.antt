-- Laws of the hatches' lines: the next line names the hatch of a place, or is left to what comes after.
-- Assumes nothing.
use mathlib.Core.Path.{◌≡◌, sym, ap, ◌∙◌}
use mathlib.Core.List.{List}
use Prim.Native.Nat.{ℕ, zero, suc, ◌+◌, ◌≤◌}
use native.Mathlib.Numerals.{add-one}
use native.Mathlib.Omega.{arith}
use Rattle.std.proofs.Common.{Option, Some, None}
use lib.ListN.{get_or}
use borrow.Author.Tests.{eq-eqb, ne_eqb}
use Rattle.reckon.proofs.TestLaws.{pick_true, pick_false, pick_both}
use Rattle.text.specs.Reading.{line_of}
use Rattle.text.specs.declared.reading.Fields.{Fields}
use Rattle.hatches.specs.Lines.{hatch_word}
use Rattle.stands.specs.Laying.{hatch_fields, hatch_added, if_hatch, with_hatch, named_from}
use Rattle.stands.specs.declared.naming.Named.{Named}

pub hatch_unfound : (s : List ℕ) (n : Named) (h : ℕ) → None ≡ line_of s n.next hatch_word hatch_fields → n ≡ with_hatch s n h
unfolding with_hatch if_hatch
hatch_unfound s n h e = ap (if_hatch n h) e

module _ (s : List ℕ) (n : Named) (h : ℕ) {f : Fields} (e : Some f ≡ line_of s n.next hatch_word hatch_fields) where
  by_fields : with_hatch s n h ≡ if_hatch n h (Some f)
  unfolding with_hatch
  by_fields = ap (if_hatch n h) (sym e)

  pub hatch_other : (get_or f.values 0 0 ≡ h + 1 → ⊥) → n ≡ with_hatch s n h
  unfolding if_hatch
  hatch_other d = sym (by_fields ∙ pick_false _ _ (ne_eqb _ _ d))

  pub hatch_here : get_or f.values 0 0 ≡ h + 1 → hatch_added n h f ≡ with_hatch s n h
  unfolding if_hatch
  hatch_here d = sym (by_fields ∙ pick_true _ _ (eq-eqb _ _ d))

-- ---- all places

pub named_next : (s : List ℕ) (q h : ℕ) {n r : Named} → n ≡ named_from s q h → r ≡ with_hatch s n h → r ≡ named_from s q (h + 1)
unfolding named_from
named_next s q h e f = f ∙ (ap (λ (n : Named). with_hatch s n h) e ∙ sym (ap (named_from s q) (add-one h)))

lines_more : (s : List ℕ) (n : Named) (h : ℕ) → (with_hatch s n h).lines ≤ n.lines + 1
unfolding with_hatch if_hatch
lines_more s n h = go (line_of s n.next hatch_word hatch_fields)
  where
    go : (f : Option Fields) → (if_hatch n h f).lines ≤ n.lines + 1
    go (Some f) = pick_both (λ (m : Named). m.lines ≤ n.lines + 1) _ (omega arith) (omega arith)
    go None = omega arith

-- a line for each at most
pub named_few : (s : List ℕ) (q h : ℕ) → (named_from s q h).lines ≤ h
unfolding named_from
named_few s q zero = omega arith
named_few s q (suc h) = omega (arith, lines_more s (named_from s q h) h, named_few s q h)

pub few_of : (s : List ℕ) (q h : ℕ) {n : Named} → n ≡ named_from s q h → n.lines ≤ h
few_of s q h e = rw e (named_few s q h)
