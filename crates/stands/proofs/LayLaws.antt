-- Laws of a text as a whole: the first line that cannot be read, what it says, and what becomes of the rooms.
-- Assumes nothing.
use mathlib.Core.Path.{◌≡◌, refl, sym, ap, ap₂, ◌∙◌}
use mathlib.Core.List.{List}
use Prim.Native.Nat.{ℕ, zero, suc, ◌+◌, ◌≤◌, ◌<◌}
use native.Mathlib.Omega.{arith}
use lib.ListN.{length}
use borrow.Author.Tests.{eq-eqb, ne_eqb, le-leb, lt-leb}
use Rattle.reckon.specs.Lists.{filled}
use Rattle.reckon.proofs.TestLaws.{every_fails, each_every, refusal_here, refusal_later, passed_refusal}
use Rattle.grid.specs.Squares.{squares}
use Rattle.ledger.specs.Runs.{Plan}
use Rattle.ledger.specs.Flows.{shut}
use Rattle.hatches.specs.Log.{most_hatches}
use Rattle.stands.specs.Laying.{named_from, named_in, squares_read, lines_from, start_from, sixth, bad_after, bad_line, checks_of, saved_from, saved_in, number_of, stand_of, Water, water, water_from, water_after, depth_from, last_from}
use Rattle.stands.specs.Inner.Passing.{SquaresPassed, NamedRead}
use Rattle.stands.specs.declared.heads.Head.{Head}
use Rattle.stands.specs.declared.naming.Named.{Named}
use Rattle.stands.specs.declared.saved.Laid.{Laid}
use Rattle.stands.specs.declared.saved.Saved.{Saved}
use Rattle.stands.specs.declared.squares.Scan.{Scan}
use Rattle.stands.proofs.NameLaws.{few_of}

module _ {s : List ℕ} {a : Head} {n : Named} (k : NamedRead s a n) where
  named-in : n ≡ named_in s
  named-in = k.named_is ∙ ap (λ (x : Head). named_from s x.next most_hatches) k.head_is

  pub named-at : n.next ≡ (named_in s).next
  named-at = ap (λ (x : Named). x.next) named-in

  pub lines_few : n.lines ≤ most_hatches
  lines_few = few_of s a.next most_hatches k.named_is

  pub saved_is : (slots : ℕ) {r : Saved} → r ≡ saved_from slots a n → r ≡ saved_in slots s
  saved_is slots e = e ∙ ap₂ (saved_from slots) k.head_is named-in

  -- ---- 12

  module _ (p : Plan) where
    as_read : bad_after s p a n ≡ bad_line s p
    as_read = ap₂ (bad_after s p) k.head_is named-in

    pub bad_head : (a.bad ≡ 0 → ⊥) → a.bad ≡ bad_line s p
    unfolding bad_after
    bad_head d = sym (refusal_here _ _ (ne_eqb a.bad 0 d)) ∙ as_read

    module _ (z : a.bad ≡ 0) {r : Scan} (c : SquaresPassed s n.next p.marks (squares p.shape) r) where
      same_lines : lines_from s n.next p.marks (squares_read s n.next p.marks (squares p.shape)) ≡ r.lines
      same_lines = ap (lines_from s n.next p.marks) (sym c.count_is) ∙ sym c.lines_are

      same_start : start_from s n.next p.marks (squares_read s n.next p.marks (squares p.shape)) ≡ r.next
      same_start = ap (start_from s n.next p.marks) (sym c.count_is) ∙ sym c.next_is

      pub bad_square : r.count < squares p.shape → sixth + n.lines + r.lines ≡ bad_line s p
      unfolding bad_after
      bad_square l =
          sym
          (refusal_later _ _ (eq-eqb a.bad 0 z)
          ∙ (refusal_here _ _ (every_fails _ 0 (lt-leb (squares p.shape) (squares_read s n.next p.marks (squares p.shape)) (omega (arith, c.count_is))))
          ∙ ap (λ (x : ℕ). sixth + n.lines + x) same_lines))
          ∙ as_read

      pub bad_rest : r.next < length s → sixth + n.lines + r.lines ≡ bad_line s p
      unfolding bad_after
      bad_rest l =
          sym
          (refusal_later _ _ (eq-eqb a.bad 0 z)
          ∙ (refusal_here _ _ (every_fails _ 1 (lt-leb (length s) (start_from s n.next p.marks (squares_read s n.next p.marks (squares p.shape))) (omega (arith, same_start))))
          ∙ ap (λ (x : ℕ). sixth + n.lines + x) same_lines))
          ∙ as_read

      pub bad_none : squares p.shape ≤ r.count → length s ≤ r.next → 0 ≡ bad_line s p
      unfolding bad_after
      bad_none h g =
          sym
          (passed_refusal _ (
            eq-eqb a.bad 0 z,
            (
              each_every _ (
                le-leb (squares p.shape) (squares_read s n.next p.marks (squares p.shape)) (omega (arith, c.count_is)),
                (le-leb (length s) (start_from s n.next p.marks (squares_read s n.next p.marks (squares p.shape))) (omega (arith, same_start)), tt),
              ),
              tt,
            ),
          ))
          ∙ as_read

-- ---- what a text gives

abbrev laid : ℕ → ℕ → Saved → Laid
laid number line saved = record { number = number; line = line; saved = saved }

pub laid_same : {a b x y : ℕ} {u v : Saved} → a ≡ b → x ≡ y → u ≡ v → laid a x u ≡ laid b y v
laid_same h i j = cc

module _ (p : Plan) (inflow : List ℕ) (slots : ℕ) (s : List ℕ) {bad : ℕ} {saved : Saved} (e : bad ≡ bad_line s p) (f : saved ≡ saved_in slots s) where
  number_bad : (b c : ℕ) → (b ≡ 0 → ⊥) → 12 ≡ number_of b c
  unfolding number_of
  number_bad zero c d = absurd (d refl)
  number_bad (suc b) c d = refl

  pub laid_bad : (bad ≡ 0 → ⊥) → laid 12 bad saved ≡ stand_of p inflow slots s
  unfolding stand_of
  laid_bad d =
      let m : 12 ≡ number_of (bad_line s p) (checks_of p inflow slots s (named_in s).next (saved_in slots s)) = number_bad (bad_line s p) _ (λ z. d (e ∙ z)) in
      laid_same m e f

  number_checked : (b c : ℕ) → b ≡ 0 → c ≡ number_of b c
  unfolding number_of
  number_checked b c z = rw z

  pub laid_checked : bad ≡ 0 → {q number : ℕ} → q ≡ (named_in s).next → number ≡ checks_of p inflow slots s q saved → laid number 0 saved ≡ stand_of p inflow slots s
  unfolding stand_of
  laid_checked z h g = laid_same (g ∙ (ap₂ (checks_of p inflow slots s) h f ∙ number_checked (bad_line s p) _ (sym e ∙ z))) (sym z ∙ e) f

-- ---- the rooms

module _ (p : Plan) (s : List ℕ) where
  pub water-kept : (number : ℕ) (old : Water) → (number ≡ 0 → ⊥) → old ≡ water_after p s number old
  unfolding water_after
  water-kept zero old d = absurd (d refl)
  water-kept (suc number) old d = refl

  pub water_laid : (number : ℕ) (depths lasts : List ℕ) {q : ℕ} {depths' lasts' : List ℕ} → number ≡ 0 → q ≡ (named_in s).next →
      depths' ≡ filled (squares p.shape) (shut p) (depth_from s q p.marks) depths →
      lasts' ≡ filled (squares p.shape) (shut p) (last_from s q p.marks) lasts →
      water depths' lasts' ≡ water_after p s number (water depths lasts)
  unfolding water_after water_from
  water_laid number depths lasts z h d l = rw (z, d, l, h)
