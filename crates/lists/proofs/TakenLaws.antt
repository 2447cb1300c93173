-- Laws of one name more: marks copied, an accepted sheet taken, and the tally and rooms after it.
-- Assumes nothing.
use mathlib.Core.Path.{◌≡◌, refl, sym, ap, subst, ◌∙◌}
use mathlib.Core.Bool.{Bool, true, false}
use mathlib.Core.List.{List, [], ◌∷◌}
use Prim.Native.Nat.{ℕ, ◌+◌, ◌≤◌, ◌<◌}
use native.Mathlib.Omega.{arith}
use lib.Dec.{eqb, ltb}
use lib.ListN.{take}
use borrow.Author.Tests.{lt-ltb, le-ltb, eq-eqb, ne_eqb}
use Rattle.reckon.specs.Tests.{pick}
use Rattle.reckon.specs.Lists.{placed}
use Rattle.reckon.proofs.TestLaws.{pick_true, pick_false}
use Rattle.grid.specs.Squares.{squares}
use Rattle.grid.specs.declared.squares.Shape.{Shape}
use Rattle.ledger.specs.Runs.{Plan, plan}
use Rattle.text.proofs.ReadingLaws.{by_test}
use Rattle.lists.specs.Names.{most_sheets}
use Rattle.lists.specs.Sheets.{File, file_number, file_peaks}
use Rattle.lists.specs.Tally.{Rooms, rooms, number_with, plan_now, tally_after, rooms_after, TakesSheet}
use Rattle.lists.specs.Inner.Judged.{Judges, Merges, TakesAccepted, one_more, full_tally}
use Rattle.lists.specs.declared.judging.Judged.{Judged}
use Rattle.lists.specs.declared.tally.Tally.{Tally}

-- ---- an accepted sheet, with a count that is the number of its squares

pub accepted_whole :
    (sheet-marks peaks marks : List ℕ) {t a : Tally} {shape : Shape} {n : ℕ} {counts deepest places marks' counts' deepest' places' : List ℕ} →
    n ≡ squares shape → marks' ≡ pick t.begun marks (placed marks 0 (take n sheet-marks)) →
    Merges (plan shape marks') t.begun t.wet (t.taken + 1) (take n peaks) counts deepest places counts' deepest' places' →
    a ≡ one_more t true shape 0 →
    TakesAccepted t shape (take (squares shape) sheet-marks) (take (squares shape) peaks) marks counts deepest places a marks' counts' deepest' places'
accepted_whole sheet-marks peaks marks {t} {shape = shape} {counts = counts} {deepest} {places} {marks'} {counts'} {deepest'} {places'} e k m g =
    record {
      tally_is = g;
      marks_are = k ∙ ap (λ (j : ℕ). pick t.begun marks (placed marks 0 (take j sheet-marks))) e;
      merges =
          subst
          (λ (j : ℕ). Merges (plan shape marks') t.begun t.wet (t.taken + 1) (take j peaks) counts deepest places counts' deepest' places')
          e m;
    }

-- ---- one name more

tally_same :
    {w w' k k' n n' : ℕ} {b b' : Bool} {s s' : Shape} → w ≡ w' → k ≡ k' → b ≡ b' → s ≡ s' → n ≡ n' →
    ◌≡◌ {A = Tally} (record { wet = w; taken = k; begun = b; shape = s; number = n })
    (record { wet = w'; taken = k'; begun = b'; shape = s'; number = n' })
tally_same e f g h i = cc

rooms_same :
    {m m' c c' d d' p p' n n' : List ℕ} → m ≡ m' → c ≡ c' → d ≡ d' → p ≡ p' → n ≡ n' → rooms m c d p n ≡ rooms m' c' d' p' n'
rooms_same e f g h i = cc

module _ (t : Tally) (f : File) (r : Rooms) where
  pub taken_none : {a : Tally} → most_sheets ≤ t.taken → a ≡ full_tally t → TakesSheet t f r a r
  unfolding tally_after rooms_after number_with
  taken_none h e =
      let no_room : ltb t.taken most_sheets ≡ false = le-ltb t.taken most_sheets h in
      let number : number_with t f r ≡ 16 = pick_false _ _ no_room in
      let some : eqb (number_with t f r) 0 ≡ false = ne_eqb (number_with t f r) 0 (λ (z : number_with t f r ≡ 0). omega (arith, z, number)) in
      record {
        tally_is =
            e
            ∙ tally_same refl (sym (pick_false _ _ no_room)) (sym (pick_false _ _ some)) (sym (pick_false _ _ some)) (sym number);
        rooms_are = sym (pick_false _ _ no_room);
      }

  module _ (l : t.taken < most_sheets) where
    has_room : ltb t.taken most_sheets ≡ true
    has_room = lt-ltb t.taken most_sheets l

    number_noted :
        {n m : ℕ} {numbers : List ℕ} → numbers ≡ placed r.numbers t.taken (n ∷ []) → n ≡ m →
        numbers ≡ placed r.numbers t.taken (m ∷ [])
    number_noted e f = e ∙ ap (λ (k : ℕ). placed r.numbers t.taken (k ∷ [])) f

    module _ {n : ℕ} (number_is : n ≡ file_number t.begun (plan t.shape r.marks) f) where
      its_number : n ≡ number_with t f r
      unfolding number_with
      its_number = number_is ∙ sym (pick_true _ _ has_room)

      pub taken_refused :
          {a : Tally} {numbers' : List ℕ} → numbers' ≡ placed r.numbers t.taken (n ∷ []) → (n ≡ 0 → ⊥) → a ≡ one_more t t.begun t.shape n →
          TakesSheet t f r a (rooms r.marks r.counts r.deepest r.places numbers')
      unfolding tally_after rooms_after
      taken_refused i d e =
          let some : eqb (number_with t f r) 0 ≡ false = ne_eqb _ _ (λ z. d (its_number ∙ z)) in
          record {
            tally_is =
                e
                ∙ tally_same refl (sym (pick_true _ _ has_room)) (sym (pick_false _ _ some)) (sym (pick_false _ _ some)) its_number;
            rooms_are = rooms_same refl refl refl refl (number_noted i its_number) ∙ sym (pick_true _ _ has_room ∙ pick_false _ _ some);
          }

    module _ {j : Judged} {sheet-marks sheet-peaks : List ℕ}
        (judged : Judges t.begun (plan t.shape r.marks) f j sheet-marks sheet-peaks) (z : j.number ≡ 0) where
      -- the plan that is kept
      plan-kept : {marks' : List ℕ} →
          marks' ≡ pick t.begun r.marks (placed r.marks 0 (take (squares j.shape) sheet-marks)) → plan j.shape marks' ≡ plan_now t f r
      plan-kept e =
          by_test t.begun
          (λ b. same (judged.like_first z b) (e ∙ pick_true _ _ b) ∙ sym (pick_true _ _ b))
          (λ b.
          same (judged.shape_is z) (e ∙ (pick_false _ _ b ∙ ap (placed r.marks 0) (judged.marks_are z))) ∙ sym (pick_false _ _ b))
        where
          same : {a a' : Shape} {m m' : List ℕ} → a ≡ a' → m ≡ m' → plan a m ≡ plan a' m'
          same p q = cc

      pub taken-accepted :
          {a : Tally} {marks' counts' deepest' places' numbers' : List ℕ} → numbers' ≡ placed r.numbers t.taken (j.number ∷ []) →
          TakesAccepted t j.shape (take (squares j.shape) sheet-marks) (take (squares j.shape) sheet-peaks) r.marks r.counts r.deepest
          r.places a marks' counts' deepest' places' →
          TakesSheet t f r a (rooms marks' counts' deepest' places' numbers')
      unfolding tally_after rooms_after
      taken-accepted {a} {marks'} {counts'} {deepest'} {places'} i k =
          record {
            tally_is =
                k.tally_is
                ∙ tally_same refl (sym (pick_true _ _ has_room)) (sym (pick_true _ _ none))
                (ap (λ (p : Plan). p.shape) kept ∙ sym (pick_true _ _ none)) (sym z ∙ its_number judged.number_is);
            rooms_are =
                rooms_same (ap (λ (p : Plan). p.marks) kept) m.counts_are m.deepest_are m.places_are (number_noted i z)
                ∙ sym (pick_true _ _ has_room ∙ pick_true _ _ none);
          }
        where
          kept : plan j.shape marks' ≡ plan_now t f r
          kept = plan-kept k.marks_are

          none : eqb (number_with t f r) 0 ≡ true
          none = eq-eqb _ _ (sym (its_number judged.number_is) ∙ z)

          m : Merges (plan_now t f r) t.begun t.wet (t.taken + 1) (file_peaks f) r.counts r.deepest r.places counts' deepest' places'
          m =
              subst (λ (p : Plan). Merges p t.begun t.wet (t.taken + 1) (file_peaks f) r.counts r.deepest r.places counts' deepest' places') kept
              (subst
              (λ (l : List ℕ). Merges (plan j.shape marks') t.begun t.wet (t.taken + 1) l r.counts r.deepest r.places counts' deepest' places')
              (judged.peaks_are z) k.merges)
