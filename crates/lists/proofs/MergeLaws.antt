-- Laws of one accepted sheet more: a square's count, and the rooms square by square.
-- Assumes nothing.
use mathlib.Core.Path.{◌≡◌, sym, ap, ◌∙◌}
use mathlib.Core.Bool.{Bool, true, false}
use mathlib.Core.List.{List}
use Prim.Native.Nat.{ℕ, ◌+◌, ◌≤◌, ◌<◌}
use native.Mathlib.Omega.{arith}
use lib.ListN.{length, get_or, set}
use borrow.Author.Tests.{le-leb, lt-leb, lt-ltb, le-ltb}
use Rattle.reckon.specs.Tests.{pick}
use Rattle.reckon.specs.Lists.{filled}
use Rattle.reckon.proofs.TestLaws.{not_both, pick_true, pick_false, every_fails, each_every}
use Rattle.reckon.proofs.ListLaws.{length-filled, filled_none, filled_ahead, filled_store, filled_keep}
use Rattle.grid.specs.Squares.{squares}
use Rattle.grid.specs.Marks.{closed}
use Rattle.grid.specs.declared.squares.Shape.{Shape}
use Rattle.ledger.specs.Runs.{plan}
use Rattle.text.proofs.ReadingLaws.{by_test}
use Rattle.lists.specs.Names.{most_sheets}
use Rattle.lists.specs.Tally.{count_with, gives, counts_with, deepest_with, places_with}
use Rattle.lists.specs.Inner.Judged.{Merges, MergesSquare}
use Rattle.lists.specs.declared.merging.Merging.{Merging}

-- ---- a count

module _ (wet peak : ℕ) {count before : ℕ} (e : before ≡ count) where
  pub count_dry : peak < wet → before ≡ count_with wet peak count
  count_dry h = e ∙ sym (pick_false _ _ (every_fails _ 0 (lt-leb wet peak h)))

  pub count_full : most_sheets ≤ before → before ≡ count_with wet peak count
  count_full h = e ∙ sym (pick_false _ _ (every_fails _ 1 (le-ltb count most_sheets (omega (arith, e, h)))))

  pub count_more : wet ≤ peak → before < most_sheets → before + 1 ≡ count_with wet peak count
  count_more h l =
      ap (λ (k : ℕ). k + 1) e
      ∙ sym (pick_true _ _ (each_every _ (le-leb wet peak h, (lt-ltb count most_sheets (omega (arith, e, l)), tt))))

-- ---- a square

module _ (m : Merging) (i : ℕ) (marks peaks counts deepest places : List ℕ) where
  pub square_closed : closed marks i ≡ true → MergesSquare m i marks peaks counts deepest places counts deepest places
  square_closed t =
      record { counts_are = sym (pick_true _ _ t); deepest_are = sym (pick_true _ _ t); places_are = sym (pick_true _ _ t) }

  module _
      {count : ℕ} {given : Bool} (t : closed marks i ≡ false) (e : count ≡ count_with m.wet (get_or peaks i 0) (pick m.begun (get_or counts i 0) 0))
      (g : given ≡ gives m.begun (get_or deepest i 0) (get_or peaks i 0)) where
    pub square_counted : given ≡ false → MergesSquare m i marks peaks counts deepest places (set counts i count) deepest places
    square_counted f =
        record {
          counts_are = ap (set counts i) e ∙ sym (pick_false _ _ t);
          deepest_are = sym (pick_false _ _ t ∙ pick_false _ _ (sym g ∙ f));
          places_are = sym (pick_false _ _ t ∙ pick_false _ _ (sym g ∙ f));
        }

    pub square_given :
        given ≡ true →
        MergesSquare m i marks peaks counts deepest places (set counts i count) (set deepest i (get_or peaks i 0)) (set places i m.place)
    square_given f =
        record {
          counts_are = ap (set counts i) e ∙ sym (pick_false _ _ t);
          deepest_are = sym (pick_false _ _ t ∙ pick_true _ _ (sym g ∙ f));
          places_are = sym (pick_false _ _ t ∙ pick_true _ _ (sym g ∙ f));
        }

-- ---- a room filled up to a square, and by one square more

module _ (skipped : ℕ → Bool) (f : ℕ → ℕ) (old : List ℕ) (i : ℕ) (h : i < length old) {l : List ℕ} (e : l ≡ filled i skipped f old) where
  not_reached : get_or l i 0 ≡ get_or old i 0
  not_reached = ap (λ (r : List ℕ). get_or r i 0) e ∙ filled_ahead skipped f old i h

  one_stored : {l' : List ℕ} {v : ℕ} → l' ≡ pick (skipped i) l (set l i v) → v ≡ f i → l' ≡ filled (i + 1) skipped f old
  one_stored {v = v} g q =
      by_test (skipped i) (λ t. g ∙ (pick_true _ _ t ∙ (e ∙ filled_keep skipped f old i h (λ s. not_both t s))))
      (λ t. g ∙ (pick_false _ _ t ∙ (ap (λ (r : List ℕ). set r i v) e ∙ filled_store skipped f old i h t q)))

  one_chosen :
      (given : Bool) (v : ℕ) {l' : List ℕ} → l' ≡ pick (skipped i) l (pick given (set l i v) l) → f i ≡ pick given v (get_or old i 0) →
      l' ≡ filled (i + 1) skipped f old
  one_chosen given v g q =
      by_test given (λ t. one_stored (g ∙ ap (pick (skipped i) l) (pick_true _ _ t)) (sym (q ∙ pick_true _ _ t)))
      (λ t.
      by_test (skipped i) (λ s. g ∙ (pick_true _ _ s ∙ (e ∙ filled_keep skipped f old i h (λ z. not_both s z))))
      (λ s. g ∙ (pick_false _ _ s ∙ (pick_false _ _ t ∙ (e ∙ filled_keep skipped f old i h (λ z. sym (q ∙ pick_false _ _ t)))))))

-- ---- all squares

-- the rooms with the sheet in the first n squares
module _ (m : Merging) (marks peaks counts₀ deepest₀ places₀ : List ℕ) where
  abbrev count_to : ℕ → ℕ
  count_to i = count_with m.wet (get_or peaks i 0) (pick m.begun (get_or counts₀ i 0) 0)

  abbrev gives_to : ℕ → Bool
  gives_to i = gives m.begun (get_or deepest₀ i 0) (get_or peaks i 0)

  abbrev deepest_to : ℕ → ℕ
  deepest_to i = pick (gives_to i) (get_or peaks i 0) (get_or deepest₀ i 0)

  abbrev place_to : ℕ → ℕ
  place_to i = pick (gives_to i) m.place (get_or places₀ i 0)

  pub record MergedTo (n : ℕ) (counts deepest places : List ℕ) : Type 0 where
    pub counts_are : counts ≡ filled n (closed marks) count_to counts₀
    pub deepest_are : deepest ≡ filled n (closed marks) deepest_to deepest₀
    pub places_are : places ≡ filled n (closed marks) place_to places₀

  pub merged_none : MergedTo 0 counts₀ deepest₀ places₀
  merged_none = record { counts_are = filled_none _ _ _; deepest_are = filled_none _ _ _; places_are = filled_none _ _ _ }

  module _ {n : ℕ} {counts deepest places : List ℕ} (k : MergedTo n counts deepest places) where
    pub counts_long : length counts ≡ length counts₀
    counts_long = ap length k.counts_are ∙ length-filled n (closed marks) count_to counts₀

    pub deepest_long : length deepest ≡ length deepest₀
    deepest_long = ap length k.deepest_are ∙ length-filled n (closed marks) deepest_to deepest₀

    pub places_long : length places ≡ length places₀
    places_long = ap length k.places_are ∙ length-filled n (closed marks) place_to places₀

    pub merged_more :
        n < length counts₀ → n < length deepest₀ → n < length places₀ → {counts' deepest' places' : List ℕ} →
        MergesSquare m n marks peaks counts deepest places counts' deepest' places' → MergedTo (n + 1) counts' deepest' places'
    merged_more hc hd hp s =
        let c = not_reached (closed marks) count_to counts₀ n hc k.counts_are in
        let d = not_reached (closed marks) deepest_to deepest₀ n hd k.deepest_are in
        let g : gives m.begun (get_or deepest n 0) (get_or peaks n 0) ≡ gives_to n =
        ap (λ (v : ℕ). gives m.begun v (get_or peaks n 0)) d in
        record {
          counts_are =
              one_stored (closed marks) count_to counts₀ n hc k.counts_are s.counts_are
              (ap (λ (v : ℕ). count_with m.wet (get_or peaks n 0) (pick m.begun v 0)) c);
          deepest_are =
              one_chosen (closed marks) deepest_to deepest₀ n hd k.deepest_are _ _ s.deepest_are
              (ap (λ (b : Bool). pick b (get_or peaks n 0) (get_or deepest₀ n 0)) (sym g));
          places_are =
              one_chosen (closed marks) place_to places₀ n hp k.places_are _ _ s.places_are
              (ap (λ (b : Bool). pick b m.place (get_or places₀ n 0)) (sym g));
        }

    pub merged_all :
        (shape : Shape) → n ≡ squares shape →
        Merges (plan shape marks) m.begun m.wet m.place peaks counts₀ deepest₀ places₀ counts deepest places
    unfolding counts_with deepest_with places_with
    merged_all shape e =
        record {
          counts_are = k.counts_are ∙ ap (λ (j : ℕ). filled j (closed marks) count_to counts₀) e;
          deepest_are = k.deepest_are ∙ ap (λ (j : ℕ). filled j (closed marks) deepest_to deepest₀) e;
          places_are = k.places_are ∙ ap (λ (j : ℕ). filled j (closed marks) place_to places₀) e;
        }
