-- What the exported arrow and wet rows give follows from what the calls below give.
-- Assumes nothing.
use mathlib.Core.Path.{◌≡◌, refl, sym, ap, ◌∙◌, subst, subst₂}
use mathlib.Core.Bool.{true, false}
use mathlib.Core.List.{List, [], ◌∷◌}
use Prim.Native.Nat.{ℕ, zero, suc}
use lib.ListN.{length}
use lib.Ieee.{Float}
use borrow.Author.Tests.{ne_eqb, eq-eqb}
use Rattle.reckon.specs.Tests.{pick}
use Rattle.reckon.proofs.TestLaws.{pick_true, pick_false}
use Rattle.ledger.specs.Runs.{Plan, World}
use Rattle.sight.specs.Arrows.{Sees}
use Rattle.sight.specs.WetRows.{WetRowed, counted, ones_over, wet_number}
use Rattle.grid.specs.Masks.{wet_masks}
use Rattle.sight.specs.declared.speeds.Arrow.{Arrow}
use Rattle.sight.specs.declared.arrows.Sight.{Sight}
use Rattle.sight.specs.declared.arrows.Sight.TheVariants.{Closed, Dry, Still, Moving, Refused}
use Rattle.sight.specs.declared.wet_rows.Wet.{Wet}
use Rattle.sight.specs.declared.wet_rows.Wet.TheVariants.{Count}
use Rattle.exports.specs.Numbers.{count_size}
use Rattle.exports.specs.Refusals.{unless_refused}
use Rattle.exports.specs.Sights.{sight_number, speeds_in, arrow_sized, ExportsArrow, wet_number_of, wet_gives, ExportsWet}
use Rattle.exports.specs.Inner.Slices.{count_in}
use Rattle.exports.proofs.AnswerLaws.{sized_number, unsized_number, refused_leaves}

-- ---- the arrow

module _ {a b : Sight} (old : List Float) (e : a ≡ b) where
  pub sight_told : {n : ℕ} {new : List Float} → n ≡ sight_number b → new ≡ speeds_in b old → (n ≡ sight_number a) × (new ≡ speeds_in a old)
  sight_told h s = (h ∙ ap sight_number (sym e), s ∙ ap (λ (z : Sight). speeds_in z old) (sym e))

pub seen-closed : {a : Sight} (old : List Float) → a ≡ Closed → (101 ≡ sight_number a) × (old ≡ speeds_in a old)
unfolding sight_number speeds_in
seen-closed old e = sight_told old e refl refl

pub seen-dry : {a : Sight} (old : List Float) → a ≡ Dry → (102 ≡ sight_number a) × (old ≡ speeds_in a old)
unfolding sight_number speeds_in
seen-dry old e = sight_told old e refl refl

pub seen_still : {a : Sight} (old : List Float) → a ≡ Still → (103 ≡ sight_number a) × (old ≡ speeds_in a old)
unfolding sight_number speeds_in
seen_still old e = sight_told old e refl refl

pub seen-refused : {a : Sight} {n : ℕ} (old : List Float) → a ≡ Refused n → (n ≡ sight_number a) × (old ≡ speeds_in a old)
unfolding sight_number speeds_in
seen-refused old e = sight_told old e refl refl

pub seen_moving :
    {a : Sight} {x : Arrow} (old : List Float) {new : List Float} → a ≡ Moving x → new ≡ x.east ∷ x.north ∷ [] →
    (0 ≡ sight_number a) × (new ≡ speeds_in a old)
unfolding sight_number speeds_in
seen_moving old e s = sight_told old e refl s

module _ (p : Plan) (D : ℕ) (w : World) (row column : ℕ) (run : List ℕ) (old : List Float) where
  pub arrow_unsized : arrow_sized p D w row column run old ≡ false → ExportsArrow p D w row column run old 1 old
  arrow_unsized unfit = record { number_is = sym (unsized_number _ unfit); speeds_are = sym (pick_false _ _ unfit) }

  pub arrow_told :
      {q : Plan} {v : World} {a : Sight} {number : ℕ} {speeds : List Float} → arrow_sized p D w row column run old ≡ true →
      q ≡ p → v ≡ w → Sees q D v row column a → (number ≡ sight_number a) × (speeds ≡ speeds_in a old) →
      ExportsArrow p D w row column run old number speeds
  arrow_told {q} {v} {a} fits same-plan same-world seen t =
      let f = subst₂ (λ (x : Plan) (y : World). Sees x D y row column a) same-plan same-world seen in
      record {
        number_is = t.0 ∙ (ap sight_number f ∙ sym (sized_number fits));
        speeds_are = t.1 ∙ (ap (λ (z : Sight). speeds_in z old) f ∙ sym (pick_true _ _ fits));
      }

-- ---- wet rows

pub count_told : {a : Wet} {n : ℕ} (old : List ℕ) {new : List ℕ} → a ≡ Count n → new ≡ n ∷ [] → (0 ≡ wet_number_of a) × (new ≡ count_in a old)
unfolding wet_number_of count_in
count_told old e s = (ap wet_number_of (sym e), s ∙ ap (λ (z : Wet). count_in z old) (sym e))

pub wet_refused-told : {a : Wet} {n : ℕ} (old : List ℕ) → a ≡ Wet.Refused n → (n ≡ wet_number_of a) × (old ≡ count_in a old)
unfolding wet_number_of count_in
wet_refused-told old e = (ap wet_number_of (sym e), ap (λ (z : Wet). count_in z old) (sym e))

number_counted : (n k : ℕ) → wet_number_of (counted n k) ≡ n
unfolding wet_number_of counted
number_counted zero k = refl
number_counted (suc n) k = refl

count_counted : (n k : ℕ) (old : List ℕ) → count_in (counted n k) old ≡ unless_refused n (k ∷ []) old
unfolding count_in counted unless_refused pick
count_counted zero k old = refl
count_counted (suc n) k old = sym (refused_leaves {k = n} (k ∷ []) old refl)

module _ (p : Plan) (depths : List ℕ) (least : ℕ) (old_rows old_count : List ℕ) where
  pub wet_unsized : (length old_count ≡ count_size → ⊥) → ExportsWet p depths least old_rows old_count 1 old_rows old_count
  wet_unsized d =
      let one : wet_gives p depths least old_rows old_count ≡ 1 = unsized_number _ (ne_eqb (length old_count) count_size d) in
      record {
        number_is = sym one;
        rows_are = sym (refused_leaves (wet_masks p.shape p.marks depths least) old_rows one);
        count_is = sym (refused_leaves (ones_over (wet_masks p.shape p.marks depths least) ∷ []) old_count one);
      }

  pub wet_told :
      {q : Plan} {a : Wet} {number : ℕ} {rows count : List ℕ} → length old_count ≡ count_size → q ≡ p → WetRowed q depths least old_rows a rows →
      (number ≡ wet_number_of a) × (count ≡ count_in a old_count) → ExportsWet p depths least old_rows old_count number rows count
  unfolding unless_refused
  wet_told {q} {a} {number} {rows} h same-plan made t =
      let f = subst (λ (x : Plan). WetRowed x depths least old_rows a rows) same-plan made in
      let n = wet_number p depths least (length old_rows) in
      let k = ones_over (wet_masks p.shape p.marks depths least) in
      let gives : wet_gives p depths least old_rows old_count ≡ n = sized_number (eq-eqb (length old_count) count_size h) in
      record {
        number_is = t.0 ∙ (ap wet_number_of f.answer ∙ (number_counted n k ∙ sym gives));
        rows_are = f.rows_are ∙ ap (λ (m : ℕ). unless_refused m (wet_masks p.shape p.marks depths least) old_rows) (sym gives);
        count_is =
            t.1
            ∙ (ap (λ (z : Wet). count_in z old_count) f.answer
            ∙ (count_counted n k old_count ∙ ap (λ (m : ℕ). unless_refused m (k ∷ []) old_count) (sym gives)));
      }
