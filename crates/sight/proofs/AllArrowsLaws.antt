-- Laws of the arrows of all squares: square after square the rooms are filled; and asked of the first square, the refusals are those of every square.
-- Assumes nothing.
use mathlib.Core.Path.{◌≡◌, refl, sym, ap, ap₂, ◌∙◌}
use mathlib.Core.Bool.{Bool, true, false}
use mathlib.Core.List.{List, [], ◌∷◌}
use Prim.Native.Nat.{ℕ, zero, suc, ◌+◌, ◌/◌, ◌≤◌, ◌<◌}
use native.Mathlib.Decide.{dec_lt}
use native.Mathlib.Nat.{div-lt_iff_lt-mul}
use native.Mathlib.Omega.{arith}
use lib.Dec.{eqb, leb}
use lib.Ieee.{Float}
use lib.ListN.{length, get_or, set, length-set}
use lib.Seq.{get_or-set_same, get_or-set_other, ext_get_or}
use borrow.Author.Tests.{eq-eqb, ne_eqb, lt-ltb, eqb-true}
use Rattle.reckon.specs.Tests.{every, refusal}
use Rattle.reckon.specs.Ranges.{most_side}
use Rattle.reckon.proofs.TestLaws.{pick_true, pick_false, every_each, refusal_here, refusal_later}
use Rattle.grid.specs.Squares.{squares, ShapeInRange}
use Rattle.grid.specs.declared.squares.Shape.{Shape}
use Rattle.grid.proofs.SquareLaws.{square_in, column-within}
use Rattle.ledger.specs.Runs.{Plan, World}
use Rattle.ledger.specs.Record.{newest_record}
use Rattle.ledger.specs.Checks.{times_fine}
use Rattle.sight.specs.Speeds.{zero64}
use Rattle.sight.specs.Inner.Arrows.{RoomsLong}
use Rattle.sight.specs.Arrows.{seen_by, asked_fine, arrow_early_refusals, arrow_refusals, arrow_number, seen_at}
use Rattle.sight.specs.AllArrows.{kind_of, arrow_in, each_of, Sights, sights, laid_out, seen_square, all_refusals, all_number, SeesAll}
use Rattle.sight.specs.declared.arrows.Sight.{Sight}
use Rattle.sight.proofs.ArrowLaws.{number_early, number_late, number_none}

-- ---- a room, filled place after place

pub record Filled {A : Type 0} (n : ℕ) (d : A) (f : ℕ → A) (i : ℕ) (l : List A) : Type 0 where
  pub long : length l ≡ n
  pub there : (k : ℕ) → k < i → get_or l k d ≡ f k

module _ {A : Type 0} {n : ℕ} (d : A) (f : ℕ → A) where
  pub filled_more : {i : ℕ} {v : A} (old : List A) {l : List A} → Filled n d f i old → i < n → l ≡ set old i v → v ≡ f i → Filled n d f (i + 1) l
  filled_more {i} {v} old {l} F h e q =
      record {
        long = ap length e ∙ (length-set old i v ∙ F.long);
        there = λ k below. ap (λ (m : List A). get_or m k d) e ∙ go k below (dec_lt k i);
      }
    where
      go : (k : ℕ) → k < i + 1 → Dec (k < i) → get_or (set old i v) k d ≡ f k
      go k below (yes s) = get_or-set_other old i k v d (λ e. omega (arith, s)) ∙ F.there k s
      go k below (no s) =
          let same : k ≡ i = omega (arith, s) in
          ap (λ (j : ℕ). get_or (set old i v) j d) same ∙ (get_or-set_same old i v d (omega (arith, F.long)) ∙ (q ∙ ap f (sym same)))

length_each : {A : Type 0} (n : ℕ) (f : ℕ → A) → length (each_of n f) ≡ n
unfolding each_of
length_each zero f = refl
length_each (suc n) f = ap suc (length_each n (λ k. f (suc k)))

pub get_or_each : {A : Type 0} (n : ℕ) (f : ℕ → A) (d : A) (i : ℕ) → i < n → get_or (each_of n f) i d ≡ f i
unfolding each_of
get_or_each zero f d i h = absurd (omega arith)
get_or_each (suc n) f d zero h = refl
get_or_each (suc n) f d (suc i) h = get_or_each n (λ k. f (suc k)) d i (omega arith)

filled_whole : {A : Type 0} {n i : ℕ} (d : A) (f : ℕ → A) {l : List A} → Filled n d f i l → n ≤ i → l ≡ each_of n f
filled_whole {A} {n} d f {l} F h =
    ext_get_or d l (each_of n f) (F.long ∙ sym (length_each n f)) (λ k below.
    F.there k (omega (arith, F.long)) ∙ sym (get_or_each n f d k (omega (arith, F.long))))

each_ext : {A : Type 0} (n : ℕ) (f g : ℕ → A) → ((i : ℕ) → i < n → f i ≡ g i) → each_of n f ≡ each_of n g
unfolding each_of
each_ext zero f g h = refl
each_ext (suc n) f g h = ap₂ ◌∷◌ (h 0 (omega arith)) (each_ext n (λ k. f (suc k)) (λ k. g (suc k)) (λ i l. h (suc i) (omega arith)))

-- ---- the three rooms

pub record Sweeping (n : ℕ) (f : ℕ → Sight) (i : ℕ) (kinds : List ℕ) (east north : List Float) : Type 0 where
  pub kinds_so : Filled n 0 (λ k. kind_of (f k)) i kinds
  pub east_so : Filled n zero64 (λ k. (arrow_in (f k)).east) i east
  pub north_so : Filled n zero64 (λ k. (arrow_in (f k)).north) i north

module _ (n : ℕ) (f : ℕ → Sight) where
  pub sweep_more :
      {i : ℕ} {a : Sight} {kinds kinds' : List ℕ} {east east' north north' : List Float} → Sweeping n f i kinds east north → i < n → a ≡ f i →
      (kinds' ≡ set kinds i (kind_of a)) × (east' ≡ set east i (arrow_in a).east) × (north' ≡ set north i (arrow_in a).north) →
      Sweeping n f (i + 1) kinds' east' north'
  sweep_more {i} {a} {kinds} {kinds'} {east} {east'} {north} {north'} S h e t =
      record {
        kinds_so = filled_more _ _ kinds S.kinds_so h t.0 (ap kind_of e);
        east_so = filled_more _ _ east S.east_so h t.1 (ap (λ (s : Sight). (arrow_in s).east) e);
        north_so = filled_more _ _ north S.north_so h t.2 (ap (λ (s : Sight). (arrow_in s).north) e);
      }

  pub sweep_whole : {i : ℕ} {kinds : List ℕ} {east north : List Float} → Sweeping n f i kinds east north → n ≤ i → sights kinds east north ≡ laid_out n f
  unfolding laid_out
  sweep_whole S h =
      let k = filled_whole _ _ S.kinds_so h in
      let e = filled_whole _ _ S.east_so h in
      let o = filled_whole _ _ S.north_so h in
      λ j. sights (k j) (e j) (o j)

pub laid_ext : (n : ℕ) (f g : ℕ → Sight) → ((i : ℕ) → i < n → f i ≡ g i) → laid_out n f ≡ laid_out n g
unfolding laid_out
laid_ext n f g h =
    let k = each_ext n (λ i. kind_of (f i)) (λ i. kind_of (g i)) (λ i l. ap kind_of (h i l)) in
    let e = each_ext n (λ i. (arrow_in (f i)).east) (λ i. (arrow_in (g i)).east) (λ i l. ap (λ (s : Sight). (arrow_in s).east) (h i l)) in
    let o = each_ext n (λ i. (arrow_in (f i)).north) (λ i. (arrow_in (g i)).north) (λ i l. ap (λ (s : Sight). (arrow_in s).north) (h i l)) in
    λ j. sights (k j) (e j) (o j)

-- rooms as long as the marks, which are one a square
pub rooms_long :
    {kinds : List ℕ} {east north : List Float} {marks n : ℕ} {fine : Bool} →
    fine ≡ every (eqb (length kinds) marks ∷ eqb (length east) marks ∷ eqb (length north) marks ∷ []) →
    fine ≡ true → marks ≡ n → RoomsLong n kinds east north
rooms_long f b m =
    let each = every_each _ (sym f ∙ b) in
    record {
      kinds_long = eqb-true _ _ each.0 ∙ m;
      east_long = eqb-true _ _ each.1.0 ∙ m;
      north_long = eqb-true _ _ each.1.1.0 ∙ m;
    }

-- ---- the refusals of one square are those of all

row_within : (s : Shape) {i : ℕ} → ShapeInRange s → i < squares s → i / s.columns < s.rows
row_within s {i} f h = (div-lt_iff_lt-mul f.columns_low).1 h

module _ (p : Plan) (D : ℕ) (w : World) where
  asked_same : {row column : ℕ} → row < p.shape.rows → column < p.shape.columns → asked_fine p.shape D row column ≡ asked_fine p.shape D 0 0
  unfolding asked_fine
  asked_same {row} {column} h g =
      let r = lt-ltb row p.shape.rows h ∙ sym (lt-ltb 0 p.shape.rows (omega arith)) in
      let c = lt-ltb column p.shape.columns g ∙ sym (lt-ltb 0 p.shape.columns (omega arith)) in
      λ j. every (leb 1 D ∷ leb D most_side ∷ r j ∷ c j ∷ [])

  pub number_of_all : {row column : ℕ} → row < p.shape.rows → column < p.shape.columns → arrow_number p D w row column ≡ arrow_number p D w 0 0
  unfolding arrow_number arrow_refusals arrow_early_refusals
  number_of_all {row} {column} h g = rw (asked_same h g)

  -- ---- the answer

  module _ (old : Sights) {fine : Bool}
      (f : fine ≡ every (eqb (length old.kinds) (length p.marks) ∷ eqb (length old.east) (length p.marks) ∷ eqb (length old.north) (length p.marks) ∷ [])) where
    -- refused, the rooms stay
    refused_all : {n : ℕ} → (n ≡ 0 → ⊥) → n ≡ all_number p D w old → SeesAll p D w old n old
    refused_all h e = record { number_is = e; rooms_are = sym (pick_false _ _ (ne_eqb _ 0 (λ z. h (e ∙ z)))) }

    pub all_rooms : fine ≡ false → SeesAll p D w old 1 old
    unfolding all_number all_refusals
    all_rooms b = refused_all (λ z. absurd (omega arith)) (sym (refusal_here 1 _ (sym f ∙ b)))

    module _ (b : fine ≡ true) where
      let_in : all_number p D w old ≡ arrow_number p D w 0 0
      unfolding all_number all_refusals arrow_number
      let_in = refusal_later 1 _ (sym f ∙ b)

      module _ {n : ℕ} (e : n ≡ refusal (arrow_early_refusals p D w 0 0)) where
        pub all_refused : (n ≡ 0 → ⊥) → SeesAll p D w old n old
        all_refused h = refused_all h (number_early p D w 0 0 e h ∙ sym let_in)

        module _ (z : n ≡ 0) {rec : List ℕ} (r : rec ≡ newest_record p w) {times : Bool} (t : times ≡ times_fine rec) where
          pub all_late : times ≡ false → SeesAll p D w old 11 old
          all_late c = refused_all (λ q. absurd (omega arith)) (number_late p D w 0 0 e z r t c ∙ sym let_in)

          -- by the record, each square is what its arrow is
          as_arrow : times ≡ true → ShapeInRange p.shape → (i : ℕ) → i < squares p.shape → seen_by 0 p D w.depths rec i ≡ seen_square p D w i
          unfolding seen_square seen_at
          as_arrow c s i h =
              let row = row_within p.shape s h in
              let column = column-within p.shape i s.columns_low refl in
              let number = number_none p D w 0 0 e z r t c ∙ sym (number_of_all row column) in
              let same = sym (square_in p.shape i) in
              λ k. seen_by (number k) p D w.depths (r k) (same k)

          pub all_seen : {new : Sights} → times ≡ true → ShapeInRange p.shape → new ≡ laid_out (squares p.shape) (seen_by 0 p D w.depths rec) →
              SeesAll p D w old 0 new
          all_seen c s q =
              let number : 0 ≡ all_number p D w old = number_none p D w 0 0 e z r t c ∙ sym let_in in
              record {
                number_is = number;
                rooms_are = q ∙ (laid_ext (squares p.shape) _ (seen_square p D w) (as_arrow c s) ∙ sym (pick_true _ _ (eq-eqb _ 0 (sym number))));
              }
