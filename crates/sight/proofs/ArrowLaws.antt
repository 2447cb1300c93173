-- Laws of arrows: where a side leads decides what went through it, and the first case that applies is the answer.
-- Assumes nothing.
use mathlib.Core.Path.{◌≡◌, refl, sym, ap, ap₂, ◌∙◌}
use mathlib.Core.Bool.{Bool, true, false, ◌&&◌, not}
use mathlib.Core.List.{List, [], ◌∷◌}
use Prim.Native.Nat.{ℕ, zero, suc, ◌+◌, ◌-◌, ◌%◌, ◌^◌, ◌≤◌, ◌<◌}
use native.Mathlib.Omega.{arith}
use lib.Dec.{eqb}
use lib.ListN.{length, get_or, take, drop, length-drop}
use lib.Seq.{length-take-le}
use borrow.Author.Tests.{eq-eqb, ne_eqb, le-ltb, lt-ltb, ltb-true, leb-true}
use Rattle.reckon.specs.Tests.{every, refusal}
use Rattle.reckon.specs.Ranges.{most_depth, most_side}
use Rattle.reckon.proofs.TestLaws.{pick_true, pick_false, and_both, and_false, every_each, refusal_here, refusal_later, refusal-first, refusal-second, refusal_both, refusal_passed, passed_refusal}
use Rattle.trials.specs.Ring.{slots_in, slot_start}
use Rattle.trials.specs.Room.{record_in}
use Rattle.trials.proofs.RingLaws.{slot_within}
use Rattle.grid.specs.declared.squares.Shape.{Shape}
use Rattle.grid.specs.Squares.{north, east, south, west, squares, square_at, within, beside, opposite, OnGrid, OnSquare}
use Rattle.grid.proofs.SquareLaws.{square_within, column_of}
use Rattle.grid.proofs.MarkLaws.{closed_past}
use Rattle.ledger.specs.Runs.{Plan, World, run_fine}
use Rattle.ledger.specs.Flows.{shut, sent}
use Rattle.ledger.specs.Record.{record_size, lasted_in, word_place, leaves_in, room_slots, newest_record}
use Rattle.ledger.specs.Checks.{times_fine}
use Rattle.ledger.proofs.RunLaws.{run_ring}
use Rattle.sight.specs.Refusals.{shared_refusals}
use Rattle.sight.specs.Speeds.{side_speed, arrow_of}
use Rattle.sight.specs.Inner.Arrows.{Ranged, SightLent, Timed, Sided}
use Rattle.sight.specs.Arrows.{net_none, out_through, near_depth, through_side, all_still, arrow_by, sighted, seen_by, asked_fine, arrow_early_refusals, arrow_refusals, arrow_number, seen_at}
use Rattle.sight.specs.declared.speeds.Arrow.{Arrow}
use Rattle.sight.specs.declared.speeds.Through.{Through}
use Rattle.sight.specs.declared.arrows.Sight.{Sight}
use Rattle.sight.specs.declared.arrows.Sight.TheVariants.{Closed, Dry, Still, Moving, Refused}
use Rattle.sight.proofs.RefusalLaws.{Lent, lent}

-- ---- what went through a side

-- a record's words are 32-bit numbers
abbrev pub Words : List ℕ → Type 0
Words rec = (k : ℕ) → get_or rec k 0 < 2 ^ 32

pub leaving_small : (rec : List ℕ) (i side : ℕ) → Words rec → leaves_in rec i side < 2 ^ 32
unfolding leaves_in
leaving_small rec i side h = h (word_place i side)

module _ (p : Plan) (depths rec : List ℕ) (i side : ℕ) where
  out_own :
      (within p.shape (beside p.shape i side) && shut p (beside p.shape i side)) ≡ false →
      out_through p rec i side ≡ leaves_in rec i side
  unfolding out_through
  out_own e = pick_false _ _ e

  out_none :
      (within p.shape (beside p.shape i side) && shut p (beside p.shape i side)) ≡ true → out_through p rec i side ≡ 0
  unfolding out_through
  out_none e = pick_true _ _ e

  same_side :
      {x y z : ℕ} → x ≡ out_through p rec i side → y ≡ sent p (leaves_in rec) i side → z ≡ get_or depths i 0 + near_depth p depths i side →
      ◌≡◌ {A = Through} (record { out = x; back = y; deep = z }) (through_side p depths rec i side)
  unfolding through_side
  same_side h g f = λ k. record { out = h k; back = g k; deep = f k }

  module _ (words : Words rec) {own at all : ℕ} (o : own ≡ get_or depths i 0) (a : at ≡ beside p.shape i side) (n : all ≡ squares p.shape)
      (low : get_or depths i 0 ≤ most_depth) where
    small : {out : ℕ} → out ≡ leaves_in rec i side → out < 2 ^ 32
    small e = omega (arith, leaving_small rec i side words)

    -- no neighbour, or a closed one: nothing is sent back, and the own depth counts twice
    module _ (c : shut p (beside p.shape i side) ≡ true) where
      sent_none : 0 ≡ sent p (leaves_in rec) i side
      unfolding sent
      sent_none = sym (pick_true _ _ c)

      own_twice : own + own ≡ get_or depths i 0 + near_depth p depths i side
      unfolding near_depth
      own_twice = ap₂ ◌+◌ o (o ∙ sym (pick_true _ _ c))

    -- off the grid
    pub side_off :
        {out : ℕ} → length p.marks ≡ squares p.shape → all ≤ at → out ≡ leaves_in rec i side →
        Sided p depths rec i side (record { out = out; back = 0; deep = own + own })
    side_off {out} l h e =
        let off = closed_past p.marks (beside p.shape i side) (omega arith) in
        let past : within p.shape (beside p.shape i side) ≡ false = le-ltb (beside p.shape i side) (squares p.shape) (omega arith) in
        record {
          is = same_side (e ∙ sym (out_own (rw past))) (sent_none off) (own_twice off);
          out_small = small e;
          back_small = omega arith;
          deep_low = omega arith;
          deep_to = omega arith;
        }

    -- towards a closed square nothing left either
    pub side_closed : at < all → shut p at ≡ true → Sided p depths rec i side (record { out = 0; back = 0; deep = own + own })
    side_closed h c =
        let off = ap (shut p) (sym a) ∙ c in
        let inside : within p.shape (beside p.shape i side) ≡ true = lt-ltb (beside p.shape i side) (squares p.shape) (omega arith) in
        record {
          is = same_side (sym (out_none (and_both _ _ inside off))) (sent_none off) (own_twice off);
          out_small = omega arith;
          back_small = omega arith;
          deep_low = omega arith;
          deep_to = omega arith;
        }

    -- towards a neighbour that is not closed
    module _ (c : shut p at ≡ false) where
      beside_open : shut p (beside p.shape i side) ≡ false
      beside_open = ap (shut p) (sym a) ∙ c

      small_back : {back : ℕ} → back ≡ sent p (leaves_in rec) i side → back < 2 ^ 32
      unfolding sent
      small_back e = rw (e ∙ pick_false _ _ beside_open) (leaving_small rec (beside p.shape i side) (opposite side) words)

      near_is : {near : ℕ} → near ≡ get_or depths at 0 → own + near ≡ get_or depths i 0 + near_depth p depths i side
      unfolding near_depth
      near_is f = ap₂ ◌+◌ o (f ∙ (ap (λ (j : ℕ). get_or depths j 0) a ∙ sym (pick_false _ _ beside_open)))

      pub side_open :
          {out back near : ℕ} → out ≡ leaves_in rec i side → back ≡ sent p (leaves_in rec) i side → near ≡ get_or depths at 0 →
          get_or depths at 0 ≤ most_depth → Sided p depths rec i side (record { out = out; back = back; deep = own + near })
      side_open e g f h =
          record {
            is = same_side (e ∙ sym (out_own (and_false (within p.shape (beside p.shape i side)) _ beside_open))) g (near_is f);
            out_small = small e;
            back_small = small_back g;
            deep_low = omega arith;
            deep_to = omega arith;
          }

-- the ranges that a speed asks
pub ranged :
    {p : Plan} {depths rec : List ℕ} {i side D lasts own : ℕ} {t : Through} → Timed D rec → lasts ≡ lasted_in rec →
    own ≡ get_or depths i 0 → (own ≡ 0 → ⊥) → Sided p depths rec i side t → Ranged D lasts t
ranged m e o n s =
    record {
      side_to = m.side_to;
      lasted_some = omega (arith, m.lasted_some);
      lasted_to = omega (arith, m.lasted_to);
      out_small = s.out_small;
      back_small = s.back_small;
      deep_some = omega (arith, s.deep_low);
      deep_to = s.deep_to;
    }

-- ---- the answer by a record

-- the number that an answer gives back, 0 where it is no refusal: by it a refusal is kept apart from the four other cases
abbrev pub number_in : Sight → ℕ
number_in Closed = 0
number_in Dry = 0
number_in Still = 0
number_in (Moving a) = 0
number_in (Refused n) = n

pub number_kept : (number : ℕ) (c d s : Bool) (a : Arrow) → number_in (sighted number c d s a) ≡ number
unfolding sighted
number_kept (suc n) c d s a = refl
number_kept zero true d s a = refl
number_kept zero false true s a = refl
number_kept zero false false true a = refl
number_kept zero false false false a = refl

module _ (d s : Bool) (a : Arrow) where
  sighted-refused : {m : ℕ} (n : ℕ) (c : Bool) → n ≡ m → (n ≡ 0 → ⊥) → Refused n ≡ sighted m c d s a
  unfolding sighted
  sighted-refused zero c e h = absurd (h refl)
  sighted-refused (suc n) c e h = rw (sym e)

  sighted-closed : {c : Bool} → c ≡ true → Closed ≡ sighted 0 c d s a
  unfolding sighted
  sighted-closed e = rw e

sighted-dry : {c d : Bool} (s : Bool) (a : Arrow) → c ≡ false → d ≡ true → Dry ≡ sighted 0 c d s a
unfolding sighted
sighted-dry s a e f = rw (e, f)

sighted_still : {c d s : Bool} (a : Arrow) → c ≡ false → d ≡ false → s ≡ true → Still ≡ sighted 0 c d s a
unfolding sighted
sighted_still a e f g = rw (e, f, g)

sighted_moving : {c d s : Bool} (a : Arrow) → c ≡ false → d ≡ false → s ≡ false → Moving a ≡ sighted 0 c d s a
unfolding sighted
sighted_moving a e f g = rw (e, f, g)

module _ (p : Plan) (D : ℕ) (depths rec : List ℕ) (i : ℕ) where
  pub seen-closed : shut p i ≡ true → Closed ≡ seen_by 0 p D depths rec i
  unfolding seen_by
  seen-closed e = sighted-closed _ _ _ e

  module _ (o : shut p i ≡ false) {own : ℕ} (d : own ≡ get_or depths i 0) where
    pub seen-dry : own ≡ 0 → Dry ≡ seen_by 0 p D depths rec i
    unfolding seen_by
    seen-dry e = sighted-dry _ _ o (eq-eqb _ _ (sym d ∙ e))

    module _ (some : own ≡ 0 → ⊥) {n e s w : Through}
        (ns : Sided p depths rec i north n) (es : Sided p depths rec i east e) (ss : Sided p depths rec i south s) (ws : Sided p depths rec i west w)
        {still : Bool} (t : still ≡ every (net_none n ∷ net_none e ∷ net_none s ∷ net_none w ∷ [])) where
      wet : eqb (get_or depths i 0) 0 ≡ false
      wet = ne_eqb _ _ (λ z. some (d ∙ z))

      still_is : still ≡ all_still p depths rec i
      unfolding all_still
      still_is = t ∙ (λ k. every (net_none (ns.is k) ∷ net_none (es.is k) ∷ net_none (ss.is k) ∷ net_none (ws.is k) ∷ []))

      pub seen_still : still ≡ true → Still ≡ seen_by 0 p D depths rec i
      unfolding seen_by
      seen_still z = sighted_still _ o wet (sym still_is ∙ z)

      pub seen_moving :
          {lasts : ℕ} {a : Arrow} → still ≡ false → lasts ≡ lasted_in rec →
          a ≡ arrow_of (side_speed D lasts n) (side_speed D lasts e) (side_speed D lasts s) (side_speed D lasts w) →
          Moving a ≡ seen_by 0 p D depths rec i
      unfolding seen_by arrow_by
      seen_moving z l q =
          ap Moving
          (q
          ∙ (λ k.
          arrow_of (side_speed D (l k) (ns.is k)) (side_speed D (l k) (es.is k)) (side_speed D (l k) (ss.is k)) (side_speed D (l k) (ws.is k))))
          ∙ sighted_moving _ o wet (sym still_is ∙ z)

-- ---- refusals before 11

module _ (p : Plan) (D : ℕ) (w : World) (row column : ℕ) {asked : Bool} {shared : ℕ}
    (a : asked ≡ asked_fine p.shape D row column) (s : shared ≡ refusal (shared_refusals p w.depths asked)) where
  whole : shared ≡ refusal (shared_refusals p w.depths (asked_fine p.shape D row column))
  whole = s ∙ ap (λ (b : Bool). refusal (shared_refusals p w.depths b)) a

  pub early_shared : (shared ≡ 0 → ⊥) → shared ≡ refusal (arrow_early_refusals p D w row column)
  unfolding arrow_early_refusals shared_refusals
  early_shared n = whole ∙ sym (refusal-first _ _ tt (λ e. n (whole ∙ e)))

  module _ (e : shared ≡ 0) {fine : Bool} (f : fine ≡ run_fine (room_slots p w.records) w.run) where
    pub early_run : fine ≡ false → 6 ≡ refusal (arrow_early_refusals p D w row column)
    unfolding arrow_early_refusals shared_refusals
    early_run b = sym (refusal-second _ _ tt (sym whole ∙ e) ∙ refusal_here 6 _ (sym f ∙ b))

    pub early_kept : fine ≡ true → w.run.kept ≡ 0 → 10 ≡ refusal (arrow_early_refusals p D w row column)
    unfolding arrow_early_refusals shared_refusals
    early_kept b k =
        sym (refusal-second _ _ tt (sym whole ∙ e) ∙ (refusal_later 6 _ (sym f ∙ b) ∙ refusal_here 10 _ (ap not (eq-eqb _ _ k))))

    pub early_none : fine ≡ true → (w.run.kept ≡ 0 → ⊥) → 0 ≡ refusal (arrow_early_refusals p D w row column)
    unfolding arrow_early_refusals shared_refusals
    early_none b k =
        sym (refusal-second _ _ tt (sym whole ∙ e) ∙ passed_refusal _ (sym f ∙ b, (ap not (ne_eqb _ _ k), tt)))

pub slots_are :
    (p : Plan) (records : List ℕ) {k size : ℕ} → k ≡ slots_in size (length records) → size ≡ record_size p → k ≡ room_slots p records
unfolding room_slots
slots_are p records e f = e ∙ ap (λ (z : ℕ). slots_in z (length records)) f

-- ---- the newest record

-- what the refusals before 11 leave
pub record Open (p : Plan) (D : ℕ) (w : World) (row column : ℕ) : Type 0 where
  pub shared : Lent p w.depths (asked_fine p.shape D row column)
  pub on_grid : OnGrid p.shape row column
  pub side_to : D ≤ most_side
  pub newest_in : w.run.newest < room_slots p w.records

module _ (p : Plan) (D : ℕ) (w : World) (row column : ℕ) {n : ℕ} (e : n ≡ refusal (arrow_early_refusals p D w row column)) where
  pub opened : n ≡ 0 → Open p D w row column
  unfolding arrow_early_refusals shared_refusals asked_fine
  opened z =
      let parts = refusal_both (shared_refusals p w.depths (asked_fine p.shape D row column)) _ tt (sym e ∙ z) in
      let l = lent p w.depths _ parts.0 in
      let asked = every_each _ l.more_fine in
      let late = refusal_passed _ tt parts.1 in
      record {
        shared = l;
        on_grid = record { fine = l.sizes.fine; row_in = ltb-true _ _ asked.1.1.0; column_in = ltb-true _ _ asked.1.1.1.0 };
        side_to = leb-true _ _ asked.1.0;
        newest_in = (run_ring _ w.run late.0).newest_below;
      }

  pub number_early : (n ≡ 0 → ⊥) → n ≡ arrow_number p D w row column
  unfolding arrow_number arrow_refusals arrow_early_refusals shared_refusals
  number_early h = e ∙ sym (refusal-first _ _ tt (λ z. h (e ∙ z)))

  pub seen-refused : (n ≡ 0 → ⊥) → Refused n ≡ seen_at p D w row column
  unfolding seen_at seen_by
  seen-refused h = sighted-refused _ _ _ n _ (number_early h) h

  module _ (z : n ≡ 0) {rec : List ℕ} (r : rec ≡ newest_record p w) {fine : Bool} (f : fine ≡ times_fine rec) where
    pub number_late : fine ≡ false → 11 ≡ arrow_number p D w row column
    unfolding arrow_number arrow_refusals arrow_early_refusals shared_refusals
    number_late b =
        sym (refusal-second (arrow_early_refusals p D w row column) _ tt (sym e ∙ z) ∙ refusal_here 11 _ (ap times_fine (sym r) ∙ (sym f ∙ b)))

    pub number_none : fine ≡ true → 0 ≡ arrow_number p D w row column
    unfolding arrow_number arrow_refusals arrow_early_refusals shared_refusals
    number_none b =
        sym (refusal-second (arrow_early_refusals p D w row column) _ tt (sym e ∙ z) ∙ passed_refusal _ (ap times_fine (sym r) ∙ (sym f ∙ b), tt))

    pub seen_late : fine ≡ false → Refused 11 ≡ seen_at p D w row column
    unfolding seen_at seen_by
    seen_late b = sighted-refused _ _ _ 11 _ (number_late b) (λ q. absurd (omega arith))

    pub seen_is :
        {i : ℕ} {a : Sight} → fine ≡ true → i ≡ square_at p.shape row column → a ≡ seen_by 0 p D w.depths rec i →
        a ≡ seen_at p D w row column
    unfolding seen_at
    seen_is {i} b g q = q ∙ (λ k. seen_by (number_none b k) p D w.depths (r k) (g k))

    pub timed : fine ≡ true → D ≤ most_side → Timed D rec
    unfolding times_fine
    timed b d =
        let each = every_each _ (sym f ∙ b) in
        record { side_to = d; lasted_some = leb-true _ _ each.1.1.0; lasted_to = leb-true _ _ each.1.1.1.0 }

-- the part of the room that is lent
module _ {p : Plan} {D : ℕ} {w : World} {row column : ℕ} (left : Open p D w row column) {size at : ℕ}
    (s : size ≡ record_size p) (a : at ≡ slot_start size w.run.newest) where
  pub record_within : at + size ≤ length w.records
  unfolding room_slots
  record_within =
      let inside : w.run.newest < slots_in size (length w.records) = rw s left.newest_in in
      omega (arith, slot_within size (omega arith) inside)

  pub record_is : take (at + size - at) (drop at w.records) ≡ newest_record p w
  unfolding newest_record record_in
  record_is =
      let l : at + size - at ≡ record_size p = omega arith in
      let b : at ≡ slot_start (record_size p) w.run.newest = a ∙ ap (λ (z : ℕ). slot_start z w.run.newest) s in
      λ k. take (l k) (drop (b k) w.records)

  pub record_long : length (take (at + size - at) (drop at w.records)) ≡ record_size p
  record_long =
      length-take-le (at + size - at) (drop at w.records) (omega (arith, length-drop at w.records, record_within)) ∙ omega arith

  pub laid : SightLent p w.depths (take (at + size - at) (drop at w.records))
  laid =
      let sizes = left.shared.sizes in
      record {
        recorded = record { fine = sizes.fine; marks_long = sizes.marks_long; record_long = record_long };
        depths_long = sizes.depths_long;
        depths-fine = left.shared.depths-fine;
      }

pub stands : {s : Shape} {row column i : ℕ} → OnGrid s row column → i ≡ square_at s row column → OnSquare s i column
stands {s} {row} {column} {i} g e =
    record {
      fine = g.fine;
      inside = rw e (square_within s g.row_in g.column_in);
      column_is = sym (ap (λ (k : ℕ). k % s.columns) e ∙ column_of s row g.column_in);
    }
