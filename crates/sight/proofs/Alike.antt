-- No answer depends on what a closed square holds: each of its numbers stands behind a choice that does not take it.
-- Assumes nothing.
use mathlib.Core.Path.{◌≡◌, refl, sym, ap, ap₂, ◌∙◌}
use mathlib.Core.Bool.{Bool, true, false, ◌&&◌, ◌||◌, not}
use mathlib.Core.List.{List, [], ◌∷◌, ◌++◌}
use Prim.Native.Nat.{ℕ, zero, suc, ◌+◌, ◌/◌, ◌%◌, ◌<◌}
use native.Mathlib.Omega.{arith}
use lib.Dec.{eqb, leb}
use lib.ListN.{length, get_or}
use Rattle.reckon.specs.Tests.{pick, every, Row, ◌unless◌, refusal}
use Rattle.reckon.specs.Ranges.{most_depth}
use Rattle.reckon.proofs.TestLaws.{all_ext}
use Rattle.trials.specs.Ring.{slots_in}
use Rattle.grid.specs.Squares.{north, east, south, west, squares, sides, square_at, within, beside, opposite, shape_fine}
use Rattle.grid.specs.Marks.{Alike, marks_fine}
use Rattle.grid.proofs.SquareLaws.{opposite_small}
use Rattle.grid.proofs.MarkLaws.{unless_closed}
use Rattle.grid.proofs.MaskLaws.{masks_alike}
use Rattle.ledger.specs.declared.runs.Run.{Run}
use Rattle.ledger.specs.Runs.{Plan, run_fine}
use Rattle.ledger.specs.Flows.{shut, sent}
use Rattle.ledger.specs.Record.{record_size, held_in, lasted_in, leaves_in, room_slots, newest_record}
use Rattle.ledger.specs.Checks.{one_each, times_fine}
use Rattle.sight.specs.Refusals.{depths_fine, shared_refusals}
use Rattle.sight.specs.Speeds.{side_speed, arrow_of}
use Rattle.sight.specs.Arrows.{net_none, out_through, near_depth, through_side, all_still, arrow_by, sighted, seen_by, view, asked_fine, arrow_early_refusals, arrow_refusals, arrow_number, seen_at}
use Rattle.sight.specs.AllArrows.{Sights, seen_square, all_refusals, all_number, SeesAll}
use Rattle.sight.specs.WetRows.{ones_over, wet_refusals, wet_number, counted, WetRowed}
use Rattle.sight.specs.declared.speeds.Arrow.{Arrow}
use Rattle.sight.specs.declared.wet_rows.Wet.{Wet}
use Rattle.sight.proofs.ArrowLaws.{number_in, number_kept}
use Rattle.sight.proofs.AllArrowsLaws.{laid_ext}

-- depths that are alike, as many
pub record AlikeDepths (p : Plan) (a b : List ℕ) : Type 0 where
  pub as_many : length a ≡ length b
  pub alike : Alike p.marks a b

-- records with the same length held and time lasted, and the same leavings of squares that are not closed
pub record AlikeRecords (p : Plan) (a b : List ℕ) : Type 0 where
  pub held : held_in a ≡ held_in b
  pub lasted : lasted_in a ≡ lasted_in b
  pub leaves : (i side : ℕ) → side < sides → shut p i ≡ false → leaves_in a i side ≡ leaves_in b i side

-- ---- refusals

module _ (p : Plan) {a b : List ℕ} (h : AlikeDepths p a b) where
  one_each_alike : one_each p a ≡ one_each p b
  unfolding one_each
  one_each_alike = ap (λ (n : ℕ). eqb n (squares p.shape)) h.as_many

  depths-fine_alike : depths_fine p a ≡ depths_fine p b
  unfolding depths_fine
  depths-fine_alike = all_ext _ _ _ (λ i l. go i (shut p i) refl)
    where
      go : (i : ℕ) (t : Bool) → shut p i ≡ t → (shut p i || leb (get_or a i 0) most_depth) ≡ (shut p i || leb (get_or b i 0) most_depth)
      go i true e = rw e
      go i false e = ap (λ (d : ℕ). shut p i || leb d most_depth) (h.alike.at i e)

  shared_alike : (more : Bool) → shared_refusals p a more ≡ shared_refusals p b more
  unfolding shared_refusals
  shared_alike more =
      ap₂ (λ (s t : Bool).
      1 unless every (shape_fine p.shape ∷ one_each p p.marks ∷ s ∷ [])
      ∷ 1 unless more
      ∷ 2 unless marks_fine p.shape p.marks
      ∷ 3 unless t
      ∷ [])
      one_each_alike depths-fine_alike

  -- ---- wet rows

  pub wet_number_alike : (least numbers : ℕ) → wet_number p a least numbers ≡ wet_number p b least numbers
  unfolding wet_number wet_refusals
  wet_number_alike least numbers =
      ap (λ (rows : List Row). refusal (rows ++ (5 unless leb least most_depth ∷ []))) (shared_alike (eqb numbers p.shape.rows))

  -- alike depths give the same answer and the same rows
  pub wet_alike : {least : ℕ} {old : List ℕ} {r : Wet} {rows : List ℕ} → WetRowed p a least old r rows → WetRowed p b least old r rows
  wet_alike {least} {old} {r} {rows} w =
      record {
        answer = w.answer ∙ ap₂ counted (wet_number_alike least (length old)) (ap ones_over (masks_alike p.shape p.marks h.alike least));
        rows_are = w.rows_are ∙ ap₂ (λ (n : ℕ) (l : List ℕ). pick (eqb n 0) l old) (wet_number_alike least (length old)) (masks_alike p.shape p.marks h.alike least);
      }

-- ---- arrows

module _ (p : Plan) (D : ℕ) {d e r s : List ℕ} (h : AlikeDepths p d e) (g : AlikeRecords p r s) where
  -- through a side of a square that is not closed
  through_alike : (i side : ℕ) → side < sides → shut p i ≡ false → through_side p d r i side ≡ through_side p e s i side
  unfolding through_side out_through near_depth sent
  through_alike i side l o =
      let j = beside p.shape i side in
      let out = ap (λ (x : ℕ). pick (within p.shape j && shut p j) 0 x) (g.leaves i side l o) in
      let back = unless_closed p.marks j 0 (g.leaves j (opposite side) (opposite_small side)) in
      let own = h.alike.at i o in
      let near = ap (λ (x : ℕ). pick (shut p j) x (get_or d j 0)) own ∙ unless_closed p.marks j (get_or e i 0) (h.alike.at j) in
      λ k. record { out = out k; back = back k; deep = own k + near k }

  open_alike : (number i : ℕ) → shut p i ≡ false → seen_by number p D d r i ≡ seen_by number p D e s i
  unfolding seen_by all_still arrow_by
  open_alike number i o =
      let n = through_alike i north (omega arith) o in
      let ea = through_alike i east (omega arith) o in
      let so = through_alike i south (omega arith) o in
      let we = through_alike i west (omega arith) o in
      let l = g.lasted in
      λ k.
      sighted number (shut p i) (eqb (h.alike.at i o k) 0) (every (net_none (n k) ∷ net_none (ea k) ∷ net_none (so k) ∷ net_none (we k) ∷ []))
      (arrow_of (side_speed D (l k) (n k)) (side_speed D (l k) (ea k)) (side_speed D (l k) (so k)) (side_speed D (l k) (we k)))

  closed_same_lem : (number : ℕ) {c : Bool} (a b m n : Bool) (x y : Arrow) → c ≡ true → sighted number c a m x ≡ sighted number c b n y
  unfolding sighted
  closed_same_lem zero a b m n x y q = rw q
  closed_same_lem (suc number) a b m n x y q = refl

  seen_alike : (number i : ℕ) → seen_by number p D d r i ≡ seen_by number p D e s i
  unfolding seen_by
  seen_alike number i = go (shut p i) refl
    where
      go : (t : Bool) → shut p i ≡ t → seen_by number p D d r i ≡ seen_by number p D e s i
      go true q = closed_same_lem number _ _ _ _ _ _ q
      go false q = open_alike number i q

  times_alike : times_fine r ≡ times_fine s
  unfolding times_fine
  times_alike = cc (g.held, g.lasted)

room_alike : (p : Plan) (r s : List ℕ) → length r ≡ length s → room_slots p r ≡ room_slots p s
unfolding room_slots
room_alike p r s m = ap (λ (n : ℕ). slots_in (record_size p) n) m

-- alike depths, and record rooms of one size whose newest records are alike, give the same answer
pub arrow_alike :
    (p : Plan) (D : ℕ) {d e : List ℕ} (r s : List ℕ) (run : Run) (row column : ℕ) →
    AlikeDepths p d e → length r ≡ length s → AlikeRecords p (newest_record p (view d r run)) (newest_record p (view e s run)) →
    seen_at p D (view d r run) row column ≡ seen_at p D (view e s run) row column
unfolding seen_at arrow_number arrow_refusals arrow_early_refusals
arrow_alike p D {d} {e} r s run row column h m g =
    let shared = shared_alike p h (asked_fine p.shape D row column) in
    let slots = room_alike p r s m in
    let times = times_alike p D h g in
    let number : arrow_number p D (view d r run) row column ≡ arrow_number p D (view e s run) row column =
    λ k.
    refusal
    ((shared k
    ++ (6 unless run_fine (slots k) run ∷ 10 unless not (eqb run.kept 0) ∷ []))
    ++ (11 unless times k ∷ [])) in
    ap (λ (n : ℕ). seen_by n p D d (newest_record p (view d r run)) (square_at p.shape row column)) number
    ∙ seen_alike p D h g (arrow_number p D (view e s run) row column) (square_at p.shape row column)

-- the arrows of all squares: the same number and the same rooms
module _ (p : Plan) (D : ℕ) {d e : List ℕ} (r s : List ℕ) (run : Run) (h : AlikeDepths p d e) (m : length r ≡ length s)
    (g : AlikeRecords p (newest_record p (view d r run)) (newest_record p (view e s run))) where
  seen_same : (i : ℕ) → seen_square p D (view d r run) i ≡ seen_square p D (view e s run) i
  unfolding seen_square
  seen_same i = arrow_alike p D r s run (i / p.shape.columns) (i % p.shape.columns) h m g

  first_same : arrow_number p D (view d r run) 0 0 ≡ arrow_number p D (view e s run) 0 0
  unfolding seen_at seen_by
  first_same =
      sym (number_kept (arrow_number p D (view d r run) 0 0) _ _ _ _)
      ∙ (ap number_in (arrow_alike p D r s run 0 0 h m g) ∙ number_kept (arrow_number p D (view e s run) 0 0) _ _ _ _)

  all_number_alike : (old : Sights) → all_number p D (view d r run) old ≡ all_number p D (view e s run) old
  unfolding all_number all_refusals arrow_number refusal
  all_number_alike old =
      ap (λ (n : ℕ). pick (every (eqb (length old.kinds) (length p.marks) ∷ eqb (length old.east) (length p.marks) ∷ eqb (length old.north) (length p.marks) ∷ [])) n 1)
      first_same

  pub all_arrows_alike : {old new : Sights} {n : ℕ} → SeesAll p D (view d r run) old n new → SeesAll p D (view e s run) old n new
  all_arrows_alike {old} x =
      record {
        number_is = x.number_is ∙ all_number_alike old;
        rooms_are =
            x.rooms_are
            ∙ ap₂ (λ (k : ℕ) (l : Sights). pick (eqb k 0) l old) (all_number_alike old) (laid_ext (squares p.shape) _ _ (λ i l. seen_same i));
      }
