-- Laws of the take-back: the first refusal before 11 by the tests in their order; a square's tests; and what then is restored.
-- Assumes nothing.
use mathlib.Core.Path.{◌≡◌, refl, sym, ap, ◌∙◌}
use mathlib.Core.Bool.{Bool, true, false, not}
use mathlib.Core.List.{List, [], ◌∷◌}
use Prim.Native.Nat.{ℕ, zero, suc, ◌+◌, ◌-◌, ◌≤◌, ◌<◌}
use native.Mathlib.Omega.{arith}
use lib.Dec.{leb}
use lib.ListN.{length, get_or, take, drop}
use borrow.Author.Tests.{leb-true, le-leb, lt-leb, eqb-true, eq-eqb, ne_eqb}
use Rattle.std.proofs.Common.{Some, None}
use Rattle.reckon.specs.Tests.{every, all_below, ◌unless◌, refusal}
use Rattle.reckon.specs.Lists.{filled}
use Rattle.reckon.specs.Ranges.{most_depth}
use Rattle.reckon.proofs.TestLaws.{pick_true, pick_false, or_right, Each, every_each, each_every, every_fails, refusal_here, refusal_later, passed_refusal}
use Rattle.trials.specs.Ring.{slots_in, slot_start}
use Rattle.trials.specs.Room.{record_in}
use Rattle.grid.specs.Squares.{squares, shape_fine}
use Rattle.grid.specs.Marks.{marks_fine}
use Rattle.grid.proofs.SquareLaws.{ranges_of_fine, fine_of_ranges}
use Rattle.ledger.specs.Runs.{Plan, World, world, run_fine, answered}
use Rattle.ledger.specs.Inner.Worlds.{of_depths}
use Rattle.ledger.specs.Flows.{shut, gone, came, off_grid, soaked_grid}
use Rattle.ledger.specs.Record.{record_size, lasted_in, leaves_in, last_in, added_in, soaked_in, room_slots, newest_record}
use Rattle.ledger.specs.Checks.{one_each, waters_fine, times_fine, WaterLent}
use Rattle.ledger.specs.TakeBack.{held_and_gone, came_and_added, depth_before, square_restorable, restorable, world_before, back_refusals, back_number, taken_back, TakesBack, early_refusals, run_before}
use Rattle.ledger.specs.Inner.TakeBack.{Kept, EarlyRefused, RecordAndDepths, Restores}
use Rattle.ledger.specs.Inner.Walks.{Walked}
use Rattle.ledger.specs.declared.runs.Run.{Run}
use Rattle.ledger.specs.declared.runs.Answer.TheVariants.{Done, Refused}
use Rattle.ledger.specs.declared.take_back.Found.{Found}
use Rattle.ledger.proofs.RunLaws.{every_decides, run_ring, answered_done, answered-refused}
use Rattle.ledger.proofs.RecordLaws.{part_long, slots_of, slot_fits}
use Rattle.ledger.proofs.WalkLaws.{walked_unfit}

-- ---- 11: one square

module _ (p : Plan) (rec depths : List ℕ) (i : ℕ) where
  pub restorable-closed : shut p i ≡ true → true ≡ square_restorable p (of_depths depths) rec i
  unfolding square_restorable
  restorable-closed e = rw e

  module _ (e : shut p i ≡ false) where
    pub restorable-last : {l : ℕ} → l ≡ last_in rec i → most_depth < l → false ≡ square_restorable p (of_depths depths) rec i
    unfolding square_restorable
    restorable-last q h = rw e (sym (every_fails _ 0 (lt-leb (last_in rec i) most_depth (omega arith))))

    module _ {more less : ℕ} (q : more ≡ get_or depths i 0 + (gone (leaves_in rec) i + soaked_in rec i)) (r : less ≡ came p (leaves_in rec) i + added_in rec i) where
      pub restorable-short : more < less → false ≡ square_restorable p (of_depths depths) rec i
      unfolding square_restorable held_and_gone came_and_added
      restorable-short h =
          rw e (sym (every_fails _ 1 (lt-leb (came p (leaves_in rec) i + added_in rec i) (get_or depths i 0 + (gone (leaves_in rec) i + soaked_in rec i)) (omega arith))))

      pub restorable_decides : {l : ℕ} → l ≡ last_in rec i → l ≤ most_depth → less ≤ more → leb (more - less) most_depth ≡ square_restorable p (of_depths depths) rec i
      unfolding square_restorable depth_before held_and_gone came_and_added
      restorable_decides s h g =
          rw (e, q, r)
          (every_decides
          (leb (last_in rec i) most_depth
          ∷ leb (came p (leaves_in rec) i + added_in rec i) (get_or depths i 0 + (gone (leaves_in rec) i + soaked_in rec i))
          ∷ [])
          (leb (get_or depths i 0 + (gone (leaves_in rec) i + soaked_in rec i) - (came p (leaves_in rec) i + added_in rec i)) most_depth) (
            le-leb (last_in rec i) most_depth (omega arith),
            (le-leb (came p (leaves_in rec) i + added_in rec i) (get_or depths i 0 + (gone (leaves_in rec) i + soaked_in rec i)) (omega arith), tt),
          ))

    -- what a square that passed may rely on
    pub restores_of : square_restorable p (of_depths depths) rec i ≡ true → Restores p rec depths i
    unfolding square_restorable
    restores_of h =
        let t = every_each _ (or_right (shut p i) _ h e) in
        record { enough = leb-true _ _ t.1.0; small = leb-true _ _ t.1.1.0 }

-- a square's depth before goes by its own depth
pub before_own : (p : Plan) (rec d e : List ℕ) (i : ℕ) → get_or d i 0 ≡ get_or e i 0 → depth_before p (of_depths d) rec i ≡ depth_before p (of_depths e) rec i
unfolding depth_before held_and_gone came_and_added
before_own p rec d e i h = rw h

pub restores_own : (p : Plan) (rec : List ℕ) {d e : List ℕ} (i : ℕ) → get_or d i 0 ≡ get_or e i 0 → Restores p rec e i → Restores p rec d i
unfolding depth_before held_and_gone came_and_added
restores_own p rec i h r = record { enough = rw h r.enough; small = rw h r.small }

-- ---- 11: the record

module _ (p : Plan) (w : World) (rec : List ℕ) where
  abbrev tests : List Bool
  tests =
      times_fine rec ∷ leb (lasted_in rec) w.run.clock ∷ all_below (squares p.shape) (square_restorable p w rec)
      ∷ leb (off_grid p (leaves_in rec)) w.run.outflow ∷ leb (soaked_grid p (soaked_in rec)) w.run.soaked ∷ []

  pub record_unfit : (k : ℕ) → get_or tests k true ≡ false → Walked p rec (restorable p w rec) None
  unfolding restorable
  record_unfit k e = walked_unfit p rec (every_fails tests k e)

  pub record_fit :
      {found : Found} → found.off ≡ off_grid p (leaves_in rec) → found.soaked ≡ soaked_grid p (soaked_in rec) →
      Each tests → Walked p rec (restorable p w rec) (Some found)
  unfolding restorable
  record_fit o s h = record { fits_is = sym (each_every tests h); off_is = o; soaked_is = s }

-- what a record that passed may rely on, and that it passes by depths and run alone
module _ (p : Plan) (w : World) (rec : List ℕ) where
  alone : restorable p (world w.depths [] [] w.run) rec ≡ restorable p w rec
  unfolding restorable square_restorable depth_before held_and_gone came_and_added
  alone = refl

  module _ (e : restorable p (world w.depths [] [] w.run) rec ≡ true) where
    each : Each (tests p w rec)
    unfolding restorable
    each = every_each (tests p w rec) (sym alone ∙ e)

    pub clock_covers : lasted_in rec ≤ w.run.clock
    clock_covers = leb-true _ _ each.1.0

    pub squares-restorable : all_below (squares p.shape) (square_restorable p (of_depths w.depths) rec) ≡ true
    unfolding square_restorable depth_before held_and_gone came_and_added
    squares-restorable = each.1.1.0

    pub outflow_covers : off_grid p (leaves_in rec) ≤ w.run.outflow
    outflow_covers = leb-true _ _ each.1.1.1.0

    pub soaked_covers : soaked_grid p (soaked_in rec) ≤ w.run.soaked
    soaked_covers = leb-true _ _ each.1.1.1.1.0

-- ---- refusals before 11

module _ (p : Plan) (w : World) where
  abbrev pub sized : Bool
  sized = every (shape_fine p.shape ∷ one_each p p.marks ∷ one_each p w.depths ∷ one_each p w.lasts ∷ [])

  pub watered_of : sized ≡ true → WaterLent p w.depths w.lasts
  unfolding one_each
  watered_of e =
      let t = every_each _ e in
      record {
        fine = ranges_of_fine p.shape t.0;
        marks_long = eqb-true _ _ t.1.0;
        depths_long = eqb-true _ _ t.1.1.0;
        lasts_long = eqb-true _ _ t.1.1.1.0;
      }

  refused_by : {n : ℕ} → (n ≡ 0 → ⊥) → back_number p w ≡ n → EarlyRefused p w n
  refused_by d e = record { refused = λ z. sym e; passed = λ z. absurd (d z) }

  pub looked_1 : sized ≡ false → EarlyRefused p w 1
  unfolding back_number back_refusals early_refusals
  looked_1 e = refused_by (λ z. omega arith) (refusal_here 1 _ e)

  module _ (s : sized ≡ true) where
    pub looked_2 : marks_fine p.shape p.marks ≡ false → EarlyRefused p w 2
    unfolding back_number back_refusals early_refusals
    looked_2 e = refused_by (λ z. omega arith) (refusal_later 1 _ s ∙ refusal_here 2 _ e)

    module _ (m : marks_fine p.shape p.marks ≡ true) where
      pub looked_3 : waters_fine p w.depths w.lasts ≡ false → EarlyRefused p w 3
      unfolding back_number back_refusals early_refusals
      looked_3 e = refused_by (λ z. omega arith) (refusal_later 1 _ s ∙ (refusal_later 2 _ m ∙ refusal_here 3 _ e))

      module _ (l : waters_fine p w.depths w.lasts ≡ true) where
        pub looked_6 : run_fine (room_slots p w.records) w.run ≡ false → EarlyRefused p w 6
        unfolding back_number back_refusals early_refusals run_fine
        looked_6 e =
            refused_by (λ z. omega arith) (refusal_later 1 _ s ∙ (refusal_later 2 _ m ∙ (refusal_later 3 _ l ∙ refusal_here 6 _ e)))

        module _ (r : run_fine (room_slots p w.records) w.run ≡ true) where
          pub looked_10 : w.run.kept ≡ 0 → EarlyRefused p w 10
          unfolding back_number back_refusals early_refusals run_fine
          looked_10 e =
              refused_by (λ z. omega arith)
              (refusal_later 1 _ s
              ∙ (refusal_later 2 _ m ∙ (refusal_later 3 _ l ∙ (refusal_later 6 _ r ∙ refusal_here 10 _ (ap not (eq-eqb w.run.kept 0 e))))))

          pub looked_none : (w.run.kept ≡ 0 → ⊥) → EarlyRefused p w 0
          looked_none d =
              record {
                refused = λ z. absurd (z refl);
                passed = λ z. record { watered = watered_of s; marks-fine = m; waters-fine = l; run-fine = r; some_kept = d };
              }

  -- ---- the answer

  late : Kept p w → back_number p w ≡ refusal (11 unless restorable p w (newest_record p w) ∷ [])
  unfolding back_number back_refusals early_refusals run_fine one_each
  late k =
      refusal_later 1 _
      (each_every _ (
        fine_of_ranges p.shape k.watered.fine,
        (eq-eqb _ _ k.watered.marks_long, (eq-eqb _ _ k.watered.depths_long, (eq-eqb _ _ k.watered.lasts_long, tt))),
      ))
      ∙ (refusal_later 2 _ k.marks-fine
      ∙ (refusal_later 3 _ k.waters-fine
      ∙ (refusal_later 6 _ k.run-fine ∙ refusal_later 10 _ (ap not (ne_eqb w.run.kept 0 k.some_kept)))))

  as_it_was : {n : ℕ} → (n ≡ 0 → ⊥) → n ≡ back_number p w → TakesBack p w (Refused n) w.depths w.lasts
  unfolding taken_back
  as_it_was {n} d e =
      let stays : taken_back p w ≡ w = pick_false _ _ (ne_eqb (back_number p w) 0 (λ z. d (e ∙ z))) in
      record {
        answer = answered-refused n (taken_back p w).run d ∙ ap (λ (k : ℕ). answered k (taken_back p w).run) e;
        depths_are = ap (λ (v : World). v.depths) (sym stays);
        lasts_are = ap (λ (v : World). v.lasts) (sym stays);
      }

  pub takes_refused : {n : ℕ} → (n ≡ 0 → ⊥) → EarlyRefused p w n → TakesBack p w (Refused n) w.depths w.lasts
  takes_refused d l = as_it_was d (l.refused d)

  module _ (k : Kept p w) {rec : List ℕ} (q : rec ≡ newest_record p w) where
    pub takes_unfit : restorable p (world w.depths [] [] w.run) rec ≡ false → TakesBack p w (Refused 11) w.depths w.lasts
    takes_unfit e =
        as_it_was (λ z. omega arith) (sym (late k ∙ refusal_here 11 [] (ap (restorable p w) (sym q) ∙ (sym (alone p w rec) ∙ e))))

    pub takes_back :
        restorable p (world w.depths [] [] w.run) rec ≡ true → {u : Run} {d l : List ℕ} {slots off soaked : ℕ} →
        slots ≡ room_slots p w.records → off ≡ off_grid p (leaves_in rec) → soaked ≡ soaked_grid p (soaked_in rec) →
        u ≡ run_before slots w.run rec off soaked →
        d ≡ filled (squares p.shape) (shut p) (depth_before p (of_depths w.depths) rec) w.depths →
        l ≡ filled (squares p.shape) (shut p) (last_in rec) w.lasts → TakesBack p w (Done u) d l
    unfolding taken_back world_before depth_before held_and_gone came_and_added
    takes_back e {u} s o t r g h =
        let z : back_number p w ≡ 0 = late k ∙ passed_refusal _ (ap (restorable p w) (sym q) ∙ (sym (alone p w rec) ∙ e), tt) in
        let back : taken_back p w ≡ world_before p w rec = pick_true _ _ (eq-eqb (back_number p w) 0 z) ∙ ap (world_before p w) (sym q) in
        let run_is : u ≡ (world_before p w rec).run = rw (r, s, o, t) in
        record {
          answer = ap Done (run_is ∙ ap (λ (v : World). v.run) (sym back)) ∙ answered_done (taken_back p w).run z;
          depths_are = g ∙ ap (λ (v : World). v.depths) (sym back);
          lasts_are = h ∙ ap (λ (v : World). v.lasts) (sym back);
        }

-- ---- the newest record in its room

positive : (n : ℕ) → (n ≡ 0 → ⊥) → 1 ≤ n
positive zero d = absurd (d refl)
positive (suc n) d = omega arith

module _ (p : Plan) (w : World) (k : Kept p w) {size slots : ℕ} (e : size ≡ record_size p) (s : slots ≡ slots_in size (length w.records)) where
  pub newest_below : w.run.newest < slots
  newest_below = rw (slots_of p w.records e s) (run_ring (room_slots p w.records) w.run k.run-fine).newest_below

  pub kept_some : 1 ≤ w.run.kept
  kept_some = positive w.run.kept k.some_kept

  pub newest_fits : slot_start size w.run.newest + size ≤ length w.records
  newest_fits = slot_fits p w.records e s newest_below

  module _ {at : ℕ} (a : at ≡ slot_start size w.run.newest) where
    pub newest_is : take (at + size - at) (drop at w.records) ≡ newest_record p w
    unfolding newest_record record_in
    newest_is =
        let c : at + size - at ≡ size = omega arith in
        rw (c, a, e)

    pub newest_long : length (take (at + size - at) (drop at w.records)) ≡ record_size p
    newest_long = part_long at size w.records (omega (arith, newest_fits)) ∙ e

    pub newest_led : {depths : List ℕ} → length depths ≡ squares p.shape → RecordAndDepths p (take (at + size - at) (drop at w.records)) depths
    newest_led l =
        record {
          recorded = record { fine = k.watered.fine; marks_long = k.watered.marks_long; record_long = newest_long };
          depths_long = l;
        }
