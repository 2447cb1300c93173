-- A step that was made is taken back exactly, by the record that it wrote: the laws that an engine owes.
-- Assumes nothing.
use mathlib.Core.Path.{◌≡◌, refl, sym, ap, ◌∙◌, subst}
use mathlib.Core.Bool.{Bool, true, false}
use mathlib.Core.List.{List}
use Prim.Native.Nat.{ℕ, zero, suc, ◌+◌, ◌-◌, ◌≤◌, ◌<◌}
use native.Mathlib.Omega.{arith}
use lib.ListN.{length, get_or}
use lib.Seq.{ext_get_or}
use borrow.Author.Tests.{leb-true, eqb-true, le-leb, eq-eqb}
use Rattle.reckon.specs.Tests.{refusal}
use Rattle.reckon.specs.Lists.{filled}
use Rattle.reckon.specs.Ranges.{most_depth, most_length, last_clock, most_outflow, most_soaked, water_fine}
use Rattle.reckon.proofs.TestLaws.{or_right, or_of, every_each, each_every, all_at, all_of, refusal_passed, passed_refusal, refusal_both, pick_true}
use Rattle.reckon.proofs.ListLaws.{length-filled, filled_in, filled_skipped}
use Rattle.trials.specs.Inner.Series.{done}
use Rattle.trials.specs.Inner.Owes.{Laws}
use Rattle.trials.proofs.RoomLaws.{slots_stored, read_stored, read_other}
use Rattle.trials.proofs.StepLaws.{not_done}
use Rattle.grid.specs.Squares.{squares, shape_fine}
use Rattle.grid.specs.Marks.{marks_fine}
use Rattle.ledger.specs.Runs.{Plan, World, Seen, seen_of, run_values_fine}
use Rattle.ledger.specs.Flows.{shut, gone, came, off_grid, soaked_grid}
use Rattle.ledger.specs.Record.{record_size, lasted_in, leaves_in, last_in, soaked_in, room_slots}
use Rattle.ledger.specs.After.{Moves, remains, new_depth, depths_fit, new_outflow, new_soaked, late_refusals, step_record, world_after}
use Rattle.ledger.specs.Checks.{one_each, waters_fine, times_fine}
use Rattle.ledger.specs.TakeBack.{held_and_gone, came_and_added, depth_before, square_restorable, restorable, world_before, early_refusals}
use Rattle.ledger.specs.Inner.Engine.{bare, StepRule, outcome, made_number, engine, Owed}
use Rattle.ledger.proofs.ReadBack.{step_long, step-held, step_lasted, step_off, step-came, step_gone, step-last, step_added, step_soaked, step_soaked_grid}

-- a room filled in part, and then in the same places with the old numbers, is as it was
refilled :
    (n : ℕ) (skipped : ℕ → Bool) (f g : ℕ → ℕ) (old : List ℕ) → length old ≡ n →
    ((i : ℕ) → i < n → skipped i ≡ false → f i ≡ get_or old i 0) → filled n skipped f (filled n skipped g old) ≡ old
refilled n skipped f g old long back =
    ext_get_or 0 (filled n skipped f filled-once) old (length-filled n skipped f filled-once ∙ once_long)
    (λ i l. at i (omega (arith, l, length-filled n skipped f filled-once, once_long, long)) (skipped i) refl)
  where
    filled-once : List ℕ
    filled-once = filled n skipped g old

    once_long : length filled-once ≡ length old
    once_long = length-filled n skipped g old

    at : (i : ℕ) → i < n → (b : Bool) → skipped i ≡ b → get_or (filled n skipped f filled-once) i 0 ≡ get_or old i 0
    at i inside true e =
        filled_skipped n skipped f filled-once i (omega (arith, once_long)) e ∙ filled_skipped n skipped g old i (omega arith) e
    at i inside false e = filled_in n skipped f filled-once i (omega (arith, once_long)) inside e ∙ back i inside e

outcome_done : {A : Type 0} (n : ℕ) {a b : A} → outcome n a ≡ done b → (n ≡ 0) × (a ≡ b)
unfolding outcome
outcome_done zero e = (refl, cc)
outcome_done (suc n) e = absurd (not_done e)

module _ (p : Plan) where
  -- ---- what a take-back's look has seen

  -- the look's rows as facts
  pub record Looks (ring : Bool) (v : Seen) : Type 0 where
    pub shape-fine : shape_fine p.shape ≡ true
    pub marks_long : length p.marks ≡ squares p.shape
    pub depths_long : length v.depths ≡ squares p.shape
    pub lasts_long : length v.lasts ≡ squares p.shape
    pub marks-fine : marks_fine p.shape p.marks ≡ true
    pub depth_to : (i : ℕ) → i < squares p.shape → shut p i ≡ false → get_or v.depths i 0 ≤ most_depth
    pub last_to : (i : ℕ) → i < squares p.shape → shut p i ≡ false → get_or v.lasts i 0 ≤ most_depth
    pub ring-fine : ring ≡ true
    pub clock_to : v.clock ≤ last_clock
    pub length_from : 1 ≤ v.length
    pub length_to : v.length ≤ most_length
    pub outflow_to : v.outflow ≤ most_outflow
    pub soaked_to : v.soaked ≤ most_soaked

  module _ (ring : Bool) (v : Seen) where
    waters_at : waters_fine p v.depths v.lasts ≡ true → (i : ℕ) → i < squares p.shape → shut p i ≡ false →
        (get_or v.depths i 0 ≤ most_depth) × (get_or v.lasts i 0 ≤ most_depth)
    unfolding waters_fine water_fine
    waters_at h i inside e =
        let both = every_each _ (or_right (shut p i) _ (all_at (squares p.shape) _ h i inside) e) in
        (leb-true _ _ both.0, leb-true _ _ both.1.0)

    pub look_seen : refusal (early_refusals p ring v) ≡ 0 → Looks ring v
    unfolding early_refusals one_each run_values_fine
    look_seen e =
        let rows = refusal_passed (early_refusals p ring v) tt e in
        let sizes = every_each _ rows.0 in
        let run = every_each _ rows.1.1.1.0 in
        record {
          shape-fine = sizes.0;
          marks_long = eqb-true _ _ sizes.1.0;
          depths_long = eqb-true _ _ sizes.1.1.0;
          lasts_long = eqb-true _ _ sizes.1.1.1.0;
          marks-fine = rows.1.0;
          depth_to = λ i inside h. (waters_at rows.1.1.0 i inside h).0;
          last_to = λ i inside h. (waters_at rows.1.1.0 i inside h).1;
          ring-fine = run.0;
          clock_to = leb-true _ _ run.1.0;
          length_from = leb-true _ _ run.1.1.0;
          length_to = leb-true _ _ run.1.1.1.0;
          outflow_to = leb-true _ _ run.1.1.1.1.0;
          soaked_to = leb-true _ _ run.1.1.1.1.1.0;
        }

    waters_of : Looks ring v → waters_fine p v.depths v.lasts ≡ true
    unfolding waters_fine water_fine
    waters_of L =
        all_of (squares p.shape) _
        (λ i inside. or_of (shut p i) _ (λ e. each_every _ (omega (arith, le-leb, L.depth_to i inside e, L.last_to i inside e))))

    pub seen_look : Looks ring v → refusal (early_refusals p ring v) ≡ 0
    unfolding early_refusals one_each run_values_fine
    seen_look L =
        passed_refusal _
        (each_every _ (L.shape-fine, omega (arith, eq-eqb)), (L.marks-fine, (waters_of L, (each_every _ (L.ring-fine, omega (arith, le-leb)), tt))))

  -- ---- a step within its bounds, taken back

  -- what a rule owes of what a step moves
  record Bounded (m : Moves) (v : Seen) : Type 0 where
    lasts_from : 1 ≤ m.duration
    lasts_to : m.duration ≤ most_length
    length_from : 1 ≤ m.length
    length_to : m.length ≤ most_length
    covered : (i : ℕ) → i < squares p.shape → shut p i ≡ false → gone m.leaves i + m.soaked i ≤ get_or v.depths i 0

  module _ (m : Moves) (w : World) (L : Looks true (seen_of w)) (B : Bounded m (seen_of w)) (late : refusal (late_refusals p m w) ≡ 0) where
    abbrev next_world : World
    next_world = world_after p m w

    abbrev next_record : List ℕ
    next_record = step_record p m w

    clock_fits : w.run.clock + m.duration ≤ last_clock
    unfolding late_refusals
    clock_fits = leb-true _ _ (refusal_passed (late_refusals p m w) tt late).0

    depth_fits : (i : ℕ) → i < squares p.shape → shut p i ≡ false → new_depth p m w i ≤ most_depth
    unfolding late_refusals depths_fit
    depth_fits i inside e =
        leb-true _ _ (or_right (shut p i) _ (all_at (squares p.shape) _ (refusal_passed (late_refusals p m w) tt late).1.0 i inside) e)

    outflow_fits : new_outflow p m w ≤ most_outflow
    unfolding late_refusals
    outflow_fits = leb-true _ _ (refusal_passed (late_refusals p m w) tt late).1.1.0

    soaked_fits : new_soaked p m w ≤ most_soaked
    unfolding late_refusals
    soaked_fits = leb-true _ _ (refusal_passed (late_refusals p m w) tt late).1.1.1.0

    -- a square that is not closed
    module _ (i : ℕ) (inside : i < squares p.shape) (not_closed : shut p i ≡ false) where
      depth-after : get_or next_world.depths i 0 ≡ new_depth p m w i
      unfolding world_after
      depth-after = filled_in (squares p.shape) (shut p) (new_depth p m w) w.depths i (omega (arith, L.depths_long)) inside not_closed

      last-after : get_or next_world.lasts i 0 ≡ gone m.leaves i
      unfolding world_after
      last-after = filled_in (squares p.shape) (shut p) (gone m.leaves) w.lasts i (omega (arith, L.lasts_long)) inside not_closed

      held_is : held_and_gone p next_world next_record i ≡ new_depth p m w i + (gone m.leaves i + m.soaked i)
      unfolding held_and_gone
      held_is = rw (depth-after, step_gone p m w i inside not_closed, step_soaked p m w i inside not_closed)

      came_is : came_and_added p next_world next_record i ≡ came p m.leaves i + m.added i
      unfolding came_and_added
      came_is = rw (step-came p m w L.marks_long i, step_added p m w i inside not_closed)

      came_fits : came_and_added p next_world next_record i ≤ held_and_gone p next_world next_record i
      unfolding new_depth remains
      came_fits = omega (arith, held_is, came_is)

      -- what went and soaked is no more than what was there, so that adding it again gives what was there
      depth_back : depth_before p next_world next_record i ≡ get_or w.depths i 0
      unfolding depth_before new_depth remains
      depth_back = omega (arith, held_is, came_is, B.covered i inside not_closed)

    looks_after : Looks true (seen_of next_world)
    unfolding world_after
    looks_after =
        record {
          shape-fine = L.shape-fine;
          marks_long = L.marks_long;
          depths_long = length-filled (squares p.shape) (shut p) (new_depth p m w) w.depths ∙ L.depths_long;
          lasts_long = length-filled (squares p.shape) (shut p) (gone m.leaves) w.lasts ∙ L.lasts_long;
          marks-fine = L.marks-fine;
          depth_to = λ i inside e. rw (depth-after i inside e) (depth_fits i inside e);
          last_to = λ i inside e. omega (arith, last-after i inside e, B.covered i inside e, L.depth_to i inside e);
          ring-fine = refl;
          clock_to = clock_fits;
          length_from = B.length_from;
          length_to = B.length_to;
          outflow_to = outflow_fits;
          soaked_to = soaked_fits;
        }

    square_back : (i : ℕ) → i < squares p.shape → square_restorable p next_world next_record i ≡ true
    unfolding square_restorable
    square_back i inside =
        or_of (shut p i) _
        (λ e.
        let last-is = step-last p m w i inside e in
        each_every _ (omega (arith, le-leb, last-is, L.last_to i inside e, came_fits i inside e, depth_back i inside e, L.depth_to i inside e)))

    times_back : times_fine next_record ≡ true
    unfolding times_fine
    times_back = each_every _ (omega (arith, le-leb, step-held p m w, step_lasted p m w))

    restorable-after : restorable p next_world next_record ≡ true
    unfolding restorable world_after new_outflow new_soaked
    restorable-after =
        let in-time : lasted_in next_record ≤ w.run.clock + m.duration = omega (arith, step_lasted p m w) in
        let in-total : off_grid p (leaves_in next_record) ≤ w.run.outflow + off_grid p m.leaves = omega (arith, step_off p m w) in
        let in-soaked : soaked_grid p (soaked_in next_record) ≤ w.run.soaked + soaked_grid p m.soaked = omega (arith, step_soaked_grid p m w) in
        each_every _ (times_back, (le-leb _ _ in-time, (all_of (squares p.shape) _ square_back, (le-leb _ _ in-total, (le-leb _ _ in-soaked, tt)))))

    before-after : seen_of (world_before p next_world next_record) ≡ seen_of w
    unfolding world_before world_after new_outflow new_soaked
    before-after =
        λ j. record { depths = depths j; lasts = lasts j; clock = clock j; length = step-held p m w j; outflow = outflow j; soaked = soaked j }
      where
        depths : filled (squares p.shape) (shut p) (depth_before p next_world next_record) next_world.depths ≡ w.depths
        depths = refilled (squares p.shape) (shut p) (depth_before p next_world next_record) (new_depth p m w) w.depths L.depths_long depth_back

        lasts : filled (squares p.shape) (shut p) (last_in next_record) next_world.lasts ≡ w.lasts
        lasts = refilled (squares p.shape) (shut p) (last_in next_record) (gone m.leaves) w.lasts L.lasts_long (step-last p m w)

        clock : w.run.clock + m.duration - lasted_in next_record ≡ w.run.clock
        clock = omega (arith, step_lasted p m w)

        outflow : w.run.outflow + off_grid p m.leaves - off_grid p (leaves_in next_record) ≡ w.run.outflow
        outflow = omega (arith, step_off p m w)

        soaked : w.run.soaked + soaked_grid p m.soaked - soaked_grid p (soaked_in next_record) ≡ w.run.soaked
        soaked = omega (arith, step_soaked_grid p m w)

  -- ---- what is seen needs no record room

  module _ (w : World) (rec : List ℕ) where
    pub restorable-bare : restorable p (bare (seen_of w)) rec ≡ restorable p w rec
    unfolding restorable square_restorable depth_before held_and_gone came_and_added
    restorable-bare = refl

    pub before-bare : seen_of (world_before p (bare (seen_of w)) rec) ≡ seen_of (world_before p w rec)
    unfolding world_before depth_before held_and_gone came_and_added
    before-bare = refl

  -- ---- the engine's laws

  module _ {Given : Type 0} (rule : StepRule Given) (o : Owed p rule) where
    bounds_kept : (ring : Bool) (g : Given) (v : Seen) → refusal (rule.checks ring g v) ≡ 0 → Bounded (rule.moves g v) v
    bounds_kept ring g v ok =
        record {
          lasts_from = o.lasts_from ring g v ok;
          lasts_to = o.lasts_to ring g v ok;
          length_from = o.length_from ring g v ok;
          length_to = o.length_to ring g v ok;
          covered = o.covered ring g v ok;
        }

    look_passed : (ring : Bool) (g : Given) (v : Seen) → refusal (rule.checks ring g v) ≡ 0 → Looks true v
    look_passed ring g v ok =
        let L : Looks ring v = look_seen ring v (o.looks ring g v ok) in
        subst (λ (b : Bool). Looks b v) L.ring-fine L

    -- where the checks pass and no late row refuses, the look at what is seen after the step passes
    pub valid_after : (ring : Bool) (g : Given) (w : World) → refusal (rule.checks ring g (seen_of w)) ≡ 0 →
        refusal (late_refusals p (rule.moves g (seen_of w)) w) ≡ 0 → refusal (early_refusals p true (seen_of (world_after p (rule.moves g (seen_of w)) w))) ≡ 0
    valid_after ring g w ok late =
        seen_look true (seen_of (world_after p (rule.moves g (seen_of w)) w))
        (looks_after (rule.moves g (seen_of w)) w (look_passed ring g (seen_of w) ok) (bounds_kept ring g (seen_of w) ok) late)

    -- What is known of a step that was made.
    record Made (ring : Bool) (g : Given) (v : Seen) (made : Seen × List ℕ) : Type 0 where
      checked : refusal (rule.checks ring g v) ≡ 0
      timely : refusal (late_refusals p (rule.moves g v) (bare v)) ≡ 0
      is_it : made ≡ (seen_of (world_after p (rule.moves g v) (bare v)), step_record p (rule.moves g v) (bare v))

    is_made : {ring : Bool} {g : Given} {v : Seen} {made : Seen × List ℕ} → (engine p rule).make ring g v ≡ done made → Made ring g v made
    is_made {ring} {g} {v} {made} e =
        let both = outcome_done (made_number p rule ring g v) e in
        let none = refusal_both (rule.checks ring g v) (late_refusals p (rule.moves g v) (bare v)) (o.named ring g v) both.0 in
        record { checked = none.0; timely = none.1; is_it = sym both.1 }

    unmakes : {g : Given} {v : Seen} {made : Seen × List ℕ} → Made true g v made → (engine p rule).unmake made.1 made.0 ≡ done v
    unmakes {g} {v} M =
        let m : Moves = rule.moves g v in
        let L : Looks true v = look_passed true g v M.checked in
        let B : Bounded m v = bounds_kept true g v M.checked in
        let after : World = world_after p m (bare v) in
        let rec : List ℕ = step_record p m (bare v) in
        rw M.is_it
        (pick_true _ _ (restorable-bare after rec ∙ restorable-after m (bare v) L B M.timely)
        ∙ ap done (before-bare after rec ∙ before-after m (bare v) L B M.timely))

    pub engine_laws : Laws (engine p rule)
    unfolding room_slots
    engine_laws =
        record {
          Fits = λ rec. length rec ≡ record_size p;
          slots_stored = slots_stored (record_size p) size_pos;
          read_stored = read_stored (record_size p) size_pos;
          read_other = λ room w u rec fits h k d. read_other (record_size p) size_pos room w rec fits h u d;
          make_fine = λ {b} {i} {v} e. (look_seen b v (o.looks b i v (is_made e).checked)).ring-fine;
          made_fits = λ {i} {v} e. let M = is_made e in rw M.is_it (step_long p (rule.moves i v) (bare v));
          look_before = λ {i} {v} e. o.looks true i v (is_made e).checked;
          look_after = λ {i} {v} e. let M = is_made e in rw M.is_it (valid_after true i (bare v) M.checked M.timely);
          unmake_made = λ e. unmakes (is_made e);
        }
      where
        size_pos : 0 < record_size p
        size_pos = omega arith
