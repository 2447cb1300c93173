-- Demand 2 holds: what leaves a square goes by squares not closed alone, so it is the same function of square and side, and all above follows.
-- Assumes nothing.
use mathlib.Core.Path.{◌≡◌, refl, sym, ap, ap₂, ◌∙◌, subst}
use mathlib.Core.Bool.{Bool, true, false, ◌||◌}
use mathlib.Core.List.{List, [], ◌∷◌, ◌++◌}
use Prim.Native.Nat.{ℕ, zero, suc, ◌+◌, ◌-◌, ◌*◌, ◌≤◌, ◌<◌}
use native.Mathlib.Nat.{mul-le-mul, div-le_self}
use native.Mathlib.Decide.{dec_lt, ℕ_discrete}
use native.Mathlib.Omega.{arith}
use lib.Dec.{eqb, leb, ltb}
use lib.ListN.{length, get_or, get_or-eq_default}
use Rattle.reckon.specs.Tests.{pick, all_below, refusal}
use Rattle.reckon.specs.Lists.{filled}
use Rattle.reckon.specs.Ranges.{most_depth, water_fine}
use Rattle.reckon.proofs.TestLaws.{pick_true, pick_both, all_ext}
use Rattle.reckon.proofs.RootLaws.{root_right}
use Rattle.reckon.proofs.ListLaws.{get_or-tabulate, length-filled, filled_in, filled_skipped, joined_ext, length-placed, placed-before, placed-after, sum_ext}
use Rattle.trials.specs.Ring.{slots_in, slot_start, slot_after}
use Rattle.trials.specs.Room.{record_in, stored_in}
use Rattle.trials.proofs.RingLaws.{Ring, fine_ring, slot_within, ring_after, after_below}
use Rattle.trials.proofs.RoomLaws.{length_stored, read_stored, read_other}
use Rattle.grid.specs.Squares.{squares, sides, within, beside, opposite}
use Rattle.grid.specs.Marks.{exit}
use Rattle.grid.proofs.SquareLaws.{opposite_small}
use Rattle.grid.proofs.MarkLaws.{unless_closed}
use Rattle.rule.specs.Drops.{drop_off}
use Rattle.rule.specs.Weighing.{height_of, slope_of, critical_speed}
use Rattle.rule.proofs.WeighingLaws.{weighed_weighted, weighed_directed, weighed_unlimited}
use Rattle.rule.specs.declared.rules.Rules.{Rules}
use Rattle.ledger.specs.Runs.{Plan, World, world, Seen, seen_of}
use Rattle.ledger.specs.Flows.{shut, gone, sent, came, off_side, off_square, off_grid, soaked_square, soaked_grid}
use Rattle.ledger.specs.Record.{square_words, record_size, word_place, newest_record, leaves_in, last_in, added_in, soaked_in, square_record, record_of, room_slots, ring_of}
use Rattle.ledger.specs.After.{Moves, remains, new_depth, depths_fit, new_outflow, new_soaked, late_refusals, step_record, world_after}
use Rattle.ledger.specs.Checks.{one_each, waters_fine, times_fine}
use Rattle.ledger.specs.TakeBack.{held_and_gone, came_and_added, depth_before, square_restorable, restorable, world_before, back_refusals, back_number, taken_back, early_refusals}
use Rattle.ledger.specs.Walls.{Walled, Untouched}
use Rattle.ledger.proofs.ReadBack.{leaves_read, closed_read, step_long, step-held, step_lasted, step_off, step_soaked_grid, step-came, step_gone, step-last, step_added, step_soaked}
use Rattle.ledger.proofs.Walls.{goes_where, walls_stay_dry, after_untouched, back_untouched}
use Rattle.ledger.specs.declared.runs.Run.{Run}
use Rattle.checks.specs.Given.{Given, ground, given}
use Rattle.adding.specs.Added.{added_for}
use Rattle.moves.specs.Drops.{side_drop, drops_of}
use Rattle.moves.specs.Moves.{square_candidates, candidates, leaves_for, soaked_for, step_length, step_duration, step_moves}
use Rattle.checks.specs.Refusals.{grounds_fine, check_refusals, run_checks}
use Rattle.flood.specs.Step.{step_number, stepped}
use Rattle.checks.specs.Fresh.{fresh_refusals, fresh_number, fresh_run, fresh_lasts}
use Rattle.flood.specs.Run.{Ended, ended, go_on, run_from, run_to}
use Rattle.sight.proofs.Alike.{AlikeDepths, AlikeRecords, arrow_alike, all_arrows_alike, wet_alike}
use Rattle.checks.proofs.CheckLaws.{ready, ring_is}
use Rattle.moves.proofs.MoveLaws.{leaves_open, soaked_open, lost_covered, flood_walled, off_none}
use Rattle.flood.proofs.RunToLaws.{made_is, refused_is, checks_passed}
use Rattle.demands.specs.Closed.{SameOpen, SameGiven, SameRecord, SameRoom, SameWorld, SameEnd}
use Rattle.demands.specs.Demand2.{RootsAre, StepGives, NoneDepends, NoneAltered, WallRule, Demand2}
use Rattle.demands.proofs.Loader.{loader_walls}
use Rattle.demands.proofs.Exported.{exports_none_depends}

-- ---- roots

roots_are : RootsAre
unfolding height_of slope_of critical_speed
roots_are =
    record {
      height = λ d h. root_right 3 (d * d) (omega arith) (omega (arith, mul-le-mul h h));
      slope = λ r drop h. root_right 2 _ (omega arith) (omega (arith, div-le_self (100 * drop) r.square_side));
      critical = λ d h. root_right 2 _ (omega arith) (omega arith);
    }

or_ext : (b : Bool) {x y : Bool} → (b ≡ false → x ≡ y) → (b || x) ≡ (b || y)
or_ext true f = refl
or_ext false f = f refl

-- two choices by one test are related as their sides are
pick_two : {A : Type 0} (R : A → A → Type 0) (b : Bool) {a c a' c' : A} → R a a' → R c c' → R (pick b a c) (pick b a' c')
unfolding pick
pick_two R true x y = x
pick_two R false x y = y

module _ (p : Plan) where
  -- ---- lists

  one_each_same : {a b : List ℕ} → SameOpen p a b → one_each p a ≡ one_each p b
  unfolding one_each
  one_each_same s = ap (λ (n : ℕ). eqb n (squares p.shape)) s.long

  -- rooms filled alike where they are filled
  filled_same : {a b : List ℕ} (n : ℕ) (f g : ℕ → ℕ) → SameOpen p a b → ((i : ℕ) → shut p i ≡ false → f i ≡ g i) →
      SameOpen p (filled n (shut p) f a) (filled n (shut p) g b)
  unfolding filled
  filled_same {a} {b} n f g s e =
      record {
        long = length-filled n (shut p) f a ∙ (s.long ∙ sym (length-filled n (shut p) g b));
        alike = record { at = λ i q. go i q (dec_lt i (length a)) };
      }
    where
      either : (i : ℕ) (c : Bool) → shut p i ≡ false → pick c (get_or a i 0) (f i) ≡ pick c (get_or b i 0) (g i)
      either i c q = ap₂ (pick c) (s.alike.at i q) (e i q)

      go : (i : ℕ) → shut p i ≡ false → Dec (i < length a) → get_or (filled n (shut p) f a) i 0 ≡ get_or (filled n (shut p) g b) i 0
      go i q (yes l) =
          get_or-tabulate (length a) _ i l
          ∙ (either i (leb n i || shut p i) q ∙ sym (get_or-tabulate (length b) _ i (omega (arith, s.long))))
      go i q (no l) =
          get_or-eq_default (filled n (shut p) f a) 0 (omega (arith, length-filled n (shut p) f a))
          ∙ sym (get_or-eq_default (filled n (shut p) g b) 0 (omega (arith, length-filled n (shut p) g b, s.long)))

  waters_same : {a b c d : List ℕ} → SameOpen p a b → SameOpen p c d → waters_fine p a c ≡ waters_fine p b d
  unfolding waters_fine
  waters_same x y = all_ext _ _ _ (λ i h. or_ext (shut p i) (λ e. ap₂ water_fine (x.alike.at i e) (y.alike.at i e)))

  -- ---- records and their room

  record_itself : (a : List ℕ) → SameRecord p a a
  record_itself a = record { held = refl; lasted = refl; words = λ i word e h. refl }

  records_as : {a b a' b' : List ℕ} → a' ≡ a → b' ≡ b → SameRecord p a b → SameRecord p a' b'
  records_as {a} {b} {a'} {b'} x y s = subst (λ (l : List ℕ). SameRecord p l b') (sym x) (subst (λ (l : List ℕ). SameRecord p a l) (sym y) s)

  module _ {a b : List ℕ} (R : SameRoom p a b) where
    slots_same : room_slots p a ≡ room_slots p b
    unfolding room_slots
    slots_same = rw R.long

    -- the same record stored in both
    stored_same : (k : ℕ) (rec : List ℕ) → length rec ≡ record_size p → k < room_slots p a →
        SameRoom p (stored_in (record_size p) a k rec) (stored_in (record_size p) b k rec)
    unfolding room_slots
    stored_same k rec fits h = record { long = stored a h ∙ (R.long ∙ sym (stored b in_b)); slots = λ u. go u (ℕ_discrete u k) }
      where
        in_b : k < slots_in (record_size p) (length b)
        in_b = rw (← R.long) h

        stored : (room : List ℕ) → k < slots_in (record_size p) (length room) → length (stored_in (record_size p) room k rec) ≡ length room
        stored room l = length_stored (record_size p) (omega arith) room k rec fits l

        go : (u : ℕ) → Dec (u ≡ k) →
            SameRecord p (record_in (record_size p) (stored_in (record_size p) a k rec) u) (record_in (record_size p) (stored_in (record_size p) b k rec) u)
        go u (yes e) =
            rw e
            (records_as (read_stored (record_size p) (omega arith) a k rec fits h) (read_stored (record_size p) (omega arith) b k rec fits in_b) (record_itself rec))
        go u (no d) =
            records_as (read_other (record_size p) (omega arith) a k rec fits h u d) (read_other (record_size p) (omega arith) b k rec fits in_b u d) (R.slots u)

  -- ---- the step, with all else of the one put beside what closed squares hold of the other

  module _ (r : Rules) {beds beds' depths depths' : List ℕ} (B : SameOpen p beds beds') (D : SameOpen p depths depths') where
    drop_same : (i side : ℕ) → shut p i ≡ false → side_drop p r beds depths i side ≡ side_drop p r beds' depths' i side
    unfolding side_drop
    drop_same i side e =
        ap₂ (pick (within p.shape (beside p.shape i side)))
        (unless_closed p.marks (beside p.shape i side) 0
        (λ q. ap₂ ◌-◌ (ap₂ ◌+◌ (B.alike.at i e) (D.alike.at i e)) (ap₂ ◌+◌ (B.alike.at _ q) (D.alike.at _ q))))
        (ap (λ (d : ℕ). pick (exit p.marks i) (drop_off r d) 0) (D.alike.at i e))

    drops_same : (i : ℕ) → shut p i ≡ false → drops_of p r beds depths i ≡ drops_of p r beds' depths' i
    unfolding drops_of
    drops_same i e = rw (drop_same i 0 e, drop_same i 1 e, drop_same i 2 e, drop_same i 3 e)

    module _ {rough rough' rates rates' : List ℕ} (K : SameOpen p rough rough') (S : SameOpen p rates rates') where
      candidates_same : candidates p (ground r beds rough rates) depths ≡ candidates p (ground r beds' rough' rates') depths'
      unfolding candidates square_candidates
      candidates_same =
          joined_ext (squares p.shape) _ _
          (λ i h. unless_closed p.marks i [] (λ e. rw (D.alike.at i e, K.alike.at i e, drops_same i e)))

      leaves_same : {lasts lasts' : List ℕ} → SameOpen p lasts lasts' → (ms i side : ℕ) →
          leaves_for p (ground r beds rough rates) depths lasts ms i side ≡ leaves_for p (ground r beds' rough' rates') depths' lasts' ms i side
      unfolding leaves_for
      leaves_same L ms i side =
          unless_closed p.marks i 0 (λ e. rw (D.alike.at i e, L.alike.at i e, K.alike.at i e, drops_same i e))

      soaked_same : {lasts lasts' : List ℕ} → SameOpen p lasts lasts' → (start ms i : ℕ) →
          soaked_for p (ground r beds rough rates) depths lasts start ms i ≡ soaked_for p (ground r beds' rough' rates') depths' lasts' start ms i
      unfolding soaked_for gone
      soaked_same L start ms i =
          unless_closed p.marks i 0
          (λ e.
          rw (
            D.alike.at i e,
            S.alike.at i e,
            leaves_same L ms i 0,
            leaves_same L ms i 1,
            leaves_same L ms i 2,
            leaves_same L ms i 3,
          ))

      grounds_same : grounds_fine p (ground r beds rough rates) ≡ grounds_fine p (ground r beds' rough' rates')
      unfolding grounds_fine
      grounds_same = all_ext _ _ _ (λ i h. or_ext (shut p i) (λ e. rw (B.alike.at i e, K.alike.at i e, S.alike.at i e)))

  -- a step whose amounts are known
  module _ (m : Moves) (w : World) {depths' lasts' records' : List ℕ} (D : SameOpen p w.depths depths') (L : SameOpen p w.lasts lasts')
      (R : SameRoom p w.records records') where
    abbrev other : World
    other = world depths' lasts' records' w.run

    new_same : (i : ℕ) → shut p i ≡ false → new_depth p m w i ≡ new_depth p m other i
    unfolding new_depth remains
    new_same i e = rw (D.alike.at i e)

    fits_same : depths_fit p m w ≡ depths_fit p m other
    unfolding depths_fit
    fits_same = all_ext _ _ _ (λ i h. or_ext (shut p i) (λ e. ap (λ (d : ℕ). leb d most_depth) (new_same i e)))

    late_same : late_refusals p m w ≡ late_refusals p m other
    unfolding late_refusals new_outflow new_soaked
    late_same = rw fits_same

    record_same : step_record p m w ≡ step_record p m other
    unfolding step_record record_of square_record
    record_same =
        ap (λ (l : List ℕ). w.run.length ∷ m.duration ∷ l)
        (joined_ext (squares p.shape) _ _ (λ i h. unless_closed p.marks i _ (λ e. rw (L.alike.at i e))))

    after_same : 0 < room_slots p w.records → SameWorld p (world_after p m w) (world_after p m other)
    unfolding world_after new_outflow new_soaked
    after_same some =
        rw (← slots_same R, ← record_same)
        (record {
          depths = filled_same (squares p.shape) _ _ D new_same;
          lasts = filled_same (squares p.shape) _ _ L (λ i e. refl);
          records =
              stored_same R (slot_after (room_slots p w.records) w.run.newest) (step_record p m w) (step_long p m w)
              (after_below (room_slots p w.records) w.run.newest some);
          run = refl;
        })

  -- a step that is made: it has a slot to write, and its record stands there
  module _ (g : Given) (w : World) (made : step_number p g w ≡ 0) where
    ring : Ring (room_slots p w.records) w.run.kept w.run.newest
    ring = fine_ring _ _ _ (ring_is p g (ring_of p w) (seen_of w) (checks_passed p g w made))

    -- what it moves, and the world after it
    abbrev moved : Moves
    moved = step_moves p g (seen_of w)

    abbrev after : World
    after = world_after p moved w

    -- the slot that it writes
    abbrev slot : ℕ
    slot = slot_after (room_slots p w.records) w.run.newest

    slot_in : slot < room_slots p w.records
    slot_in = (ring_after ring).newest_below

    after-written : newest_record p after ≡ step_record p moved w
    unfolding newest_record world_after room_slots
    after-written = read_stored (record_size p) (omega arith) w.records slot (step_record p moved w) (step_long p moved w) slot_in

    newest_written : newest_record p (stepped p g w) ≡ step_record p moved w
    newest_written = rw (made_is p g w made) after-written

  module _ (g : Given) (w : World) {beds' rough' rates' depths' lasts' records' : List ℕ} (B : SameOpen p g.lie.beds beds')
      (K : SameOpen p g.lie.roughness rough') (S : SameOpen p g.lie.rates rates') (D : SameOpen p w.depths depths') (L : SameOpen p w.lasts lasts') (R : SameRoom p w.records records') where
    abbrev g' : Given
    g' = given (ground g.lie.rules beds' rough' rates') g.rain g.inflow

    abbrev w' : World
    w' = world depths' lasts' records' w.run

    checks_same : (five : Bool) → check_refusals p g five (ring_of p w) (seen_of w) ≡ check_refusals p g' five (ring_of p w') (seen_of w')
    unfolding check_refusals
    checks_same five =
        rw (
          one_each_same B,
          one_each_same K,
          one_each_same S,
          one_each_same D,
          one_each_same L,
          grounds_same g.lie.rules B D K S,
          waters_same D L,
          slots_same R,
        )

    length_same : step_length p g (seen_of w) ≡ step_length p g' (seen_of w')
    unfolding step_length
    length_same = rw (candidates_same g.lie.rules B D K S)

    lasts_same : step_duration p g (seen_of w) ≡ step_duration p g' (seen_of w')
    unfolding step_duration
    lasts_same = rw length_same

    moves_same : step_moves p g (seen_of w) ≡ step_moves p g' (seen_of w')
    unfolding added_for
    moves_same =
        λ j.
        record {
          leaves = λ i side. leaving i side j;
          added = added_for p g w.run.clock (w.run.clock + lasts_same j);
          soaked = λ i. soaking i j;
          duration = lasts_same j;
          length = length_same j;
        }
      where
        leaving : (i side : ℕ) → (step_moves p g (seen_of w)).leaves i side ≡ (step_moves p g' (seen_of w')).leaves i side
        leaving i side =
            leaves_same g.lie.rules B D K S L (step_duration p g (seen_of w)) i side
            ∙ ap (λ (ms : ℕ). leaves_for p g'.lie depths' lasts' ms i side) lasts_same

        soaking : (i : ℕ) → (step_moves p g (seen_of w)).soaked i ≡ (step_moves p g' (seen_of w')).soaked i
        soaking i =
            soaked_same g.lie.rules B D K S L w.run.clock (step_duration p g (seen_of w)) i
            ∙ ap (λ (ms : ℕ). soaked_for p g'.lie depths' lasts' w.run.clock ms i) lasts_same

    number_same : step_number p g w ≡ step_number p g' w'
    unfolding step_number
    number_same =
        ap refusal
        (ap₂ ◌++◌ (checks_same _)
        (late_same (step_moves p g (seen_of w)) w D L R ∙ ap (λ (m : Moves). late_refusals p m w') moves_same))

    stepped_same : SameWorld p (stepped p g w) (stepped p g' w')
    stepped_same = go (step_number p g w) refl
      where
        go : (n : ℕ) → step_number p g w ≡ n → SameWorld p (stepped p g w) (stepped p g' w')
        go zero z =
            rw (made_is p g w z, made_is p g' w' (sym number_same ∙ z))
            (subst (λ (m : Moves). SameWorld p (world_after p (step_moves p g (seen_of w)) w) (world_after p m w')) moves_same
            (after_same (step_moves p g (seen_of w)) w D L R (ring g w z).some))
        go (suc n) z =
            let d : step_number p g w ≡ 0 → ⊥ = λ y. omega (arith, sym z ∙ y) in
            rw (refused_is p g w d, refused_is p g' w' (λ y. d (number_same ∙ y))) (record { depths = D; lasts = L; records = R; run = refl })

    written_same : step_number p g w ≡ 0 → newest_record p (stepped p g w) ≡ newest_record p (stepped p g' w')
    written_same z =
        newest_written g w z
        ∙ (record_same (step_moves p g (seen_of w)) w D L R
        ∙ (ap (λ (m : Moves). step_record p m w') moves_same ∙ sym (newest_written g' w' (sym number_same ∙ z))))

    run_checks_same : (end : ℕ) → refusal (run_checks p g end w) ≡ refusal (run_checks p g' end w')
    run_checks_same end = ap refusal (checks_same _)

  -- ---- each call

  -- what holds of the one put beside the other holds of both
  module _ {g h : Given} {w v : World} (G : SameGiven p g h) (W : SameWorld p w v) (P : Given → World → Type 0) where
    abbrev mixed : Given
    mixed = given (ground g.lie.rules h.lie.beds h.lie.roughness h.lie.rates) g.rain g.inflow

    beside_other : P mixed (world v.depths v.lasts v.records w.run) → P h v
    beside_other x =
        subst (λ (k : Given). P k v)
        (λ j. given (ground (G.rules j) h.lie.beds h.lie.roughness h.lie.rates) (G.rain j) (G.inflow j))
        (subst (λ (u : World). P mixed u) (λ j. world v.depths v.lasts v.records (W.run j)) x)

  module _ (g h : Given) where
    step_same : (w v : World) → SameGiven p g h → SameWorld p w v → (step_number p g w ≡ step_number p h v) × SameWorld p (stepped p g w) (stepped p h v)
    step_same w v G W =
        beside_other G W (λ k u. (step_number p g w ≡ step_number p k u) × SameWorld p (stepped p g w) (stepped p k u)) (
          number_same g w G.beds G.roughness G.rates W.depths W.lasts W.records,
          stepped_same g w G.beds G.roughness G.rates W.depths W.lasts W.records,
        )

    both_written : (w v : World) → SameGiven p g h → SameWorld p w v → step_number p g w ≡ 0 → newest_record p (stepped p g w) ≡ newest_record p (stepped p h v)
    both_written w v G W z =
        beside_other G W (λ k u. newest_record p (stepped p g w) ≡ newest_record p (stepped p k u))
        (written_same g w G.beds G.roughness G.rates W.depths W.lasts W.records z)

    check_same : (end : ℕ) (w v : World) → SameGiven p g h → SameWorld p w v → refusal (run_checks p g end w) ≡ refusal (run_checks p h end v)
    check_same end w v G W =
        beside_other G W (λ k u. refusal (run_checks p g end w) ≡ refusal (run_checks p k end u))
        (run_checks_same g w G.beds G.roughness G.rates W.depths W.lasts W.records end)

  -- a run: step by step
  module _ (g h : Given) (end : ℕ) (G : SameGiven p g h) where
    going_same : (n made : ℕ) {w v : World} {e f : Ended} → SameWorld p w v → SameEnd p e f → SameEnd p (go_on n made w e) (go_on n made v f)
    unfolding go_on
    going_same zero made W E = E
    going_same (suc n) made W E = record { number = refl; steps = refl; world = W }

    from_same : (most made : ℕ) (w v : World) → SameWorld p w v → SameEnd p (run_from p g end most made w) (run_from p h end most made v)
    unfolding run_from
    from_same zero made w v W = record { number = refl; steps = refl; world = W }
    from_same (suc most) made w v W =
        let s = step_same g h w v G W in
        let rest : Ended = run_from p h end most (suc made) (stepped p h v) in
        subst (λ (b : Bool). SameEnd p (run_from p g end (suc most) made w) (pick b (go_on (step_number p h v) made v rest) (ended 0 made v)))
        (ap (λ (u : Run). ltb u.clock end) W.run)
        (subst (λ (n : ℕ). SameEnd p (run_from p g end (suc most) made w) (pick (ltb w.run.clock end) (go_on n made v rest) (ended 0 made v))) s.0
        (pick_two (SameEnd p) (ltb w.run.clock end) (going_same (step_number p g w) made W (from_same most (suc made) (stepped p g w) (stepped p h v) s.1))
        (record { number = refl; steps = refl; world = W })))

    run_same : (w v : World) → SameWorld p w v → SameEnd p (run_to p g end w) (run_to p h end v)
    unfolding run_to
    run_same w v W =
        subst (λ (n : ℕ). SameEnd p (run_to p g end w) (go_on n 0 v (run_from p h end (end - v.run.clock) 0 v))) (check_same g h end w v G W)
        (subst (λ (u : Run). SameEnd p (run_to p g end w) (go_on (refusal (run_checks p g end w)) 0 v (run_from p h end (end - u.clock) 0 v))) W.run
        (going_same (refusal (run_checks p g end w)) 0 W (from_same (end - w.run.clock) 0 w v W)))

  -- a take_back
  module _ {a b : List ℕ} (R : SameRecord p a b) where
    side_same : (i side : ℕ) → shut p i ≡ false → side < square_words → leaves_in a i side ≡ leaves_in b i side
    unfolding leaves_in
    side_same i side e h = R.words i side e h

    gone_same : (i : ℕ) → shut p i ≡ false → gone (leaves_in a) i ≡ gone (leaves_in b) i
    unfolding gone
    gone_same i e =
        rw (side_same i 0 e (omega arith), side_same i 1 e (omega arith), side_same i 2 e (omega arith), side_same i 3 e (omega arith))

    sent_same : (i side : ℕ) → sent p (leaves_in a) i side ≡ sent p (leaves_in b) i side
    unfolding sent
    sent_same i side =
        unless_closed p.marks (beside p.shape i side) 0
        (λ e. side_same (beside p.shape i side) (opposite side) e (omega (arith, opposite_small side)))

    came_same : (i : ℕ) → came p (leaves_in a) i ≡ came p (leaves_in b) i
    unfolding came
    came_same i = rw (sent_same i 0, sent_same i 1, sent_same i 2, sent_same i 3)

    off_same : off_grid p (leaves_in a) ≡ off_grid p (leaves_in b)
    unfolding off_grid off_square off_side
    off_same =
        sum_ext (squares p.shape) _ _
        (λ i h. unless_closed p.marks i 0
        (λ e. rw (side_same i 0 e (omega arith), side_same i 1 e (omega arith), side_same i 2 e (omega arith), side_same i 3 e (omega arith))))

    last_same : (i : ℕ) → shut p i ≡ false → last_in a i ≡ last_in b i
    unfolding last_in
    last_same i e = R.words i 4 e (omega arith)

    added_same : (i : ℕ) → shut p i ≡ false → added_in a i ≡ added_in b i
    unfolding added_in
    added_same i e = R.words i 5 e (omega arith)

    soaked_in_same : (i : ℕ) → shut p i ≡ false → soaked_in a i ≡ soaked_in b i
    unfolding soaked_in
    soaked_in_same i e = R.words i 6 e (omega arith)

    soaked_grid_same : soaked_grid p (soaked_in a) ≡ soaked_grid p (soaked_in b)
    unfolding soaked_grid soaked_square
    soaked_grid_same = sum_ext (squares p.shape) _ _ (λ i h. unless_closed p.marks i 0 (soaked_in_same i))

    module _ {w v : World} (W : SameWorld p w v) where
      held_same : (i : ℕ) → shut p i ≡ false → held_and_gone p w a i ≡ held_and_gone p v b i
      unfolding held_and_gone
      held_same i e = ap₂ ◌+◌ (W.depths.alike.at i e) (ap₂ ◌+◌ (gone_same i e) (soaked_in_same i e))

      coming_same : (i : ℕ) → shut p i ≡ false → came_and_added p w a i ≡ came_and_added p v b i
      unfolding came_and_added
      coming_same i e = ap₂ ◌+◌ (came_same i) (added_same i e)

      before_same : (i : ℕ) → shut p i ≡ false → depth_before p w a i ≡ depth_before p v b i
      unfolding depth_before
      before_same i e = ap₂ ◌-◌ (held_same i e) (coming_same i e)

      squares_same : all_below (squares p.shape) (square_restorable p w a) ≡ all_below (squares p.shape) (square_restorable p v b)
      unfolding square_restorable
      squares_same = all_ext _ _ _ (λ i h. or_ext (shut p i) (λ e. rw (last_same i e, coming_same i e, held_same i e, before_same i e)))

      restorable_same : restorable p w a ≡ restorable p v b
      unfolding restorable times_fine
      restorable_same =
          rw (
            squares_same,
            R.held,
            R.lasted,
            off_same,
            soaked_grid_same,
            ap (λ (u : Run). u.clock) W.run,
            ap (λ (u : Run). u.outflow) W.run,
            ap (λ (u : Run). u.soaked) W.run,
          )

      world_same : SameWorld p (world_before p w a) (world_before p v b)
      unfolding world_before
      world_same =
          record {
            depths = filled_same (squares p.shape) _ _ W.depths before_same;
            lasts = filled_same (squares p.shape) _ _ W.lasts last_same;
            records = W.records;
            run = rw (R.held, R.lasted, W.run, off_same, soaked_grid_same, slots_same W.records);
          }

  module _ (w v : World) (W : SameWorld p w v) where
    newest_same : SameRecord p (newest_record p w) (newest_record p v)
    unfolding newest_record
    newest_same = subst (λ (u : Run). SameRecord p (newest_record p w) (record_in (record_size p) v.records u.newest)) W.run (W.records.slots w.run.newest)

    back_number_same : back_number p w ≡ back_number p v
    unfolding back_number early_refusals back_refusals
    back_number_same =
        rw (
          restorable_same newest_same W,
          one_each_same W.depths,
          one_each_same W.lasts,
          waters_same W.depths W.lasts,
          slots_same W.records,
          W.run,
        )

    taken_same : SameWorld p (taken_back p w) (taken_back p v)
    unfolding taken_back
    taken_same = rw (← back_number_same) (pick_two (SameWorld p) (eqb (back_number p w) 0) (world_same newest_same W) W)

  -- a fresh run
  module _ (r : Rules) (lasts others records rooms : List ℕ) (L : SameOpen p lasts others) (R : SameRoom p records rooms) where
    fresh_number_same : fresh_number p r lasts records ≡ fresh_number p r others rooms
    unfolding fresh_number fresh_refusals
    fresh_number_same = rw (one_each_same L, slots_same R)

    fresh-run_same : fresh_run r (room_slots p records) ≡ fresh_run r (room_slots p rooms)
    unfolding fresh_run
    fresh-run_same = rw (slots_same R)

    fresh_lasts_same : SameOpen p (fresh_lasts p r lasts records) (fresh_lasts p r others rooms)
    unfolding fresh_lasts
    fresh_lasts_same =
        rw (← fresh_number_same)
        (pick_two (SameOpen p) (eqb (fresh_number p r lasts records) 0) (filled_same (squares p.shape) _ _ L (λ i e. refl)) L)

  -- ---- arrows and wet rows

  seen-depths : {a b : List ℕ} → SameOpen p a b → AlikeDepths p a b
  seen-depths s = record { as_many = s.long; alike = s.alike }

  seen_record : {a b : List ℕ} → SameRecord p a b → AlikeRecords p a b
  unfolding leaves_in
  seen_record s = record { held = s.held; lasted = s.lasted; leaves = λ i side l o. s.words i side o (omega arith) }

  none_depends : NoneDepends p
  none_depends =
      record {
        step = step_same;
        written = both_written;
        run-to = λ g h end w v G W. run_same g h end G w v W;
        take_back = λ w v W. (back_number_same w v W, taken_same w v W);
        fresh = λ r lasts others records rooms L R. (
          fresh_number_same r lasts others records rooms L R,
          fresh-run_same r lasts others records rooms L R,
          fresh_lasts_same r lasts others records rooms L R,
        );
        check = check_same;
        arrow = λ D depths others room rest u row column d l r. arrow_alike p D room rest u row column (seen-depths d) l (seen_record r);
        all_arrows = λ D depths others room rest u old new n d l r x. all_arrows_alike p D room rest u (seen-depths d) l (seen_record r) x;
        wet_rows = λ depths others least old a rows d x. wet_alike p (seen-depths d) x;
      }

  -- ---- closed squares stay as they were

  stays : (w : World) → Untouched p w w
  stays w = record { depth_stays = λ i e. refl; last_stays = λ i e. refl }

  stays_on : {u v w : World} → Untouched p u v → Untouched p v w → Untouched p u w
  stays_on a b = record { depth_stays = λ i e. b.depth_stays i e ∙ a.depth_stays i e; last_stays = λ i e. b.last_stays i e ∙ a.last_stays i e }

  step-untouched : (g : Given) (w : World) → Untouched p w (stepped p g w)
  unfolding stepped
  step-untouched g w = pick_both (Untouched p w) _ (after_untouched p w (step_moves p g (seen_of w))) (stays w)

  module _ (g : Given) (end : ℕ) where
    on_untouched : (n made : ℕ) (w : World) (e : Ended) → Untouched p w e.world → Untouched p w (go_on n made w e).world
    unfolding go_on
    on_untouched zero made w e x = x
    on_untouched (suc n) made w e x = stays w

    from_untouched : (most made : ℕ) (w : World) → Untouched p w (run_from p g end most made w).world
    unfolding run_from
    from_untouched zero made w = stays w
    from_untouched (suc most) made w =
        pick_both (λ (e : Ended). Untouched p w e.world) _
        (on_untouched (step_number p g w) made w _ (stays_on (step-untouched g w) (from_untouched most (suc made) (stepped p g w)))) (stays w)

    run-untouched : (w : World) → Untouched p w (run_to p g end w).world
    unfolding run_to
    run-untouched w = on_untouched (refusal (run_checks p g end w)) 0 w _ (from_untouched (end - w.run.clock) 0 w)

  -- ---- a step that is made gives what the rule gives: each word of its record is read back
  module _ (g : Given) (w : World) (made : step_number p g w ≡ 0) where
    inside : slot_start (record_size p) (slot g w made) + length (step_record p (moved g w made) w) ≤ length w.records
    unfolding room_slots
    inside = omega (arith, slot_within (record_size p) (omega arith) (slot_in g w made), step_long p (moved g w made) w)

    leaves_word : (i side : ℕ) → i < squares p.shape → side < sides → shut p i ≡ false →
        leaves_in (step_record p (moved g w made) w) i side ≡ (moved g w made).leaves i side
    unfolding step_record
    leaves_word i side h l e = leaves_read p _ _ _ _ _ _ i h e side l

    zero_word : (i word : ℕ) → i < squares p.shape → shut p i ≡ true → word < square_words → get_or (step_record p (moved g w made) w) (word_place i word) 0 ≡ 0
    unfolding step_record
    zero_word i word l e h = closed_read p _ _ _ _ _ _ i l e word h

    gives_after : StepGives p g w (after g w made)
    unfolding world_after new_depth remains new_outflow new_soaked step_length step_duration
    gives_after =
        let m = moved g w made in
        let flows = (ready p g (ring_of p w) (seen_of w) (checks_passed p g w made)).flows in
        let marks_long : length p.marks ≡ squares p.shape = flows.lies.sited.marks_long in
        let depths_long : length w.depths ≡ squares p.shape = flows.lies.sited.depths_long in
        let lasts_long : length w.lasts ≡ squares p.shape = flows.lasts_long in
        let through = leaves_open p g.lie w.depths w.lasts (step_duration p g (seen_of w)) in
        let told = after-written g w made in
        let lasted = step_lasted p m w in
        record {
          edition = (flows.lies.rules.edition_from, flows.lies.rules.edition_to);
          weighted = λ is i side h l e.
              rw (told, lasted)
              (leaves_word i side h l e ∙ (through i side e ∙ ap (λ (s : List ℕ). get_or s side 0) (weighed_weighted g.lie.rules _ _ _ _ _ is)));
          directed = λ is i side h l e.
              rw (told, lasted)
              (leaves_word i side h l e ∙ (through i side e ∙ ap (λ (s : List ℕ). get_or s side 0) (weighed_directed g.lie.rules _ _ _ _ _ is)));
          unlimited = λ is i side h l e.
              rw (told, lasted)
              (leaves_word i side h l e ∙ (through i side e ∙ ap (λ (s : List ℕ). get_or s side 0) (weighed_unlimited g.lie.rules _ _ _ _ _ is)));
          soaking = λ i h e.
              rw (told, lasted, step_gone p m w i h e)
              (step_soaked p m w i h e ∙ soaked_open p g.lie w.depths w.lasts (step_duration p g (seen_of w)) i w.run.clock e);
          adding = λ i h e. rw (told, lasted) (step_added p m w i h e);
          depths = λ i h e.
              rw (told, step_gone p m w i h e, step_soaked p m w i h e, step-came p m w marks_long i, step_added p m w i h e)
              (filled_in _ _ _ w.depths i (omega arith) h e);
          depths_long = length-filled _ _ _ w.depths;
          covered = λ i h e.
              rw (told, step_gone p m w i h e, step_soaked p m w i h e)
              (lost_covered p g.lie w.depths w.lasts (step_duration p g (seen_of w)) i w.run.clock e);
          lasts = λ i h e. rw (told, step_gone p m w i h e) (filled_in _ _ _ w.lasts i (omega arith) h e);
          lasts_long = length-filled _ _ _ w.lasts;
          outflow = rw (told, step_off p m w);
          soaked = rw (told, step_soaked_grid p m w);
          length_is = refl;
          duration_is = rw told lasted;
          clock = rw (told, lasted);
          held-before = rw told (step-held p m w);
          last-before = λ i h e. rw told (step-last p m w i h e);
          closed_zeros = λ i word h e l. rw told (zero_word i word h e l);
          newest_is = refl;
          kept_is = refl;
          room_long = length-placed w.records _ _ (inside);
          room-before = λ k l. placed-before w.records _ _ (inside) k l;
          room_after = λ k l. placed-after w.records _ _ (inside) k (omega (arith, step_long p m w));
        }

    step_gives : StepGives p g w (stepped p g w)
    step_gives = rw (made_is p g w made) gives_after

  fresh-untouched : (r : Rules) (lasts records : List ℕ) (i : ℕ) → shut p i ≡ true → get_or (fresh_lasts p r lasts records) i 0 ≡ get_or lasts i 0
  unfolding fresh_lasts
  fresh-untouched r lasts records i e = pick_both (λ (l : List ℕ). get_or l i 0 ≡ get_or lasts i 0) _ (go (dec_lt i (length lasts))) refl
    where
      cleared : List ℕ
      cleared = filled (squares p.shape) (shut p) (λ k. 0) lasts

      go : Dec (i < length lasts) → get_or cleared i 0 ≡ get_or lasts i 0
      go (yes l) = filled_skipped (squares p.shape) (shut p) (λ k. 0) lasts i l e
      go (no l) =
          get_or-eq_default cleared 0 (omega (arith, length-filled (squares p.shape) (shut p) (λ k. 0) lasts))
          ∙ sym (get_or-eq_default lasts 0 (omega arith))

  none_altered : NoneAltered p
  none_altered =
      record {
        step = step-untouched;
        run-to = run-untouched;
        take_back = back_untouched p;
        fresh = fresh-untouched;
      }

  none_soaks : (g : Given) (v : Seen) (i : ℕ) → shut p i ≡ true → (step_moves p g v).soaked i ≡ 0
  unfolding soaked_for
  none_soaks g v i e = pick_true _ _ e

  wall_rule : WallRule p
  wall_rule =
      record {
        walled = walled;
        goes = λ g v i side h l. goes_where p _ i side h l (walled g v);
        none_soaks = none_soaks;
        walls_stay_dry = λ g v. walls_stay_dry p _ (walled g v);
      }
    where
      walled : (g : Given) (v : Seen) → Walled p (step_moves p g v).leaves
      walled g v = flood_walled p g.lie v.depths v.lasts (step_duration p g v)

  pub demand_2 : Demand2 p
  demand_2 =
      record {
        step_gives = step_gives;
        roots_are = roots_are;
        none_depends = none_depends;
        none_altered = none_altered;
        wall_rule = wall_rule;
        nothing_leaves = λ g v e. off_none p g.lie v.depths v.lasts (step_duration p g v) e;
        loader = loader_walls;
        exports_none_depends = exports_none_depends p none_depends;
      }
