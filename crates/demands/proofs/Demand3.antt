-- Demand 3 holds: call by call a series of the flood is one of the ledger's engine, of which it is proved for any rule of steps.
-- Assumes nothing.
use mathlib.Core.Path.{◌≡◌, refl, sym, ap, ◌∙◌, subst}
use mathlib.Core.Bool.{Bool, true, false, not}
use mathlib.Core.List.{List, [], ◌∷◌, ◌++◌}
use Prim.Native.Nat.{ℕ, zero, suc, ◌-◌, ◌≤◌, ◌<◌, max}
use native.Mathlib.Omega.{arith}
use lib.Dec.{eqb, ltb}
use lib.ListN.{length, get_or, replicate, drop}
use borrow.Author.Tests.{eq-eqb, ne_eqb}
use Rattle.reckon.specs.Tests.{pick, Row, ◌unless◌, refusal}
use Rattle.reckon.proofs.TestLaws.{pick_true, pick_false, refusal-first, refusal-second, refusal_here, every_each, Passed, refusal_passed}
use Rattle.reckon.specs.Lists.{filled}
use Rattle.reckon.specs.Ranges.{most_depth}
use Rattle.reckon.proofs.ListLaws.{length-filled, filled_in}
use Rattle.trials.specs.Ring.{ring_fine}
use Rattle.trials.proofs.RingLaws.{ring-fine}
use Rattle.trials.specs.Inner.Series.{Outcome, refused, done, and_then, Engine, State, step, take_back, Ran, ran_on, run_on, run, after_step, after_back, older, repeat, replay, shown, Stands}
use Rattle.trials.specs.Inner.Series as Any
use Rattle.trials.proofs.RunLaws.{run_at, run_stands}
use Rattle.trials.proofs.StepLaws.{not_done}
use Rattle.trials.proofs.Standing.{never_made}
use Rattle.grid.specs.Squares.{squares}
use Rattle.rule.proofs.RuleLaws.{rules_are}
use Rattle.rule.specs.declared.rules.Rules.{Rules}
use Rattle.ledger.specs.Runs.{Plan, World, world, answered, Seen, seen_of}
use Rattle.ledger.specs.Flows.{shut}
use Rattle.ledger.specs.Record.{room_slots, newest_record}
use Rattle.ledger.specs.After.{world_after}
use Rattle.ledger.specs.TakeBack.{restorable, back_refusals, back_number, taken_back, early_refusals}
use Rattle.ledger.specs.Inner.Engine.{outcome, engine, state_of}
use Rattle.ledger.proofs.Bridge.{outcome_then, refused_stays, back_bridge, step_bridge}
use Rattle.ledger.proofs.EngineLaws.{Looks, seen_look, engine_laws}
use Rattle.ledger.specs.declared.runs.Run.{Run}
use Rattle.ledger.specs.declared.runs.Answer.TheVariants.{Done}
use Rattle.checks.specs.Given.{Given}
use Rattle.moves.specs.Moves.{step_moves}
use Rattle.checks.specs.Refusals.{run_checks}
use Rattle.flood.specs.Step.{step_number, stepped}
use Rattle.flood.specs.Inner.Rule.{flood_rule}
use Rattle.checks.specs.Fresh.{fresh_refusals, fresh_number, fresh_run, fresh_lasts, Freshens}
use Rattle.flood.specs.Run.{Ended, ended, go_on, run_from, run_to}
use Rattle.checks.proofs.CheckLaws.{each_long}
use Rattle.checks.proofs.FreshLaws.{fresh_sizes, fresh-slots}
use Rattle.flood.proofs.RuleLaws.{flood_owed}
use Rattle.flood.proofs.RunToLaws.{made_is, refused_is}
use Rattle.demands.specs.Demand3.{Call, stepping, running, taking_back, stand_after, Trail, start, called, series, alone, AllMade, Fresh, NeverMade, BackOfFresh, Demand3}

some_number : {n k : ℕ} → n ≡ suc k → n ≡ 0 → ⊥
some_number e z = omega arith

-- two outcomes that are equal, or show the same, have the same number
same_number : {A : Type 0} (n m : ℕ) (a b : A) → outcome n a ≡ outcome m b → n ≡ m
unfolding outcome
same_number zero zero a b e = refl
same_number zero (suc m) a b e = absurd (not_done (sym e))
same_number (suc n) zero a b e = absurd (not_done e)
same_number (suc n) (suc m) a b e = cc

module _ (p : Plan) where
  abbrev pub E : Engine
  E = engine p (flood_rule p)

  abbrev pub state : World → State E
  state w = state_of p (flood_rule p) w

  -- ---- a step and a take-back of the engine are the flood's

  module _ (g : Given) (w : World) where
    step_is : step E g (state w) ≡ outcome (step_number p g w) (state (world_after p (step_moves p g (seen_of w)) w))
    unfolding step_number
    step_is = step_bridge p w (flood_rule p) g

    pub step_made : step_number p g w ≡ 0 → step E g (state w) ≡ done (state (stepped p g w))
    unfolding outcome
    step_made z = step_is ∙ rw (z, made_is p g w z)

    step-refused : {n : ℕ} → step_number p g w ≡ suc n → step E g (state w) ≡ refused (suc n)
    unfolding outcome
    step-refused z = step_is ∙ rw z

  module _ (w : World) where
    back_made : back_number p w ≡ 0 → take_back E (state w) ≡ done (state (taken_back p w))
    unfolding outcome
    back_made z = back_bridge p w (flood_rule p) ∙ rw z

    back_refused : {n : ℕ} → back_number p w ≡ suc n → take_back E (state w) ≡ refused (suc n)
    unfolding outcome
    back_refused z = back_bridge p w (flood_rule p) ∙ rw z

  -- ---- a run of the engine is the flood's

  module _ (g : Given) (end : ℕ) where
    abbrev pub more : Seen → Bool
    more v = ltb v.clock end

    -- it comes to the flood's world after the flood's number of steps
    record SameRun (r : Ran E) (e : Ended) : Type 0 where
      state_is : r.state ≡ state e.world
      steps_are : r.steps ≡ e.steps

    same_run : (most made : ℕ) (w : World) → SameRun (run_on E g more most (state w) made) (run_from p g end most made w)
    unfolding run_on run_from pick go_on
    same_run zero made w = record { state_is = refl; steps_are = refl }
    same_run (suc most) made w = go (ltb w.run.clock end) (step_number p g w) refl (same_run most (suc made) (stepped p g w))
      where
        go : (b : Bool) (n : ℕ) → step_number p g w ≡ n → SameRun (run_on E g more most (state (stepped p g w)) (suc made)) (run_from p g end most (suc made) (stepped p g w)) →
            SameRun (pick b (ran_on E (step E g (state w)) (state w) made (λ t. run_on E g more most t (suc made))) (record { state = state w; steps = made; number = 0 }))
            (pick b (go_on (step_number p g w) made w (run_from p g end most (suc made) (stepped p g w))) (ended 0 made w))
        go false n e h = record { state_is = refl; steps_are = refl }
        go true zero e h = rw (step_made g w e, e) h
        go true (suc n) e h = rw (step-refused g w e, e) (record { state_is = refl; steps_are = refl })

    -- the most steps that the run may make: none where rows 1 to 6 refuse it
    abbrev pub allowed : ℕ → ℕ → ℕ
    allowed zero n = n
    allowed (suc k) n = 0

    abbrev pub most : World → ℕ
    most w = allowed (refusal (run_checks p g end w)) (end - w.run.clock)

    same_run_to : (w : World) → SameRun (run_on E g more (most w) (state w) 0) (run_to p g end w)
    unfolding run_to run_on go_on
    same_run_to w = go (refusal (run_checks p g end w))
      where
        go : (n : ℕ) → SameRun (run_on E g more (allowed n (end - w.run.clock)) (state w) 0) (go_on n 0 w (run_from p g end (end - w.run.clock) 0 w))
        go zero = same_run (end - w.run.clock) 0 w
        go (suc n) = record { state_is = refl; steps_are = refl }

  -- ---- a series of the flood is one of the engine

  abbrev pub trail : Trail p → Any.Trail E
  trail x = record { at = state x.at; standing = x.standing; peak = x.peak }

  -- the call of the engine, which depends on the world that the series has come to
  abbrev pub call_of : Call → World → Any.Call E
  call_of (stepping g) w = Any.stepping g
  call_of (running g end) w = Any.running g (more g end) (most g end w)
  call_of taking_back w = Any.taking_back

  -- the most that ever stood, after n steps with the same inputs
  record Grown (y z : Any.Trail E) : Type 0 where
    peak_is : z.peak ≡ max y.peak (length z.standing)
    longer : length y.standing ≤ length z.standing

  grown : (n : ℕ) (g : Given) (y : Any.Trail E) → length y.standing ≤ y.peak → Grown y (repeat E n g y)
  unfolding repeat
  grown zero g y h = record { peak_is = omega arith; longer = omega arith }
  grown (suc n) g y h = go (step E g y.at) (grown n g)
    where
      go : (a : Outcome (State E)) → ((z : Any.Trail E) → length z.standing ≤ z.peak → Grown z (repeat E n g z)) →
          Grown y (repeat E n g (after_step E g y a))
      go (refused k) ih = ih y h
      go (done t) ih =
          let i = ih (after_step E g y (done t)) (omega arith) in
          record { peak_is = omega (arith, i.peak_is, i.longer); longer = omega (arith, i.longer) }

  trail_is : {y z : Any.Trail E} → y.at ≡ z.at → y.standing ≡ z.standing → y.peak ≡ z.peak → y ≡ z
  trail_is a b c = λ j. record { at = a j; standing = b j; peak = c j }

  module _ (x : Trail p) (high : length x.standing ≤ x.peak) where
    step-called : (g : Given) (n : ℕ) → step_number p g x.at ≡ n → Any.called E (Any.stepping g) (trail x) ≡ trail (called p (stepping g) x)
    step-called g zero e =
        let stands : stand_after p (stepping g) x.at x.standing ≡ g ∷ x.standing = pick_true _ _ (eq-eqb _ _ e) in
        ap (after_step E g (trail x)) (step_made g x.at e) ∙ trail_is refl (sym stands) (rw stands (omega arith))
    step-called g (suc n) e =
        let stands : stand_after p (stepping g) x.at x.standing ≡ x.standing = pick_false _ _ (ne_eqb _ _ (some_number e)) in
        ap (after_step E g (trail x)) (step-refused g x.at e)
        ∙ trail_is (ap state (sym (refused_is p g x.at (some_number e)))) (sym stands) (rw stands (omega arith))

    back_called : (n : ℕ) → back_number p x.at ≡ n → Any.called E Any.taking_back (trail x) ≡ trail (called p taking_back x)
    back_called zero e =
        let stands : stand_after p taking_back x.at x.standing ≡ drop 1 x.standing = pick_true _ _ (eq-eqb _ _ e) in
        ap (after_back E (trail x)) (back_made x.at e) ∙ trail_is refl (older_is x.standing ∙ sym stands) (rw stands (fewer x.standing high))
      where
        older_is : (steps : List Given) → older E steps ≡ drop 1 steps
        older_is [] = refl
        older_is (g ∷ gs) = refl

        fewer : (steps : List Given) {n : ℕ} → length steps ≤ n → n ≡ max n (length (drop 1 steps))
        fewer [] h = omega arith
        fewer (g ∷ gs) h = omega arith
    back_called (suc n) e =
        let stands : stand_after p taking_back x.at x.standing ≡ x.standing = pick_false _ _ (ne_eqb _ _ (some_number e)) in
        ap (after_back E (trail x)) (back_refused x.at e)
        ∙ trail_is (ap state (sym (refused_stays p x.at (some_number e)))) (sym stands) (rw stands (omega arith))

    run-called : (g : Given) (end : ℕ) → Any.called E (call_of (running g end) x.at) (trail x) ≡ trail (called p (running g end) x)
    run-called g end =
        trail_is (run_at E g (more g end) (most g end x.at) (trail x) ∙ same.state_is) stands
        ((grown (run E g (more g end) (most g end x.at) (state x.at)).steps g (trail x) high).peak_is
        ∙ ap (λ (l : List Given). max x.peak (length l)) stands)
      where
        same : SameRun g end (run_on E g (more g end) (most g end x.at) (state x.at) 0) (run_to p g end x.at)
        same = same_run_to g end x.at

        stands : (Any.called E (call_of (running g end) x.at) (trail x)).standing ≡ replicate (run_to p g end x.at).steps g ++ x.standing
        stands =
            run_stands E g (more g end) (most g end x.at) (trail x)
            ∙ ap (λ (n : ℕ). replicate n g ++ x.standing) same.steps_are

    pub called_is : (c : Call) → Any.called E (call_of c x.at) (trail x) ≡ trail (called p c x)
    called_is (stepping g) = step-called g (step_number p g x.at) refl
    called_is (running g end) = run-called g end
    called_is taking_back = back_called (back_number p x.at) refl

  -- some series of the engine comes to where a series of the flood comes to
  pub series_is : (cs : List Call) (x : Trail p) → length x.standing ≤ x.peak →
      (ds : List (Any.Call E)) × (Any.series E ds (trail x) ≡ trail (series p cs x))
  unfolding Any.series series
  series_is [] x h = ([], refl)
  series_is (c ∷ cs) x h =
      let next = series_is cs (called p c x) (omega arith) in
      (call_of c x.at ∷ next.0, ap (Any.series E next.0) (called_is x h c) ∙ next.1)

  -- ---- the steps still standing, made alone

  module _ (f : World) where
    pub record Alone (gs : List Given) (s : State E) : Type 0 where
      pub state_is : s ≡ state (alone p gs f)
      pub all_made : AllMade p gs f

    pub alone_is : (gs : List Given) (s : State E) → replay E gs (state f) ≡ done s → Alone gs s
    unfolding replay alone and_then
    alone_is [] s e = record { state_is = cc; all_made = tt }
    alone_is (g ∷ gs) s e = go (replay E gs (state f)) refl (alone_is gs)
      where
        w : World
        w = alone p gs f

        last : (n : ℕ) → step_number p g w ≡ n → AllMade p gs f → step E g (state w) ≡ done s → Alone (g ∷ gs) s
        last zero z m q =
            let same : ◌≡◌ {A = Outcome (State E)} (done s) (done (state (stepped p g w))) = sym q ∙ step_made g w z in
            record { state_is = cc; all_made = (z, m) }
        last (suc n) z m q = absurd (not_done (sym (step-refused g w z) ∙ q))

        go : (a : Outcome (State E)) → replay E gs (state f) ≡ a → ((t : State E) → replay E gs (state f) ≡ done t → Alone gs t) → Alone (g ∷ gs) s
        go (refused n) q ih = absurd (not_done (sym (ap (λ (a : Outcome (State E)). and_then a (step E g)) q) ∙ e))
        go (done t) q ih =
            let A : Alone gs t = ih t q in
            last (step_number p g w) refl A.all_made
            (ap (step E g) (sym A.state_is) ∙ (sym (ap (λ (a : Outcome (State E)). and_then a (step E g)) q) ∙ e))

    -- ---- demand 3

    pub same_next : (g : Given) (s : State E) (w v : World) → s ≡ state v → shown E (step E g (state w)) ≡ shown E (step E g s) →
        step_number p g w ≡ step_number p g v
    same_next g s w v q e =
        same_number (step_number p g w) (step_number p g v) _ _
        (sym (outcome_then _ _ (λ t. t.seen)) ∙ (sym (ap (shown E) (step_is g w)) ∙ (e ∙ (ap (λ (t : State E). shown E (step E g t)) q ∙ (ap (shown E) (step_is g v) ∙ outcome_then _ _ (λ t. t.seen))))))

    in_the_flood : (x : Trail p) → Stands E (state f) (trail x) → NeverMade p f x
    in_the_flood x D =
        record {
          all_made = A.all_made;
          same_depths = ap (λ (v : Seen). v.depths) seen;
          same_lasts = ap (λ (v : Seen). v.lasts) seen;
          same_clock = ap (λ (v : Seen). v.clock) seen;
          same_length = ap (λ (v : Seen). v.length) seen;
          same_outflow = ap (λ (v : Seen). v.outflow) seen;
          same_soaked = ap (λ (v : Seen). v.soaked) seen;
          same_next = λ g. same_next g D.alone x.at (alone p x.standing f) A.state_is (D.same_next g);
          same_newest = D.same_newest ∙ ap (λ (s : State E). s.newest) A.state_is;
          same_records = λ j h. D.same_records j h ∙ ap (λ (s : State E). E.read s.room _) A.state_is;
          kept_low = subst (λ (s : State E). x.at.run.kept ≤ s.kept) A.state_is D.kept_low;
          kept_is = D.kept_is;
          back_made = λ h. made (D.back_kept h).0 (D.back_kept h).1 (back_number p x.at) refl;
          back_fails = λ d. fails d (back_number p x.at) refl;
          back_none = λ h. same_number _ _ _ _ (sym (back_bridge p x.at (flood_rule p)) ∙ (D.back_none h ∙ back_bridge p f (flood_rule p)));
        }
      where
        A : Alone x.standing D.alone
        A = alone_is x.standing D.alone D.again

        seen : seen_of x.at ≡ seen_of (alone p x.standing f)
        seen = D.same_seen ∙ ap (λ (s : State E). s.seen) A.state_is

        made : (s : State E) → take_back E (state x.at) ≡ done s → (n : ℕ) → back_number p x.at ≡ n → back_number p x.at ≡ 0
        made s e zero z = z
        made s e (suc n) z = absurd (not_done (sym (back_refused x.at z) ∙ e))

        fails : (back_number p x.at ≡ 0 → ⊥) → (n : ℕ) → back_number p x.at ≡ n → x.at.run.kept ≡ 0
        fails d zero z = absurd (d z)
        fails d (suc n) z = D.back_fails (suc n) (back_refused x.at z)

    module _ (F : Fresh p f) where
      trials_never_made : (cs : List Call) → NeverMade p f (series p cs (start p f))
      trials_never_made cs =
          let same = series_is cs (start p f) (omega arith) in
          in_the_flood (series p cs (start p f))
          (subst (λ (y : Any.Trail E). Stands E (state f) y) same.1
          (never_made E (engine_laws p (flood_rule p) (flood_owed p)) (state f) (record { kept_none = F.kept_none; newest_last = F.newest_last }) same.0))

      -- ---- a take-back of the fresh run

      abbrev look : List Row
      look = early_refusals p (ring_fine (room_slots p f.records) f.run.kept f.run.newest) (seen_of f)

      abbrev last_rows : List Row
      last_rows = 10 unless not (eqb f.run.kept 0) ∷ 11 unless restorable p f (newest_record p f) ∷ []

      is_ten : refusal last_rows ≡ 10
      is_ten = refusal_here 10 _ (ap not (eq-eqb _ _ F.kept_none))

      look_passed : refusal look ≡ 0 → back_number p f ≡ 10
      unfolding back_number back_refusals early_refusals
      look_passed e = refusal-second look last_rows tt e ∙ is_ten

      look_failed : (refusal look ≡ 0 → ⊥) → back_number p f ≡ refusal look
      unfolding back_number back_refusals early_refusals
      look_failed d = refusal-first look last_rows tt d

      low : (a b c d : Bool) → refusal (1 unless a ∷ 2 unless b ∷ 3 unless c ∷ 6 unless d ∷ []) ≤ 6
      unfolding refusal pick
      low false b c d = omega arith
      low true false c d = omega arith
      low true true false d = omega arith
      low true true true false = omega arith
      low true true true true = omega arith

      look_low : refusal look ≤ 6
      unfolding early_refusals
      look_low = low _ _ _ _

      back_of_fresh : BackOfFresh p f
      back_of_fresh = record { ten = look_passed; never_eleven = λ e. go (refusal look) refl e }
        where
          go : (n : ℕ) → refusal look ≡ n → back_number p f ≡ 11 → ⊥
          go zero z e = omega (arith, look_passed z)
          go (suc n) z e = omega (arith, look_failed (some_number z), look_low)

  -- ---- what `fresh` answers is a fresh run

  module _ (r : Rules) (depths records before lasts : List ℕ) (u : Run) (a : Freshens p r before records (Done u) lasts) where
    record Freshened : Type 0 where
      number : fresh_number p r before records ≡ 0
      run_is : u ≡ fresh_run r (room_slots p records)

    freshened : Freshened
    unfolding answered
    freshened = go (fresh_number p r before records) refl a.answer
      where
        go : (n : ℕ) → fresh_number p r before records ≡ n → Done u ≡ answered n (fresh_run r (room_slots p records)) → Freshened
        go zero z e = record { number = z; run_is = cc }
        go (suc n) z e = absurd (let y : ◌≡◌ {A = ℕ} 0 1 = cc in omega arith)

    pub fresh-run : u ≡ fresh_run r (room_slots p records)
    fresh-run = freshened.run_is

    fresh_is : Fresh p (world depths lasts records u)
    unfolding fresh_run
    fresh_is =
        record {
          kept_none = ap (λ (v : Run). v.kept) freshened.run_is;
          newest_last = ap (λ (v : Run). v.newest) freshened.run_is;
        }

    -- the rows that it passed
    tests_passed : Passed (fresh_refusals p r before records)
    unfolding fresh_number fresh_refusals
    tests_passed = refusal_passed (fresh_refusals p r before records) tt freshened.number

    abbrev f : World
    f = world depths lasts records (fresh_run r (room_slots p records))

    lasts_cleared : lasts ≡ filled (squares p.shape) (shut p) (λ i. 0) before
    unfolding fresh_lasts
    lasts_cleared = a.lasts_are ∙ pick_true _ _ (eq-eqb _ _ freshened.number)

    looks_good : length depths ≡ squares p.shape → ((i : ℕ) → i < squares p.shape → shut p i ≡ false → get_or depths i 0 ≤ most_depth) →
        Looks p (ring_fine (room_slots p records) f.run.kept f.run.newest) (seen_of f)
    unfolding fresh_refusals fresh_run
    looks_good long low =
        let t = every_each _ (fresh_sizes p r before records freshened.number) in
        let slots : room_slots p records ≡ 0 → ⊥ = fresh-slots p r before records freshened.number in
        let rules = rules_are r t.1.0 tests_passed.1.1.0 in
        let before-long : length before ≡ squares p.shape = each_long p before t.1.1.1.0 in
        record {
          shape-fine = t.0;
          marks_long = each_long p p.marks t.1.1.0;
          depths_long = long;
          lasts_long = ap length lasts_cleared ∙ (length-filled _ _ _ _ ∙ before-long);
          marks-fine = tests_passed.1.0;
          depth_to = low;
          last_to = λ i h e.
              let z : get_or lasts i 0 ≡ 0 = ap (λ (l : List ℕ). get_or l i 0) lasts_cleared ∙ filled_in _ _ _ before i (omega arith) h e in
              omega arith;
          ring-fine = ring-fine _ _ _ (record { some = omega arith; kept_fits = omega arith; newest_below = omega arith });
          clock_to = omega arith;
          length_from = omega arith;
          length_to = omega arith;
          outflow_to = omega arith;
          soaked_to = omega arith;
        }

    fresh_ten : length depths ≡ squares p.shape → ((i : ℕ) → i < squares p.shape → shut p i ≡ false → get_or depths i 0 ≤ most_depth) →
        back_number p (world depths lasts records u) ≡ 10
    fresh_ten long low =
        look_passed (world depths lasts records u) fresh_is
        (subst (λ (v : Run). refusal (early_refusals p (ring_fine (room_slots p records) v.kept v.newest) (seen_of (world depths lasts records v))) ≡ 0) (sym freshened.run_is)
        (seen_look p _ _ (looks_good long low)))

  pub demand_3 : Demand3 p
  demand_3 = record { fresh_is = fresh_is; never_made = trials_never_made; back_of_fresh = back_of_fresh; fresh_ten = fresh_ten }
