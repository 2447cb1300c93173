-- A trial taken back was never made: a step does the same to the series and to the standing steps alone, and a take-back reads the last one's record.
-- Assumes nothing.
use mathlib.Core.Path.{◌≡◌, refl, sym, ap, ap₂, ◌∙◌, subst}
use mathlib.Core.Bool.{true}
use mathlib.Core.List.{List, [], ◌∷◌, ◌++◌}
use Prim.Native.Nat.{ℕ, zero, suc, ◌+◌, ◌-◌, ◌≤◌, ◌<◌, max}
use native.Mathlib.Decide.{dec_lt}
use native.Mathlib.Omega.{arith}
use lib.ListN.{length}
use Rattle.trials.specs.Ring.{slot_after, slot_before, slot_ago}
use Rattle.trials.specs.Inner.Series.{Outcome, refused, done, and_then, Engine, State, fine, stepped, step, restored, looked, take_back, Call, stepping, taking_back, running, run, Trail, start, older, after_step, after_back, repeat, called, series, replay, Fresh, shown, Stands}
use Rattle.trials.specs.Inner.Owes.{Laws}
use Rattle.trials.proofs.RingLaws.{none_fails, ago_none, ago_more}
use Rattle.trials.proofs.StepLaws.{not_done, RingOf, ring_is_fine, Made, step_made, made_step, some_slot, seen-after, newest-after, kept-after, slots-after, ring_made, before_newest, newest-record, older_record, back_made}
use Rattle.trials.proofs.AloneLaws.{Alone, Last, alone, last, alone_ring, look_at, same_look}

module _ (E : Engine) where
  -- so many take-backs, one after the other
  abbrev pub backs : ℕ → List (Call E)
  backs zero = []
  backs (suc n) = taking_back ∷ backs n

module _ (E : Engine) (L : Laws E) (f : State E) (F : Fresh E f) where
  abbrev K : ℕ
  K = E.slots f.room

  -- What is carried along a series: kept is the standing steps less those whose place was taken, and the records still kept agree.
  record Same (s : State E) (is : List E.Inputs) (peak : ℕ) : Type 0 where
    run_alone : State E
    again : replay E is f ≡ done run_alone
    same_seen : s.seen ≡ run_alone.seen
    same_newest : s.newest ≡ run_alone.newest
    same_slots : E.slots s.room ≡ K
    kept_is : s.kept + (peak - K) ≡ length is
    peak_high : length is ≤ peak
    same_records : (j : ℕ) → j < s.kept → E.read s.room (slot_ago K s.newest j) ≡ E.read run_alone.room (slot_ago K s.newest j)

  abbrev Good : Trail E → Type 0
  Good x = Same x.at x.standing x.peak

  -- ---- a step

  step_case : (i : E.Inputs) (s t : State E) (is : List E.Inputs) (peak : ℕ) → Same s is peak → Made E i s t →
      Same t (i ∷ is) (max peak (length is + 1))
  unfolding replay and_then
  step_case i s t is peak I M =
      record {
        run_alone = u;
        again = rw I.again (made_step E i a u N);
        same_seen = seen-after E L K slots_s M ∙ sym (seen-after E L K slots_a N);
        same_newest = newest;
        same_slots = slots-after E L K slots_s M;
        kept_is = omega (arith, kept-after E L K slots_s M, I.kept_is, I.peak_high);
        peak_high = omega arith;
        same_records = records;
      }
    where
      a : State E
      a = I.run_alone

      A : Alone E f is a
      A = alone E L f F is a I.again

      slots_s : E.slots s.room ≡ K
      slots_s = I.same_slots

      slots_a : E.slots a.room ≡ K
      slots_a = A.same_slots

      -- the run alone makes the step too
      u : State E
      u = stepped E (E.slots a.room) a M.made

      N : Made E i a u
      N = record {
        ring = alone_ring E f A (some_slot E L K slots_s M);
        made = M.made;
        make_made = rw (← I.same_seen) M.make_made;
        is_stepped = refl;
      }

      newest : t.newest ≡ u.newest
      newest = newest-after E L K slots_s M ∙ (ap (slot_after K) I.same_newest ∙ sym (newest-after E L K slots_a N))

      records : (j : ℕ) → j < t.kept → E.read t.room (slot_ago K t.newest j) ≡ E.read u.room (slot_ago K t.newest j)
      records zero h =
          rw (ago_none K t.newest)
          (newest-record E L K slots_s M ∙ (sym (newest-record E L K slots_a N) ∙ ap (E.read u.room) (sym newest)))
      records (suc j) h =
          let more : suc j < K = omega (arith, kept-after E L K slots_s M) in
          let back : slot_before K t.newest ≡ s.newest = before_newest E L K slots_s M in
          let here : slot_ago K t.newest (suc j) ≡ slot_ago K s.newest j = ago_more K t.newest j ∙ ap (λ (n : ℕ). slot_ago K n j) back in
          let there : slot_ago K a.newest j ≡ slot_ago K s.newest j = ap (λ (n : ℕ). slot_ago K n j) (sym I.same_newest) in
          rw here
          (older_record E L K slots_s M j more
          ∙ (I.same_records j (omega (arith, kept-after E L K slots_s M))
          ∙ (ap (E.read a.room) (sym there) ∙ (sym (older_record E L K slots_a N j more) ∙ ap (E.read u.room) there))))

  step_good : (i : E.Inputs) (x : Trail E) → Good x → Good (after_step E i x (step E i x.at))
  step_good i x I = go (step E i x.at) refl
    where
      go : (a : Outcome (State E)) → step E i x.at ≡ a → Good (after_step E i x a)
      go (refused n) e = I
      go (done t) e = step_case i x.at t x.standing x.peak I (step_made E L i x.at t e)

  -- ---- a take-back

  -- where a step is kept, its record takes the state back to where it was made, and all is as the run without it has it
  record Back (s : State E) (left : ℕ) (is : List E.Inputs) (peak : ℕ) : Type 0 where
    old : E.Seen
    is_made : take_back E s ≡ done (restored E K s left old)
    then_same : Same (restored E K s left old) is peak

  back_case : (s : State E) (left : ℕ) (i : E.Inputs) (is : List E.Inputs) (peak : ℕ) → s.kept ≡ suc left → Same s (i ∷ is) peak →
      Back s left is peak
  back_case s left i is peak e I =
      record {
        old = b.seen;
        is_made =
            subst (λ (k : ℕ). take_back E s ≡ done (restored E k s left b.seen)) I.same_slots
            (back_made E s left b.seen ring e (ap (E.look true) seen ∙ L.look_after M.make_made)
            (ap₂ E.unmake reads seen ∙ L.unmake_made M.make_made));
        then_same = record {
          run_alone = b;
          again = l.again_before;
          same_seen = refl;
          same_newest = before;
          same_slots = I.same_slots;
          kept_is = omega (arith, I.kept_is);
          peak_high = omega (arith, I.peak_high);
          same_records = records;
        };
      }
    where
      t : State E
      t = I.run_alone

      l : Last E f i is t
      l = last E L f F i is t I.again

      b : State E
      b = l.before

      M : Made E i b t
      M = l.last_made

      slots_b : E.slots b.room ≡ K
      slots_b = l.alone-before.same_slots

      kept_low : s.kept ≤ K
      kept_low = omega (arith, I.kept_is, I.peak_high)

      ring : RingOf E s
      ring = rw (I.same_slots, I.same_newest) (record {
        some = some_slot E L K slots_b M;
        kept_fits = kept_low;
        newest_below = omega (arith, (ring_made E L K slots_b M).newest_below, slots-after E L K slots_b M);
      })

      seen : s.seen ≡ M.made.0
      seen = I.same_seen ∙ seen-after E L K slots_b M

      -- the newest record is the one that the last standing step wrote
      reads : E.read s.room s.newest ≡ M.made.1
      reads =
          ap (E.read s.room) (sym (ago_none K s.newest))
          ∙ (I.same_records 0 (omega arith) ∙ (ap (E.read t.room) (ago_none K s.newest ∙ I.same_newest) ∙ newest-record E L K slots_b M))

      before : slot_before K s.newest ≡ b.newest
      before = ap (slot_before K) I.same_newest ∙ before_newest E L K slots_b M

      records : (j : ℕ) → j < left → E.read s.room (slot_ago K (slot_before K s.newest) j) ≡ E.read b.room (slot_ago K (slot_before K s.newest) j)
      records j h =
          let there : slot_ago K (slot_before K s.newest) j ≡ slot_ago K b.newest j = ap (λ (n : ℕ). slot_ago K n j) before in
          ap (E.read s.room) (sym (ago_more K s.newest j))
          ∙ (I.same_records (suc j) (omega arith)
          ∙ (ap (E.read t.room) (ago_more K s.newest j ∙ there)
          ∙ (older_record E L K slots_b M j (omega (arith, kept_low)) ∙ ap (E.read b.room) (sym there))))

  back_kept : (s : State E) (left : ℕ) (is : List E.Inputs) (peak : ℕ) → s.kept ≡ suc left → Same s is peak → Back s left (older E is) peak
  back_kept s left [] peak e I = absurd (let h : s.kept + (peak - K) ≡ 0 = I.kept_is in omega arith)
  back_kept s left (i ∷ is) peak e I = back_case s left i is peak e I

  -- where none is kept it is refused, by the look's number or by 10
  back_none : (s : State E) → s.kept ≡ 0 → take_back E s ≡ looked E (look_at E s) (refused 10)
  unfolding take_back
  back_none s e = rw e

  back_refused : (s : State E) → s.kept ≡ 0 → (n : ℕ) × (take_back E s ≡ refused n)
  back_refused s e = go (look_at E s) (back_none s e)
    where
      go : (n : ℕ) → take_back E s ≡ looked E n (refused 10) → (n : ℕ) × (take_back E s ≡ refused n)
      go zero q = (10, q)
      go (suc n) q = (suc n, q)

  back_good : (x : Trail E) → Good x → Good (after_back E x (take_back E x.at))
  back_good x I = go x.at.kept refl
    where
      go : (k : ℕ) → x.at.kept ≡ k → Good (after_back E x (take_back E x.at))
      go zero e = rw (back_refused x.at e).1 I
      go (suc left) e =
          let b : Back x.at left (older E x.standing) x.peak = back_kept x.at left x.standing x.peak e I in
          rw b.is_made b.then_same

  -- ---- any series

  repeat_good : (n : ℕ) (i : E.Inputs) (x : Trail E) → Good x → Good (repeat E n i x)
  unfolding repeat
  repeat_good zero i x I = I
  repeat_good (suc n) i x I = repeat_good n i (after_step E i x (step E i x.at)) (step_good i x I)

  called_good : (c : Call E) (x : Trail E) → Good x → Good (called E c x)
  called_good (stepping i) x I = step_good i x I
  called_good taking_back x I = back_good x I
  called_good (running i more n) x I = repeat_good (run E i more n x.at).steps i x I

  series_good : (cs : List (Call E)) (x : Trail E) → Good x → Good (series E cs x)
  unfolding series
  series_good [] x I = I
  series_good (c ∷ cs) x I = series_good cs (called E c x) (called_good c x I)

  start_good : Good (start E f)
  unfolding replay
  start_good = record {
    run_alone = f;
    again = refl;
    same_seen = refl;
    same_newest = refl;
    same_slots = refl;
    kept_is = rw F.kept_none (omega arith);
    peak_high = omega arith;
    same_records = λ j h. refl;
  }

  -- ---- what follows of a state that agrees

  same_fine : (s : State E) (is : List E.Inputs) (peak : ℕ) (I : Same s is peak) → fine E s ≡ fine E I.run_alone
  same_fine s is peak I = go (dec_lt 0 K)
    where
      t : State E
      t = I.run_alone

      A : Alone E f is t
      A = alone E L f F is t I.again

      go : Dec (0 < K) → fine E s ≡ fine E t
      go (yes h) =
          let below : s.newest < K = rw I.same_newest (A.newest_below h) in
          let ring : RingOf E s = rw I.same_slots (record { some = h; kept_fits = omega (arith, I.kept_is, I.peak_high); newest_below = below }) in
          ring_is_fine E s ring ∙ sym (ring_is_fine E t (alone_ring E f A h))
      go (no h) =
          none_fails (E.slots s.room) s.kept s.newest (omega (arith, I.same_slots))
          ∙ sym (none_fails (E.slots t.room) t.kept t.newest (omega (arith, A.same_slots)))

  same_next : (i : E.Inputs) (s t : State E) → fine E s ≡ fine E t → s.seen ≡ t.seen → shown E (step E i s) ≡ shown E (step E i t)
  unfolding step and_then
  same_next i s t p q = rw (p, q) (go (E.make (fine E t) i t.seen))
    where
      go : (a : Outcome (E.Seen × E.Record)) →
          shown E (and_then a (λ made. done (stepped E (E.slots s.room) s made))) ≡ shown E (and_then a (λ made. done (stepped E (E.slots t.room) t made)))
      go (refused n) = refl
      go (done m) = refl

  stands : (x : Trail E) → Good x → Stands E f x
  stands x I =
      record {
        alone = t;
        again = I.again;
        same_seen = I.same_seen;
        same_newest = I.same_newest;
        same_next = λ i. same_next i x.at t same I.same_seen;
        same_records = I.same_records;
        kept-alone = A.kept_is;
        kept_low = omega (arith, A.kept_is, I.kept_is, I.peak_high);
        kept_is = I.kept_is;
        back_kept = λ h. made (x.at.kept - 1) (omega arith);
        back_fails = λ n e. fails n e x.at.kept refl;
        back_none = λ e.
            back_none x.at e
            ∙ (ap (λ (n : ℕ). looked E n (refused 10)) (look ∙ same_look E L f F x.standing t I.again) ∙ sym (back_none f F.kept_none));
      }
    where
      t : State E
      t = I.run_alone

      A : Alone E f x.standing t
      A = alone E L f F x.standing t I.again

      same : fine E x.at ≡ fine E t
      same = same_fine x.at x.standing x.peak I

      look : look_at E x.at ≡ look_at E t
      look = ap₂ E.look same I.same_seen

      made : (left : ℕ) → x.at.kept ≡ suc left → (s : State E) × (take_back E x.at ≡ done s)
      made left e = (_, (back_kept x.at left x.standing x.peak e I).is_made)

      fails : (n : ℕ) → take_back E x.at ≡ refused n → (k : ℕ) → x.at.kept ≡ k → x.at.kept ≡ 0
      fails n e zero q = q
      fails n e (suc left) q = absurd (not_done (sym e ∙ (made left q).1))

  -- DEMAND 3: any series from a fresh run
  pub never_made : (cs : List (Call E)) → Stands E f (series E cs (start E f))
  never_made cs = stands (series E cs (start E f)) (series_good cs (start E f) start_good)

  -- ---- a trial taken back was never made: what came after a series

  record Undone (is : List E.Inputs) (z : Trail E) : Type 0 where
    good : Good z
    stands_on : z.standing ≡ is

  undone : (us is : List E.Inputs) (y : Trail E) → Good y → y.standing ≡ us ++ is → length us ≤ y.at.kept →
      Undone is (series E (backs E (length us)) y)
  unfolding series
  undone [] is y I e h = record { good = I; stands_on = e }
  undone (u ∷ us) is y I e h = go (undone us is) y.at.kept refl
    where
      go : ((z : Trail E) → Good z → z.standing ≡ us ++ is → length us ≤ z.at.kept → Undone is (series E (backs E (length us)) z)) → (k : ℕ) → y.at.kept ≡ k →
          Undone is (series E (backs E (length us)) (after_back E y (take_back E y.at)))
      go more zero q = absurd (omega arith)
      go more (suc left) q =
          let b : Back y.at left (older E y.standing) y.peak = back_kept y.at left y.standing y.peak q I in
          let then : Trail E = record { at = restored E K y.at left b.old; standing = older E y.standing; peak = y.peak } in
          rw b.is_made (more then b.then_same (ap (older E) e) (omega arith))

  abbrev from_done : State E → Outcome (State E) → State E
  from_done d (refused n) = d
  from_done d (done s) = s

  -- after any calls, and any further ones by which `us` stand besides and none of the first was taken back: so many take-backs, and what is
  -- seen is what was seen before them
  pub taken_back_lem : (cs ts : List (Call E)) (us : List E.Inputs) →
      (series E ts (series E cs (start E f))).standing ≡ us ++ (series E cs (start E f)).standing →
      length us ≤ (series E ts (series E cs (start E f))).at.kept →
      (series E (backs E (length us)) (series E ts (series E cs (start E f)))).at.seen ≡ (series E cs (start E f)).at.seen
  taken_back_lem cs ts us e h =
      let x : Trail E = series E cs (start E f) in
      let I : Good x = series_good cs (start E f) start_good in
      let z : Trail E = series E (backs E (length us)) (series E ts x) in
      let U : Undone x.standing z = undone us x.standing (series E ts x) (series_good ts x I) e h in
      let again : replay E x.standing f ≡ done U.good.run_alone =
      subst (λ (is : List E.Inputs). replay E is f ≡ done U.good.run_alone) U.stands_on U.good.again in
      let same : U.good.run_alone ≡ I.run_alone = ap (from_done I.run_alone) (sym again ∙ I.again) in
      U.good.same_seen ∙ (ap (λ (s : State E). s.seen) same ∙ sym I.same_seen)
