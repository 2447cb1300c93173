-- One step and its take-back: the record of a step lies in the newest slot, the older ones stay, and it gives back what was there.
-- Assumes nothing.
use mathlib.Core.Path.{◌≡◌, refl, sym, ap, ap₂, ◌∙◌, subst}
use mathlib.Core.Bool.{true}
use mathlib.Core.Logic.{◌≢◌}
use Prim.Native.Nat.{ℕ, suc, ◌<◌}
use native.Mathlib.Omega.{arith}
use Rattle.trials.specs.Ring.{slot_after, slot_before, slot_ago, kept_after}
use Rattle.trials.specs.Inner.Series.{Outcome, refused, done, and_then, Engine, State, fine, stepped, step, restored, take_back}
use Rattle.trials.specs.Inner.Owes.{Laws}
use Rattle.trials.proofs.RingLaws.{Ring, fine_ring, ring-fine, ring_after, after_below, before-after, ago_more, ago_below, ago_other}

pub not_done : {A : Type 0} {n : ℕ} {a : A} → refused n ≡ done a → ⊥
not_done e = let z : ◌≡◌ {A = ℕ} 0 1 = cc in omega arith

module _ (E : Engine) where
  abbrev pub RingOf : State E → Type 0
  RingOf s = Ring (E.slots s.room) s.kept s.newest

  pub ring_is_fine : (s : State E) → RingOf s → fine E s ≡ true
  ring_is_fine s r = ring-fine (E.slots s.room) s.kept s.newest r

  -- What is known of a step that was made.
  pub record Made (i : E.Inputs) (s t : State E) : Type 0 where
    pub ring : RingOf s
    pub made : E.Seen × E.Record
    pub make_made : E.make true i s.seen ≡ done made
    pub is_stepped : t ≡ stepped E (E.slots s.room) s made

  pub made_step : (i : E.Inputs) (s t : State E) → Made i s t → step E i s ≡ done t
  unfolding step and_then
  made_step i s t M = rw (ring_is_fine s M.ring, M.make_made) (ap done (sym M.is_stepped))

  -- a take-back is made where a step is kept, the look passes and the newest record gives an answer
  pub back_made : (s : State E) (left : ℕ) (before : E.Seen) → RingOf s → s.kept ≡ suc left →
      E.look true s.seen ≡ 0 → E.unmake (E.read s.room s.newest) s.seen ≡ done before →
      take_back E s ≡ done (restored E (E.slots s.room) s left before)
  unfolding take_back and_then
  back_made s left before r e look unmakes = rw (ring_is_fine s r, look, e, unmakes)

module _ (E : Engine) (L : Laws E) where
  pub step_made : (i : E.Inputs) (s t : State E) → step E i s ≡ done t → Made E i s t
  unfolding step and_then
  step_made i s t e = go (E.make (fine E s) i s.seen) refl e
    where
      go : (a : Outcome (E.Seen × E.Record)) → E.make (fine E s) i s.seen ≡ a →
          and_then a (λ made. done (stepped E (E.slots s.room) s made)) ≡ done t → Made E i s t
      go (refused n) q d = absurd (not_done d)
      go (done m) q d =
          let ok : fine E s ≡ true = L.make_fine q in
          record { ring = fine_ring (E.slots s.room) s.kept s.newest ok; made = m; make_made = rw ok at q; is_stepped = cc }

  -- ---- the state after a step, in a room of K slots
  module _ (K : ℕ) {i : E.Inputs} {s t : State E} (slots_are : E.slots s.room ≡ K) (M : Made E i s t) where
    abbrev w : ℕ
    w = slot_after K s.newest

    is_it : t ≡ stepped E K s M.made
    is_it = subst (λ (k : ℕ). t ≡ stepped E k s M.made) slots_are M.is_stepped

    ring_before : Ring K s.kept s.newest
    ring_before = subst (λ (k : ℕ). Ring k s.kept s.newest) slots_are M.ring

    pub some_slot : 0 < K
    some_slot = ring_before.some

    pub seen-after : t.seen ≡ M.made.0
    seen-after = ap (λ (x : State E). x.seen) is_it

    pub newest-after : t.newest ≡ slot_after K s.newest
    newest-after = ap (λ (x : State E). x.newest) is_it

    pub kept-after : t.kept ≡ kept_after K s.kept
    kept-after = ap (λ (x : State E). x.kept) is_it

    room_after : t.room ≡ E.store s.room w M.made.1
    room_after = ap (λ (x : State E). x.room) is_it

    -- the slot that was written, and that the record fits it
    below : w < E.slots s.room
    below = rw slots_are (after_below K s.newest some_slot)

    fits : L.Fits M.made.1
    fits = L.made_fits M.make_made

    pub slots-after : E.slots t.room ≡ K
    slots-after = ap E.slots room_after ∙ (L.slots_stored s.room w M.made.1 fits below ∙ slots_are)

    pub ring_made : RingOf E t
    ring_made = rw (slots-after, newest-after, kept-after) (ring_after ring_before)

    pub before_newest : slot_before K t.newest ≡ s.newest
    before_newest = ap (slot_before K) newest-after ∙ before-after K s.newest ring_before.newest_below

    pub newest-record : E.read t.room t.newest ≡ M.made.1
    newest-record = ap₂ E.read room_after newest-after ∙ L.read_stored s.room w M.made.1 fits below

    -- the record j places before the one that was the newest
    pub older_record : (j : ℕ) → suc j < K → E.read t.room (slot_ago K s.newest j) ≡ E.read s.room (slot_ago K s.newest j)
    older_record j h =
        let back : slot_before K w ≡ s.newest = before-after K s.newest ring_before.newest_below in
        let here : slot_ago K w (suc j) ≡ slot_ago K s.newest j = ago_more K w j ∙ ap (λ (n : ℕ). slot_ago K n j) back in
        let other : slot_ago K s.newest j ≢ w = rw (← here) (ago_other K j w (after_below K s.newest some_slot) h) in
        ap (λ (R : E.Room). E.read R (slot_ago K s.newest j)) room_after
        ∙ L.read_other s.room w (slot_ago K s.newest j) M.made.1 fits below
        (rw slots_are (ago_below K j s.newest ring_before.newest_below)) other
