-- The run of the standing steps alone, by its last step: it keeps its newest K, and a take-back's look at it is the fresh run's.
-- Assumes nothing.
use mathlib.Core.Path.{◌≡◌, refl, sym, ap, ap₂, ◌∙◌, subst}
use mathlib.Core.Bool.{Bool, true}
use mathlib.Core.List.{List, [], ◌∷◌}
use Prim.Native.Nat.{ℕ, ◌<◌, min}
use native.Mathlib.Omega.{arith}
use lib.ListN.{length}
use Rattle.trials.specs.Inner.Series.{Outcome, refused, done, and_then, Engine, State, fine, step, replay, Fresh}
use Rattle.trials.specs.Inner.Owes.{Laws}
use Rattle.trials.proofs.StepLaws.{not_done, RingOf, ring_is_fine, Made, step_made, seen-after, kept-after, slots-after, ring_made}

-- a take-back's look at a state
abbrev pub look_at : (E : Engine) → State E → ℕ
look_at E s = E.look (fine E s) s.seen

module _ (E : Engine) (f : State E) where
  pub record Alone (is : List E.Inputs) (t : State E) : Type 0 where
    pub same_slots : E.slots t.room ≡ E.slots f.room
    pub kept_is : t.kept ≡ min (E.slots f.room) (length is)
    pub newest_below : 0 < E.slots f.room → t.newest < E.slots f.room

  pub alone_ring : {is : List E.Inputs} {t : State E} → Alone is t → 0 < E.slots f.room → RingOf E t
  alone_ring A pos = rw A.same_slots (record { some = pos; kept_fits = omega (arith, A.kept_is); newest_below = A.newest_below pos })

  -- its last step
  pub record Last (i : E.Inputs) (is : List E.Inputs) (t : State E) : Type 0 where
    pub before : State E
    pub again_before : replay E is f ≡ done before
    pub alone-before : Alone is before
    pub last_made : Made E i before t

module _ (E : Engine) (L : Laws E) (f : State E) (F : Fresh E f) where
  abbrev K : ℕ
  K = E.slots f.room

  last_of : (i : E.Inputs) (is : List E.Inputs) (t : State E) → ((b : State E) → replay E is f ≡ done b → Alone E f is b) →
      replay E (i ∷ is) f ≡ done t → Last E f i is t
  unfolding replay and_then
  last_of i is t Alone-of e = go (replay E is f) refl e
    where
      go : (a : Outcome (State E)) → replay E is f ≡ a → and_then a (step E i) ≡ done t → Last E f i is t
      go (refused n) r d = absurd (not_done d)
      go (done b) r d = record { before = b; again_before = r; alone-before = Alone-of b r; last_made = step_made E L i b t d }

  pub alone : (is : List E.Inputs) (t : State E) → replay E is f ≡ done t → Alone E f is t
  unfolding replay
  alone [] t e =
      let q : f ≡ t = cc in
      subst (λ (x : State E). Alone E f [] x) q
      (record { same_slots = refl; kept_is = rw F.kept_none (omega arith); newest_below = λ h. rw F.newest_last (omega arith) })
  alone (i ∷ is) t e =
      let l : Last E f i is t = last_of i is t (alone is) e in
      let slots_b : E.slots l.before.room ≡ K = l.alone-before.same_slots in
      let slots-t : E.slots t.room ≡ K = slots-after E L K slots_b l.last_made in
      record {
        same_slots = slots-t;
        kept_is = omega (arith, kept-after E L K slots_b l.last_made, l.alone-before.kept_is);
        newest_below = λ h. omega (arith, (ring_made E L K slots_b l.last_made).newest_below, slots-t);
      }

  pub last : (i : E.Inputs) (is : List E.Inputs) (t : State E) → replay E (i ∷ is) f ≡ done t → Last E f i is t
  last i is t e = last_of i is t (alone is) e

  -- where a step was made, a look passes before it and after it: so it gives the same all along
  pub same_look : (is : List E.Inputs) (t : State E) → replay E is f ≡ done t → look_at E t ≡ look_at E f
  unfolding replay
  same_look [] t e = let q : f ≡ t = cc in ap (look_at E) (sym q)
  same_look (i ∷ is) t e =
      let l : Last E f i is t = last i is t e in
      let b : State E = l.before in
      let M : Made E i b t = l.last_made in
      let slots_b : E.slots b.room ≡ K = l.alone-before.same_slots in
      let fine-t : fine E t ≡ true = ring_is_fine E t (ring_made E L K slots_b M) in
      let look-t : look_at E t ≡ 0 = ap₂ E.look fine-t (seen-after E L K slots_b M) ∙ L.look_after M.make_made in
      let look-b : look_at E b ≡ 0 = ap (λ (ok : Bool). E.look ok b.seen) (ring_is_fine E b M.ring) ∙ L.look_before M.make_made in
      look-t ∙ (sym look-b ∙ same_look is b l.again_before)
