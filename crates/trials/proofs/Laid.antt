-- Saved is not interrupted: a step looks at what is seen and at whether the ring is in range, never at a record, so a state that is laid
-- down anew with nothing kept goes on as the one that it was saved from.
-- Assumes nothing.
use mathlib.Core.Path.{◌≡◌, refl, sym, ap, ◌∙◌}
use mathlib.Core.Bool.{true}
use mathlib.Core.List.{List, [], ◌∷◌}
use Rattle.trials.specs.Inner.Series.{Outcome, refused, done, and_then, Engine, State, fine, stepped, step, replay, shown}
use Rattle.trials.specs.Inner.Owes.{Laws}
use Rattle.trials.proofs.StepLaws.{step_made, ring_made, ring_is_fine}

module _ (E : Engine) (L : Laws E) where
  -- two answers that show the same and go on alike
  abbrev Alike : Outcome (State E) → Outcome (State E) → Type 0
  Alike (refused n) (refused m) = n ≡ m
  Alike (refused n) (done t) = ⊥
  Alike (done s) (refused m) = ⊥
  Alike (done s) (done t) = (s.seen ≡ t.seen) × (fine E s ≡ fine E t)

  alike_shown : (a b : Outcome (State E)) → Alike a b → shown E a ≡ shown E b
  unfolding and_then
  alike_shown (refused n) (refused m) e = ap refused e
  alike_shown (refused n) (done t) e = absurd e
  alike_shown (done s) (refused m) e = absurd e
  alike_shown (done s) (done t) e = ap done e.0

  made_is : (i : E.Inputs) (s : State E) (m : E.Seen × E.Record) → E.make (fine E s) i s.seen ≡ done m →
      step E i s ≡ done (stepped E (E.slots s.room) s m)
  unfolding step and_then
  made_is i s m u = rw u

  fine-after : (i : E.Inputs) (s : State E) (m : E.Seen × E.Record) → E.make (fine E s) i s.seen ≡ done m →
      fine E (stepped E (E.slots s.room) s m) ≡ true
  fine-after i s m u =
      let t : State E = stepped E (E.slots s.room) s m in
      ring_is_fine E t (ring_made E L (E.slots s.room) refl (step_made E L i s t (made_is i s m u)))

  step_alike : (i : E.Inputs) (s t : State E) → s.seen ≡ t.seen → fine E s ≡ fine E t → Alike (step E i s) (step E i t)
  unfolding step and_then
  step_alike i s t p q = go (E.make (fine E s) i s.seen) (E.make (fine E t) i t.seen) refl refl (rw (q, p))
    where
      go : (a b : Outcome (E.Seen × E.Record)) → E.make (fine E s) i s.seen ≡ a → E.make (fine E t) i t.seen ≡ b → a ≡ b →
          Alike (and_then a (λ made. done (stepped E (E.slots s.room) s made))) (and_then b (λ made. done (stepped E (E.slots t.room) t made)))
      go (refused n) b u v e = rw (← e) refl
      go (done m) b u v e = rw (← e) (refl, fine-after i s m u ∙ sym (fine-after i t m (v ∙ sym e)))

  replay_alike : (is : List E.Inputs) (s t : State E) → s.seen ≡ t.seen → fine E s ≡ fine E t → Alike (replay E is s) (replay E is t)
  unfolding replay and_then
  replay_alike [] s t p q = (p, q)
  replay_alike (i ∷ is) s t p q = go (replay E is s) (replay E is t) (replay_alike is s t p q)
    where
      go : (a b : Outcome (State E)) → Alike a b → Alike (and_then a (step E i)) (and_then b (step E i))
      go (refused n) (refused m) e = e
      go (refused n) (done u) e = absurd e
      go (done u) (refused m) e = absurd e
      go (done u) (done v) e = step_alike i u v e.0 e.1

  -- any steps from a state, and from one that is laid down with the same seen: refused by the same number, or the same is seen
  pub laid : (is : List E.Inputs) (s t : State E) → s.seen ≡ t.seen → fine E s ≡ fine E t → shown E (replay E is s) ≡ shown E (replay E is t)
  laid is s t p q = alike_shown (replay E is s) (replay E is t) (replay_alike is s t p q)
