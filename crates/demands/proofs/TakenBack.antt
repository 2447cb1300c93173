-- What came after a series and is taken back was never made, and what is laid down goes on as what it was saved from: a series of the flood is one
-- of the ledger's engine, of which both are proved for any engine.
-- Assumes nothing.
use mathlib.Core.Path.{◌≡◌, refl, sym, ap, ◌∙◌, subst}
use mathlib.Core.List.{List, [], ◌∷◌, ◌++◌}
use Prim.Native.Nat.{ℕ, zero, suc, ◌≤◌}
use native.Mathlib.Omega.{arith}
use lib.ListN.{length}
use Rattle.trials.specs.Inner.Series.{Outcome, refused, done, and_then, State, step, replay, shown}
use Rattle.trials.specs.Inner.Series as Any
use Rattle.trials.proofs.StepLaws.{not_done}
use Rattle.trials.proofs.Standing as Standing
use Rattle.trials.proofs.Laid.{laid}
use Rattle.ledger.specs.Runs.{Plan, World, seen_of}
use Rattle.ledger.proofs.EngineLaws.{engine_laws}
use Rattle.checks.specs.Given.{Given}
use Rattle.flood.specs.Step.{step_number}
use Rattle.flood.specs.Inner.Rule.{flood_rule}
use Rattle.flood.proofs.RuleLaws.{flood_owed}
use Rattle.demands.specs.Demand3.{Call, taking_back, Trail, start, called, series, alone, AllMade, Fresh}
use Rattle.demands.specs.TakenBack.{backs, TakenBack, Alike, LaidDown}
use Rattle.demands.proofs.Demand3.{E, state, trail, step_made, called_is, series_is, Alone, alone_is, same_next}

module _ (p : Plan) where
  -- ---- a trial taken back

  -- the most that ever stood is at least what stands
  high : (cs : List Call) (x : Trail p) → length x.standing ≤ x.peak → length (series p cs x).standing ≤ (series p cs x).peak
  unfolding series
  high [] x h = h
  high (c ∷ cs) x h = high cs (called p c x) (omega arith)

  backs_are : (n : ℕ) (x : Trail p) → length x.standing ≤ x.peak → Any.series (E p) (Standing.backs (E p) n) (trail p x) ≡ trail p (series p (backs n) x)
  unfolding Any.series series
  backs_are zero x h = refl
  backs_are (suc n) x h = ap (Any.series (E p) (Standing.backs (E p) n)) (called_is p x h taking_back) ∙ backs_are n (called p taking_back x) (omega arith)

  pub taken_back_lem : TakenBack p
  taken_back_lem = record { gone = gone }
    where
      gone : (f : World) → Fresh p f → (calls trial : List Call) (made : List Given) →
          let before = series p calls (start p f) in
          let tried = series p trial before in
          tried.standing ≡ made ++ before.standing → length made ≤ tried.at.run.kept →
          seen_of (series p (backs (length made)) tried).at ≡ seen_of before.at
      gone f F calls trial made e h =
          let before = series p calls (start p f) in
          let tried = series p trial before in
          let up = high calls (start p f) (omega arith) in
          let first = series_is p calls (start p f) (omega arith) in
          let second = series_is p trial before up in
          let both = ap (Any.series (E p) second.0) first.1 ∙ second.1 in
          sym (ap (λ (t : Any.Trail (E p)). t.at.seen) (ap (Any.series (E p) (Standing.backs (E p) (length made))) both ∙ backs_are (length made) tried (high trial before up)))
          ∙ (Standing.taken_back_lem (E p) (engine_laws p (flood_rule p) (flood_owed p)) (state p f) (record { kept_none = F.kept_none; newest_last = F.newest_last })
          first.0 second.0 made
          (ap (λ (t : Any.Trail (E p)). t.standing) both ∙ (e ∙ ap (λ (t : Any.Trail (E p)). made ++ t.standing) (sym first.1)))
          (subst (λ (t : Any.Trail (E p)). length made ≤ t.at.kept) (sym both) h)
          ∙ ap (λ (t : Any.Trail (E p)). t.at.seen) first.1)

  -- ---- laid down anew

  -- the steps made alone, as the engine makes them
  replayed : (gs : List Given) (w : World) → AllMade p gs w → replay (E p) gs (state p w) ≡ done (state p (alone p gs w))
  unfolding replay alone and_then
  replayed [] w made = refl
  replayed (g ∷ gs) w made = rw (replayed gs w made.1) (step_made p g (alone p gs w) made.0)

  module _ (w v : World) (a : Alike p w v) (gs : List Given) (made : AllMade p gs w) where
    shows : shown (E p) (replay (E p) gs (state p v)) ≡ done (seen_of (alone p gs w))
    unfolding and_then
    shows =
        sym (laid (E p) (engine_laws p (flood_rule p) (flood_owed p)) gs (state p w) (state p v) a.same_seen a.same_ring)
        ∙ ap (shown (E p)) (replayed gs w made)

    record Made : Type 0 where
      all_made : AllMade p gs v
      seen_same : seen_of (alone p gs w) ≡ seen_of (alone p gs v)

    laid_made : Made
    unfolding and_then
    laid_made = go (replay (E p) gs (state p v)) refl shows
      where
        go : (o : Outcome (State (E p))) → replay (E p) gs (state p v) ≡ o → shown (E p) o ≡ done (seen_of (alone p gs w)) → Made
        go (refused n) q e = absurd (not_done e)
        go (done t) q e =
            let A : Alone p v gs t = alone_is p v gs t q in
            let seen : t.seen ≡ seen_of (alone p gs w) = cc in
            record { all_made = A.all_made; seen_same = sym seen ∙ ap (λ (s : State (E p)). s.seen) A.state_is }

    laid_next : (g : Given) → step_number p g (alone p gs w) ≡ step_number p g (alone p gs v)
    unfolding replay and_then
    laid_next g =
        same_next p v g (state p (alone p gs v)) (alone p gs w) (alone p gs v) refl
        (ap (λ (o : Outcome (State (E p))). shown (E p) (and_then o (step (E p) g))) (sym (replayed gs w made))
        ∙ (laid (E p) (engine_laws p (flood_rule p) (flood_owed p)) (g ∷ gs) (state p w) (state p v) a.same_seen a.same_ring
        ∙ ap (λ (o : Outcome (State (E p))). shown (E p) (and_then o (step (E p) g))) (replayed gs v laid_made.all_made)))

  pub laid_down : LaidDown p
  laid_down =
      record {
        same_made = λ w v a gs made. (laid_made w v a gs made).all_made;
        same_seen = λ w v a gs made. (laid_made w v a gs made).seen_same;
        same_next = laid_next;
      }
