-- What every step that is made keeps holds all along a series, of the steps that stand: the run of these alone makes each of them.
-- Assumes nothing.
use mathlib.Core.Path.{◌≡◌, refl, sym, subst}
use mathlib.Core.Bool.{true}
use mathlib.Core.List.{List, [], ◌∷◌}
use Rattle.trials.specs.Inner.Series.{done, Engine, State, Call, start, series, replay, Fresh, Stands}
use Rattle.trials.specs.Inner.Owes.{Laws}
use Rattle.trials.proofs.StepLaws.{Made, seen-after}
use Rattle.trials.proofs.AloneLaws.{Last, last}
use Rattle.trials.proofs.Standing.{never_made}

-- P speaks of the inputs of the steps still standing, the newest first, and of what is seen after them.
module _ (E : Engine) (L : Laws E) (f : State E) (F : Fresh E f) (P : List E.Inputs → E.Seen → Type 0) where
  -- it holds of the fresh run, and each step that is made keeps it
  module _ (at_first : P [] f.seen)
      (kept-by-a-step : (i : E.Inputs) (is : List E.Inputs) (v : E.Seen) (made : E.Seen × E.Record) → E.make true i v ≡ done made → P is v → P (i ∷ is) made.0) where
    along_alone : (is : List E.Inputs) (t : State E) → replay E is f ≡ done t → P is t.seen
    unfolding replay
    along_alone [] t e = let q : f ≡ t = cc in subst (λ (x : State E). P [] x.seen) q at_first
    along_alone (i ∷ is) t e =
        let l : Last E f i is t = last E L f F i is t e in
        let M : Made E i l.before t = l.last_made in
        subst (λ (v : E.Seen). P (i ∷ is) v) (sym (seen-after E L (E.slots l.before.room) refl M))
        (kept-by-a-step i is l.before.seen M.made M.make_made (along_alone is l.before l.again_before))

    pub along : (cs : List (Call E)) → P (series E cs (start E f)).standing (series E cs (start E f)).at.seen
    along cs =
        let D : Stands E f (series E cs (start E f)) = never_made E L f F cs in
        subst (λ (v : E.Seen). P (series E cs (start E f)).standing v) (sym D.same_seen)
        (along_alone (series E cs (start E f)).standing D.alone D.again)
