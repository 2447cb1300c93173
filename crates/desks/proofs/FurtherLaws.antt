-- Laws of the further steps of a line `step`: a step that was made leaves what passes the checks 1 to 6, over the same sheet, at the same rates.
-- Assumes nothing.
use mathlib.Core.Path.{◌≡◌, refl, sym, ap, subst, ◌∙◌}
use mathlib.Core.Bool.{Bool, false}
use mathlib.Core.List.{List, [], ◌∷◌, ◌++◌}
use Prim.Native.Nat.{ℕ, zero, suc}
use native.Mathlib.Omega.{arith}
use lib.Dec.{eqb}
use lib.ListN.{length, take, drop}
use borrow.Author.Tests.{eqb-true}
use Rattle.reckon.specs.Lists.{placed}
use Rattle.reckon.proofs.TestLaws.{pick_true, pick_false, not_both}
use Rattle.grid.specs.Squares.{squares}
use Rattle.ledger.specs.Runs.{Plan, World, world, seen_of}
use Rattle.checks.specs.Given.{Given}
use Rattle.checks.specs.Inner.Ready.{Ready}
use Rattle.flood.specs.Step.{step_number, stepped, Passes}
use Rattle.flood.proofs.StepLaws.{is_ready}
use Rattle.flood.proofs.RunToLaws.{checks_passed, passes_after, room-kept}
use Rattle.text.proofs.ReadingLaws.{by_test}
use Rattle.hatches.specs.Log.{Evening}
use Rattle.evenings.specs.Taking.{world_of}
use Rattle.evenings.specs.Program.{Stores, given_held}
use Rattle.trying.specs.Lines.{Came, came, step_given, evening_next, step_came}
use Rattle.trying.proofs.LineLaws.{step-came}
use Rattle.desks.specs.State.{records_on}
use Rattle.desks.specs.Lines.{Told, steps_left, last_told, made_told, next_told}
use Rattle.desks.specs.Command.{Left, Leaves, plan_on, evening_on, stores_with, told_on, ready_number, step_left}
use Rattle.desks.specs.Inner.Further.{FurtherSteps}
use Rattle.desks.specs.declared.state.Desk.{Desk}

-- ---- a part of a room that was put anew

front : (n : ℕ) (new old : List ℕ) → length new ≡ length (take n old) → take n (new ++ drop (length new) old) ≡ new
front zero [] old e = refl
front zero (x ∷ new) old e = absurd (omega (arith, e))
front (suc n) [] [] e = refl
front (suc n) [] (y ∷ old) e = absurd (omega (arith, e))
front (suc n) (x ∷ new) [] e = absurd (omega (arith, e))
front (suc n) (x ∷ new) (y ∷ old) e = ap (λ (l : List ℕ). x ∷ l) (front n new old (omega (arith, e)))

first_again : (n : ℕ) (new old : List ℕ) → length new ≡ length (take n old) → take n (placed old 0 new) ≡ new
unfolding placed
first_again n new old e = front n new old e

-- ---- after a step that was made

world-of : {x y z : List ℕ} {w : World} → x ≡ w.depths → y ≡ w.lasts → z ≡ w.records → world x y z w.run ≡ w
world-of {w = w} a b c = λ j. world (a j) (b j) (c j) w.run

module _ (d : Desk) (r : Stores) where
  abbrev p : Plan
  p = plan_on d r

  abbrev g : Given
  g = given_held d.heading r

  abbrev e : Evening
  e = evening_on d.heading r d.log

  -- what is given to the step, with the hatches
  abbrev drawn : Given
  drawn = step_given p g e d.account

  -- the evening after it, and the same read from the rooms
  abbrev next : Evening
  next = evening_next p g e d.account

  abbrev held : Evening
  held = evening_on d.heading (stores_with r next) next.log

  module _ (made : step_number p drawn (world_of e) ≡ 0) where
    abbrev after : World
    after = stepped p drawn (world_of e)

    before_ready : Ready p drawn (seen_of (world_of e))
    before_ready = is_ready p drawn (world_of e) (checks_passed p drawn (world_of e) made)

    after_ready : Ready p drawn (seen_of after)
    after_ready = is_ready p drawn after (passes_after p drawn (world_of e) made).checked

    held_is : world_of held ≡ after
    held_is =
        world-of {w = after}
        (first_again (squares d.heading.shape) after.depths r.sheet.cells.depths
        (after_ready.flows.lies.sited.depths_long ∙ sym before_ready.flows.lies.sited.depths_long))
        (first_again (squares d.heading.shape) after.lasts r.lasts (after_ready.flows.lasts_long ∙ sym before_ready.flows.lasts_long))
        (first_again (records_on d.heading.shape) after.records r.records (room-kept p drawn (world_of e) (checks_passed p drawn (world_of e) made) made))

    held_passes : Passes p drawn (world_of held)
    held_passes = subst (λ (w : World). Passes p drawn w) (sym held_is) (passes_after p drawn (world_of e) made)

-- ---- what each call leaves

-- nothing is asked where no step is to be made
none_further : {d : Desk} {r : Stores} → d.series.on ≡ false → FurtherSteps d r
none_further off = record { passes = λ on. not_both on off }

last_off : (p : Plan) (every : Bool) (c : Came) → (last_told p every c).series.on ≡ false
last_off p every c =
    by_test every (λ y. ap (λ (t : Told). t.series.on) (pick_true _ _ y)) (λ y. ap (λ (t : Told). t.series.on) (pick_false _ _ y))

module _ (d : Desk) (r : Stores) where
  -- of a call that is told so
  abbrev ToldFurther : Told → Type 0
  ToldFurther t = FurtherSteps (told_on d r t).desk (told_on d r t).rooms

  abbrev tried : Came
  tried = step_came (p d r) (g d r) (e d r) d.account

  last-further : (c : Came) → ToldFurther (last_told (p d r) d.series.every c)
  last-further c = none_further (last_off (p d r) d.series.every c)

  made_further : tried.number ≡ 0 → ToldFurther (made_told (p d r) d.series tried)
  made_further z =
      let came_is = step-came (p d r) (g d r) (e d r) d.account z in
      subst (λ (c : Came). ToldFurther (made_told (p d r) d.series c)) (sym came_is.1) (record { passes = λ on. held_passes d r came_is.0 })

  next_further : ToldFurther (next_told (p d r) (g d r) (e d r) d.account d.series)
  unfolding next_told
  next_further =
      by_test (steps_left d.series d.log.run.clock)
      (λ some.
      by_test (eqb tried.number 0)
      (λ z. subst ToldFurther (sym (pick_true _ _ some ∙ pick_true _ _ z)) (made_further (eqb-true _ _ z)))
      (λ z. subst ToldFurther (sym (pick_true _ _ some ∙ pick_false _ _ z)) (last-further tried)))
      (λ none. subst ToldFurther (sym (pick_false _ _ none)) (last-further (came 0 (e d r) d.account)))

  abbrev LeftFurther : Left → Type 0
  LeftFurther l = FurtherSteps l.desk l.rooms

  left-further : LeftFurther (step_left d r)
  unfolding step_left
  left-further =
      by_test d.series.on
      (λ on.
      by_test (eqb (ready_number d) 0)
      (λ z. subst LeftFurther (sym (pick_true _ _ on ∙ pick_true _ _ z)) next_further)
      (λ z. subst LeftFurther (sym (pick_true _ _ on ∙ pick_false _ _ z)) (none_further refl)))
      (λ off. subst LeftFurther (sym (pick_false _ _ off)) (none_further refl))

  -- a further step may follow whatever the next step left
  pub further-after : {a : Desk} {after : Stores} {old new : List ℕ} → Leaves (step_left d r) a after old new → FurtherSteps a after
  further-after {a} {after} w =
      subst (λ (x : Desk). FurtherSteps x after) (sym w.desk_is)
      (subst (λ (y : Stores). FurtherSteps (step_left d r).desk y) (sym w.rooms_are) left-further)
