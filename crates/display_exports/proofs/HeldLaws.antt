-- What the exported run with boards gives follows from the run with boards by value.
-- Assumes nothing.
use mathlib.Core.Path.{◌≡◌, refl, sym, ap, ◌∙◌, subst, subst₂, subst₃}
use mathlib.Core.Bool.{Bool, true, false}
use mathlib.Core.List.{List, [], ◌∷◌}
use Prim.Native.Nat.{ℕ, ◌≤◌, ◌<◌}
use native.Mathlib.Omega.{arith}
use lib.Dec.{eqb}
use lib.ListN.{length}
use borrow.Author.Tests.{le-leb, lt-leb}
use Rattle.reckon.specs.Tests.{pick}
use Rattle.reckon.proofs.TestLaws.{pick_true, pick_false}
use Rattle.ledger.specs.Runs.{Plan, World}
use Rattle.checks.specs.Given.{Given}
use Rattle.flood.specs.Run.{Ended}
use Rattle.exports.specs.Numbers.{run_numbers}
use Rattle.exports.specs.Refusals.{last_check, number_if}
use Rattle.exports.proofs.AnswerLaws.{sized_number, unsized_number}
use Rattle.display.specs.Boards.{listed}
use Rattle.display.specs.Watch.{WatchesHeld, watched_to, boards_after}
use Rattle.display.specs.Inner.Lent.{held_of, back_in}
use Rattle.display.specs.declared.boards.Board.{Board}
use Rattle.display.specs.declared.boards.Boards.{Boards}
use Rattle.display.specs.declared.boards.Shown.{Shown}
use Rattle.display.proofs.LentLaws.{back_same, same_list, held_ends, by_value}
use Rattle.display_exports.specs.Boards.{before_steps, boards_sized, ExportsBoards}
use Rattle.display_exports.specs.Inner.Held.{TellsHeld}
use Rattle.display_exports.specs.declared.boards.Boarded.{Boarded}

-- ---- refusals before any step

module _ {n : ℕ} where
  pub none_before : n ≡ 0 → false ≡ before_steps n
  unfolding before_steps
  none_before e = ap before_steps (sym e)

  pub checks_before : (n ≡ 0 → ⊥) → n ≤ last_check → true ≡ before_steps n
  unfolding before_steps
  checks_before d h = sym (rw (le-leb 1 n (omega (arith, d)), le-leb n last_check h))

  pub boards_before : last_check < n → eqb n 13 ≡ before_steps n
  unfolding before_steps
  boards_before h = sym (rw (le-leb 1 n (omega (arith, h)), lt-leb n last_check h))

-- ---- with boards by value

module _ (p : Plan) (g : Given) (end : ℕ) (w : World) (before : Boards) (rules old old_steps : List ℕ) where
  abbrev pub held_sized : Bool
  held_sized = boards_sized p g end w before.count (listed before) rules old old_steps

  pub held_unsized :
      held_sized ≡ false →
      TellsHeld p g end w before rules old old_steps (record { number = 1; boards = before }) w.depths w.lasts w.records old old_steps
  held_unsized unfit =
      record {
        tells =
            record {
              number_is = sym (unsized_number _ unfit);
              depths_are = sym (pick_false _ _ unfit);
              lasts_are = sym (pick_false _ _ unfit);
              records_are = sym (pick_false _ _ unfit);
              run_is = sym (pick_false _ _ unfit);
              steps_are = sym (pick_false _ _ unfit);
              boards_are = sym (pick_false _ _ unfit);
            };
        count_is = refl;
        rest_stays = refl;
      }

  module _ {q : Plan} {h : Given} {v : World} {a : Shown} {number : ℕ} {depths lasts records run steps : List ℕ} where
    pub held-told :
        held_sized ≡ true → q ≡ p → h ≡ g → v ≡ w → WatchesHeld q h end v before a depths lasts records →
        (number ≡ a.ran.refused) × (run ≡ run_numbers a.ran.run) × (steps ≡ pick (before_steps a.ran.refused) old_steps (a.ran.steps ∷ [])) →
        TellsHeld p g end w before rules old old_steps (record { number = number; boards = a.boards }) depths lasts records run steps
    held-told fits same-plan same_given same-world made t =
        let f =
        subst₃ (λ (x : Plan) (y : Given) (z : World). WatchesHeld x y end z before a depths lasts records) same-plan same_given same-world made in
        let e = f.watches.ends in
        record {
          tells =
              record {
                number_is = t.0 ∙ (ap (λ (z : Ended). z.number) e ∙ sym (sized_number fits));
                depths_are = ap (λ (z : Ended). z.world.depths) e ∙ sym (pick_true _ _ fits);
                lasts_are = ap (λ (z : Ended). z.world.lasts) e ∙ sym (pick_true _ _ fits);
                records_are = ap (λ (z : Ended). z.world.records) e ∙ sym (pick_true _ _ fits);
                run_is = t.1 ∙ (ap (λ (z : Ended). run_numbers z.world.run) e ∙ sym (pick_true _ _ fits));
                steps_are = t.2 ∙ (ap (λ (z : Ended). pick (before_steps z.number) old_steps (z.steps ∷ [])) e ∙ sym (pick_true _ _ fits));
                boards_are = f.watches.boards_are ∙ sym (pick_true _ _ fits);
              };
          count_is = f.count_is;
          rest_stays = f.rest_stays;
        }

-- ---- with the list

module _ (p : Plan) (g : Given) (end : ℕ) (w : World) (boards : List Board) (rules old old_steps : List ℕ) where
  abbrev given : Boards
  given = held_of boards

  abbrev fits : Bool
  fits = boards_sized p g end w (length boards) boards rules old old_steps

  -- the run that a call of the right sizes was
  abbrev came : Boarded → Shown
  came a =
      let e = watched_to p g end w given.count (listed given) in
      record { ran = record { refused = e.number; steps = e.steps; run = e.world.run }; boards = a.boards }

  module _ {a : Boarded} {depths lasts records run steps : List ℕ}
      (f : TellsHeld p g end w given rules old old_steps a depths lasts records run steps) where
    boards_back : (t : Bool) → fits ≡ t → back_in a.boards boards ≡ pick fits (boards_after p g end w (length boards) boards) boards
    boards_back true sized =
        (by_value p g end w boards {a = came a}
        (record {
          watches = record { ends = refl; boards_are = f.tells.boards_are ∙ pick_true _ _ sized };
          count_is = f.count_is;
          rest_stays = f.rest_stays;
        })
        ).boards_are
        ∙ sym (pick_true _ _ sized)
    boards_back false unsized =
        back_same a.boards boards (same_list boards a.boards f.count_is (f.tells.boards_are ∙ pick_false _ _ unsized) f.rest_stays)
        ∙ sym (pick_false _ _ unsized)

    told : ExportsBoards p g end w (length boards) boards rules old old_steps a.number depths lasts records run steps (back_in a.boards boards)
    told =
        let e = held_ends p g end w boards in
        record {
          number_is = f.tells.number_is ∙ ap (λ (z : Ended). number_if fits z.number) e;
          depths_are = f.tells.depths_are ∙ ap (λ (z : Ended). pick fits z.world.depths w.depths) e;
          lasts_are = f.tells.lasts_are ∙ ap (λ (z : Ended). pick fits z.world.lasts w.lasts) e;
          records_are = f.tells.records_are ∙ ap (λ (z : Ended). pick fits z.world.records w.records) e;
          run_is = f.tells.run_is ∙ ap (λ (z : Ended). pick fits (run_numbers z.world.run) old) e;
          steps_are = f.tells.steps_are ∙ ap (λ (z : Ended). pick fits (pick (before_steps z.number) old_steps (z.steps ∷ [])) old_steps) e;
          boards_are = boards_back fits refl;
        }

  pub exported_back :
      {held : Boards} {a : Boarded} {back : Boards} {number : ℕ} {depths lasts records run steps : List ℕ} {after : List Board} →
      held ≡ held_of boards → TellsHeld p g end w held rules old old_steps a depths lasts records run steps → back ≡ a.boards →
      after ≡ back_in back boards → number ≡ a.number →
      ExportsBoards p g end w (length boards) boards rules old old_steps number depths lasts records run steps after
  exported_back {held} {a} {back} {number} {depths} {lasts} {records} {run} {steps} {after} e f b t s =
      let whole = told (subst (λ (h : Boards). TellsHeld p g end w h rules old old_steps a depths lasts records run steps) e f) in
      let put : back_in a.boards boards ≡ after = sym (t ∙ ap (λ (h : Boards). back_in h boards) b) in
      subst₂
      (λ (n : ℕ) (l : List Board). ExportsBoards p g end w (length boards) boards rules old old_steps n depths lasts records run steps l)
      (sym s) put whole
