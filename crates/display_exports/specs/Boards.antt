-- What the exported run to an end with boards gives (document 02, #101).
-- Assumes nothing.
use Rattle.std.specs.Prelude.{◌≡◌, Bool, ◌&&◌, ◌||◌, List, [], ◌∷◌, ℕ, eqb, leb}
use Rattle.reckon.specs.Tests.{pick}
use Rattle.ledger.specs.Runs.{Plan, World}
use Rattle.checks.specs.Given.{Given}
use Rattle.flood.specs.Run.{Ended}
use Rattle.exports.specs.Numbers.{run_numbers}
use Rattle.exports.specs.Refusals.{last_check, number_if}
use Rattle.exports.specs.Steps.{ran_sized}
use Rattle.display.specs.Watch.{boards_after, watched_to}
use Rattle.display.specs.declared.boards.Board.{Board}

-- "is 13, after 6 and before any step": a number that leaves everything lent as it was
unfoldable pub before_steps : ℕ → Bool
before_steps number = (leb 1 number && leb number last_check) || eqb number 13

-- as the exported run to an end, with boards; n is how many there are
module _ (p : Plan) (g : Given) (end : ℕ) (w : World) (n : ℕ) (boards : List Board) (rules old old_steps : List ℕ) where
  abbrev pub boards_sized : Bool
  boards_sized = ran_sized p g end w rules old old_steps

  abbrev pub watched_end : Ended
  watched_end = watched_to p g end w n boards

  pub record ExportsBoards (number : ℕ) (depths lasts records run steps : List ℕ) (after : List Board) : Type 0 where
    pub number_is : number ≡ number_if boards_sized watched_end.number
    pub depths_are : depths ≡ pick boards_sized watched_end.world.depths w.depths
    pub lasts_are : lasts ≡ pick boards_sized watched_end.world.lasts w.lasts
    pub records_are : records ≡ pick boards_sized watched_end.world.records w.records
    pub run_is : run ≡ pick boards_sized (run_numbers watched_end.world.run) old
    pub steps_are : steps ≡ pick boards_sized (pick (before_steps watched_end.number) old_steps (watched_end.steps ∷ [])) old_steps
    pub boards_are : after ≡ pick boards_sized (boards_after p g end w n boards) boards
