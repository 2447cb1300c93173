-- The worked cases, by computation; those over three states by what is known of each.
-- Assumes nothing.
use mathlib.Core.Path.{◌≡◌, refl}
use mathlib.Core.Bool.{true, false}
use Rattle.reckon.specs.Tests.{pick, every, all_below, first_failing}
use Rattle.reckon.specs.Most.{most_over}
use Rattle.grid.specs.Marks.{closed}
use Rattle.ledger.specs.Runs.{Plan, World}
use Rattle.checks.specs.Given.{Given}
use Rattle.flood.specs.Run.{steps_on}
use Rattle.display.specs.Boards.{with_board, board_fine, boards_fine, depth_after, first_reached, shown}
use Rattle.display.specs.Worked.{ThreeStates, BoardCases, board}

module _ (g : Given) (p : Plan) (w : World) where
  later : ThreeStates p g w (board 5 4 20) →
      shown p g w (board 5 4 20) 2 ≡ record { row = 5; column = 4; mark = 20; highest = 31; reached = true; first = 2_600 }
  unfolding pick first_failing most_over first_reached shown
  later t = rw (t.depth_0, t.depth_1, t.depth_2) (rw t.clock_1 refl)

  at_last : ThreeStates p g w (board 5 4 31) →
      shown p g w (board 5 4 31) 2 ≡ record { row = 5; column = 4; mark = 31; highest = 31; reached = true; first = 2_600 }
  unfolding pick first_failing most_over first_reached shown
  at_last t = rw (t.depth_0, t.depth_1, t.depth_2) (rw t.clock_1 refl)

  never : ThreeStates p g w (board 5 4 32) →
      shown p g w (board 5 4 32) 2 ≡ record { row = 5; column = 4; mark = 32; highest = 31; reached = false; first = 0 }
  unfolding pick first_failing most_over first_reached shown
  never t = rw (t.depth_0, t.depth_1, t.depth_2) refl

pub board_cases : (g : Given) → BoardCases g
unfolding pick every all_below first_failing closed steps_on with_board board_fine boards_fine most_over depth_after first_reached shown
board_cases g =
    record {
      met = refl;
      unmet = refl;
      met_later = later g;
      met_at-last = at_last g;
      never_met = never g;
      on_grid = refl;
      off_rows = refl;
      off_columns = refl;
      on_closed = refl;
      mark_high = refl;
      none_listed = refl;
      sixteen-fine = refl;
      seventeen = refl;
      last-looked-at = refl;
      rest_not_looked-at = refl;
      one_more = refl;
      no_room = refl;
    }
