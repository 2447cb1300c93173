-- `display_exports::boards::flood_run_to_boards` meets its contract: boards taken up by value, shown the run and put back are those of the list.
-- Assumes nothing.
use Rattle.display_exports.proofs.HeldLaws.{exported_back}
use Rattle.display_exports.proofs.boards.flood_run_to_boards.Goals as goal

pub returns : goal.returns
returns c =
    exported_back _ _ _ _ _ _ _ _ c.held_of-held.ensures c.run_told-told.ensures c.boards_of-after.ensures c.put_back.ensures
    c.number_of.ensures
