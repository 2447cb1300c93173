-- `exports::sheets::flood_meadow` meets its contract: what is printed fits the room, and is copied from its start.
-- Assumes nothing.
use Rattle.exports.proofs.SheetLaws.{meadow_unsized, meadow-told}
use Rattle.exports.proofs.sheets.flood_meadow.Goals as goal

pub returns-then-out-lt-OUT_ROOM : goal.returns-then-out-lt-OUT_ROOM
returns-then-out-lt-OUT_ROOM c = meadow_unsized _ _ c.if-out-lt-OUT_ROOM.true

pub returns : goal.returns
returns c = meadow-told _ _ c.if-out-lt-OUT_ROOM.false c.meadow_of-bytes.ensures c.put_word.ensures
