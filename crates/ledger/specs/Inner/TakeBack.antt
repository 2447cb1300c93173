-- What the take-back's inner functions ask and give.
-- Assumes nothing.
use Rattle.std.specs.Prelude.{◌≡◌, true, List, ℕ, ◌≤◌, length}
use Rattle.reckon.specs.Ranges.{most_depth}
use Rattle.grid.specs.Squares.{squares}
use Rattle.grid.specs.Marks.{marks_fine}
use Rattle.ledger.specs.Runs.{Plan, World, run_fine}
use Rattle.ledger.specs.Inner.Worlds.{of_depths}
use Rattle.ledger.specs.Record.{room_slots, Recorded}
use Rattle.ledger.specs.Checks.{waters_fine, WaterLent}
use Rattle.ledger.specs.TakeBack.{held_and_gone, came_and_added, depth_before, back_number}

-- a world that refusals 1 to 10 leave to its newest record
pub record Kept (p : Plan) (w : World) : Type 0 where
  pub watered : WaterLent p w.depths w.lasts
  pub marks-fine : marks_fine p.shape p.marks ≡ true
  pub waters-fine : waters_fine p w.depths w.lasts ≡ true
  pub run-fine : run_fine (room_slots p w.records) w.run ≡ true
  pub some_kept : w.run.kept ≡ 0 → ⊥

-- the number of the first refusal before 11, 0 for none
pub record EarlyRefused (p : Plan) (w : World) (n : ℕ) : Type 0 where
  pub refused : (n ≡ 0 → ⊥) → n ≡ back_number p w
  pub passed : n ≡ 0 → Kept p w

-- a record and the depths that it leads to, one number a square
pub record RecordAndDepths (p : Plan) (rec depths : List ℕ) : Type 0 where
  pub recorded : Recorded p rec
  pub depths_long : length depths ≡ squares p.shape

-- a square whose depth before is in range
pub record Restores (p : Plan) (rec depths : List ℕ) (i : ℕ) : Type 0 where
  pub enough : came_and_added p (of_depths depths) rec i ≤ held_and_gone p (of_depths depths) rec i
  pub small : depth_before p (of_depths depths) rec i ≤ most_depth
