-- Document 01, "The record" and "Numbers given back on refusal": the take-back.
-- Assumes nothing.
use Rattle.std.specs.Prelude.{◌≡◌, Bool, ◌||◌, not, List, [], ◌∷◌, ◌++◌, ℕ, ◌+◌, ◌-◌, eqb, leb, get_or}
use Rattle.reckon.specs.Tests.{pick, every, all_below, Row, ◌unless◌, refusal}
use Rattle.reckon.specs.Lists.{filled}
use Rattle.reckon.specs.Ranges.{most_depth}
use Rattle.trials.specs.Ring.{slot_before}
use Rattle.grid.specs.Squares.{squares, shape_fine}
use Rattle.grid.specs.Marks.{marks_fine}
use Rattle.ledger.specs.Runs.{Plan, World, Seen, seen_of, run_values_fine, answered}
use Rattle.ledger.specs.Flows.{shut, gone, came, off_grid, soaked_grid}
use Rattle.ledger.specs.Record.{held_in, lasted_in, leaves_in, last_in, added_in, soaked_in, room_slots, ring_of, newest_record}
use Rattle.ledger.specs.Checks.{one_each, waters_fine, times_fine}
use Rattle.ledger.specs.declared.runs.Run.{Run}
use Rattle.ledger.specs.declared.runs.Answer.{Answer}

-- "kept falls by one, newest moves back one slot": the run before the step of a record that sent one amount off the grid and soaked
-- another
abbrev pub run_before : ℕ → Run → List ℕ → ℕ → ℕ → Run
run_before slots u rec off soaked =
    record {
      clock = u.clock - lasted_in rec;
      length = held_in rec;
      outflow = u.outflow - off;
      kept = u.kept - 1;
      newest = slot_before slots u.newest;
      soaked = u.soaked - soaked;
    }

module _ (p : Plan) (w : World) (rec : List ℕ) where
  -- "Depth before = depth + four leaving − what neighbours sent − amount added", and "Take-back returns" what soaked (document 02,
  -- #106): what is put together, and what is taken off it
  unfoldable pub held_and_gone : ℕ → ℕ
  held_and_gone i = get_or w.depths i 0 + (gone (leaves_in rec) i + soaked_in rec i)

  unfoldable pub came_and_added : ℕ → ℕ
  came_and_added i = came p (leaves_in rec) i + added_in rec i

  unfoldable pub depth_before : ℕ → ℕ
  depth_before i = held_and_gone i - came_and_added i

  -- 11: "P or depth restored out of range"
  unfoldable pub square_restorable : ℕ → Bool
  square_restorable i =
      shut p i || every (leb (last_in rec i) most_depth ∷ leb (came_and_added i) (held_and_gone i) ∷ leb (depth_before i) most_depth ∷ [])

  -- 11: ".. also lasted > clock, P or depth restored out of range, more outflow than the total", "a record that would take back more
  -- than the total" soaked (document 02, #106)
  unfoldable pub restorable : Bool
  restorable =
      every
      (times_fine rec
      ∷ leb (lasted_in rec) w.run.clock
      ∷ all_below (squares p.shape) square_restorable
      ∷ leb (off_grid p (leaves_in rec)) w.run.outflow
      ∷ leb (soaked_grid p (soaked_in rec)) w.run.soaked
      ∷ [])

  -- "P, length, clock and outflow go back likewise; .. the record room is not written"
  unfoldable pub world_before : World
  world_before =
      record {
        depths = filled (squares p.shape) (shut p) depth_before w.depths;
        lasts = filled (squares p.shape) (shut p) (last_in rec) w.lasts;
        records = w.records;
        run = run_before (room_slots p w.records) w.run rec (off_grid p (leaves_in rec)) (soaked_grid p (soaked_in rec));
      }

module _ (p : Plan) where
  -- "A take-back is lent rows, columns, marks, depths, P, run and records": the table's rows for it before 10, in their order; `ring`
  -- says whether K, kept and newest are in range
  unfoldable pub early_refusals : Bool → Seen → List Row
  early_refusals ring v =
      1 unless every (shape_fine p.shape ∷ one_each p p.marks ∷ one_each p v.depths ∷ one_each p v.lasts ∷ [])
      ∷ 2 unless marks_fine p.shape p.marks
      ∷ 3 unless waters_fine p v.depths v.lasts
      ∷ 6 unless run_values_fine ring v.clock v.length v.outflow v.soaked
      ∷ []

module _ (p : Plan) (w : World) where
  -- all of its rows: "kept = 0 (take-back, arrows)", and 11 by the newest record
  unfoldable pub back_refusals : List Row
  back_refusals =
      early_refusals p (ring_of p w) (seen_of w)
      ++ (10 unless not (eqb w.run.kept 0) ∷ 11 unless restorable p w (newest_record p w) ∷ [])

  unfoldable pub back_number : ℕ
  back_number = refusal back_refusals

  -- ".. with the run as it was and every lent slice as it was", or the world before the step
  unfoldable pub taken_back : World
  taken_back = pick (eqb back_number 0) (world_before p w (newest_record p w)) w

-- ---- what the public function gives

-- the answer, the depths and the last leaving afterwards
pub record TakesBack (p : Plan) (w : World) (a : Answer) (depths lasts : List ℕ) : Type 0 where
  pub answer : a ≡ answered (back_number p w) (taken_back p w).run
  pub depths_are : depths ≡ (taken_back p w).depths
  pub lasts_are : lasts ≡ (taken_back p w).lasts
