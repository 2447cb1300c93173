-- Document 01, "The step" and "The record": the world after a step whose amounts, added water, duration and length are known, and the
-- refusals that only then can be told.
-- Assumes nothing.
use Rattle.std.specs.Prelude.{Bool, ◌||◌, List, [], ◌∷◌, ℕ, ◌+◌, ◌-◌, leb, get_or}
use Rattle.reckon.specs.Tests.{all_below, Row, ◌unless◌}
use Rattle.reckon.specs.Lists.{filled}
use Rattle.reckon.specs.Ranges.{most_depth, last_clock, most_outflow, most_soaked}
use Rattle.trials.specs.Ring.{slot_after, kept_after}
use Rattle.trials.specs.Room.{stored_in}
use Rattle.grid.specs.Squares.{squares}
use Rattle.ledger.specs.Runs.{Plan, World}
use Rattle.ledger.specs.Flows.{Leaves, shut, gone, came, off_grid, soaked_grid}
use Rattle.ledger.specs.Record.{record_size, room_slots, record_of}

-- What a step moves: the amounts through the sides, what is added to each square and what soaks there, how long it lasts (ms), the
-- length it leaves held.
pub record Moves : Type 0 where
  pub leaves : Leaves
  pub added : ℕ → ℕ
  pub soaked : ℕ → ℕ
  pub duration : ℕ
  pub length : ℕ

module _ (p : Plan) (m : Moves) (w : World) where
  -- "old − four leaving", and what soaks "after the four sides have taken theirs, before anything arrives" (document 02, #106)
  unfoldable pub remains : ℕ → ℕ
  remains i = get_or w.depths i 0 - gone m.leaves i - m.soaked i

  -- "New depth = old − four leaving + what neighbours send + what is added"
  unfoldable pub new_depth : ℕ → ℕ
  new_depth i = remains i + came p m.leaves i + m.added i

  -- 8: "a new depth above 100,000,000"
  unfoldable pub depths_fit : Bool
  depths_fit = all_below (squares p.shape) (λ i. shut p i || leb (new_depth i) most_depth)

  -- "Water leaving the grid joins the outflow total"
  unfoldable pub new_outflow : ℕ
  new_outflow = w.run.outflow + off_grid p m.leaves

  -- "the run a total soaked" (document 02, #106)
  unfoldable pub new_soaked : ℕ
  new_soaked = w.run.soaked + soaked_grid p m.soaked

  -- refusals 7, 8 and 9, in the table's order; "the total soaked passing its limit is 15, after 9" (document 02, #106)
  unfoldable pub late_refusals : List Row
  late_refusals =
      7 unless leb (w.run.clock + m.duration) last_clock
      ∷ 8 unless depths_fit
      ∷ 9 unless leb new_outflow most_outflow
      ∷ 15 unless leb new_soaked most_soaked
      ∷ []

  -- "length held before the step, how long the step lasted, then for each square .."
  unfoldable pub step_record : List ℕ
  step_record = record_of p w.run.length m.duration m.leaves (λ i. get_or w.lasts i 0) m.added m.soaked

  -- "P is then the sum of the four"; "A step writes the slot after the newest .. and kept rises by one up to K": with a record as written
  abbrev pub world_with : List ℕ → World
  world_with rec =
      record {
        depths = filled (squares p.shape) (shut p) new_depth w.depths;
        lasts = filled (squares p.shape) (shut p) (gone m.leaves) w.lasts;
        records = stored_in (record_size p) w.records (slot_after (room_slots p w.records) w.run.newest) rec;
        run =
            record {
              clock = w.run.clock + m.duration;
              length = m.length;
              outflow = new_outflow;
              kept = kept_after (room_slots p w.records) w.run.kept;
              newest = slot_after (room_slots p w.records) w.run.newest;
              soaked = new_soaked;
            };
      }

  -- the world after the step: with the step's own record
  unfoldable pub world_after : World
  world_after = world_with step_record
