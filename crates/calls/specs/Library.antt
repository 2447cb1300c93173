-- What a caller has after each public call, whatever the call answered: the letter's demands of that one call, over what was lent and what came
-- back. The functions of src/library.rt make each call and promise it, so that a call whose contract says less is refused there.
-- Assumes nothing.
use Rattle.std.specs.Prelude.{◌≡◌, true, false, List, ◌++◌, ℕ, ◌%◌, ◌≤◌, ◌<◌, length, get_or, take, drop}
use Rattle.reckon.specs.Tests.{refusal}
use Rattle.grid.specs.Squares.{squares, square_at}
use Rattle.rule.specs.Bounds.{most_steps, least_steps}
use Rattle.rule.specs.declared.rules.Rules.{Rules}
use Rattle.ledger.specs.Runs.{Plan, World, world, seen_of}
use Rattle.ledger.specs.Flows.{shut}
use Rattle.ledger.specs.Record.{ring_of, room_slots}
use Rattle.ledger.specs.After.{late_refusals}
use Rattle.ledger.specs.TakeBack.{back_refusals}
use Rattle.ledger.specs.Walls.{Untouched}
use Rattle.ledger.specs.declared.runs.Run.{Run}
use Rattle.ledger.specs.declared.runs.Answer.{Answer}
use Rattle.ledger.specs.declared.runs.Answer.TheVariants.{Done}
use Rattle.checks.specs.Given.{Given}
use Rattle.moves.specs.Moves.{step_moves}
use Rattle.checks.specs.Refusals.{step_checks, run_checks}
use Rattle.checks.specs.Bounds.{bounds_refusals, bounds_number}
use Rattle.checks.specs.Fresh.{fresh_refusals, fresh_run}
use Rattle.flood.specs.Run.{ended, run_to}
use Rattle.flood.specs.declared.run.Ran.{Ran}
use Rattle.checks.specs.declared.bounds.StepBounds.{StepBounds}
use Rattle.checks.specs.declared.bounds.Bounds.{Bounds}
use Rattle.checks.specs.declared.bounds.Bounds.TheVariants.{Bounded}
use Rattle.sight.specs.AllArrows.{Sights, kind_of, arrow_in, all_refusals}
use Rattle.sight.specs.Arrows.{arrow_refusals, seen_at}
use Rattle.sight.specs.Speeds.{zero64}
use Rattle.sight.specs.WetRows.{wet_refusals}
use Rattle.sight.specs.declared.arrows.Sight.{Sight}
use Rattle.sight.specs.declared.wet_rows.Wet.{Wet}
use Rattle.sight.specs.declared.wet_rows.Wet.TheVariants.{Count}
use Rattle.sheet.specs.Sheet.{Rooms}
use Rattle.sheet.specs.declared.reading.Heading.{Heading}
use Rattle.sheet.specs.declared.reading.Sheet.{Sheet}
use Rattle.sheet.specs.declared.reading.Sheet.TheVariants.{Read}
use Rattle.programs.specs.Program.{meadow_text}
use Rattle.exports.specs.Bounds.{bounds_told}
use Rattle.exports.specs.Steps.{answer_number}
use Rattle.exports.specs.Sights.{sight_number, wet_number_of}
use Rattle.exports.specs.Sheets.{sheet_number, sheet_line}
use Rattle.demands.specs.Table.{FirstFails, TableSays}
use Rattle.demands.specs.Demand1.{StopsBefore}
use Rattle.demands.specs.Demand2.{StepGives}
use Rattle.demands.specs.Demand3.{stepping, running, taking_back, Fresh}
use Rattle.demands.specs.Loader.{SheetSays, MeadowSays, ClosedLeft}
use Rattle.demands.specs.Fields.{SheetFields}
use Rattle.demands.specs.Played.{Played}
use Rattle.demands.specs.WetAre.{WetAre}

-- ---- a step, by either walk: v is the world that it left

pub record AfterStep (p : Plan) (g : Given) (w : World) (a : Answer) (v : World) : Type 0 where
  -- "A refusal gives one number from the table in document 01, exactly when that table says"
  pub exactly_when : TableSays (step_checks p g (ring_of p w) (seen_of w) ++ late_refusals p (step_moves p g (seen_of w)) w) (answer_number a)
  -- "and the run and everything lent stay as they were"
  pub as_it_was : (answer_number a ≡ 0 → ⊥) → v ≡ w
  -- "Each step gives exactly the depths, transfers, outflow and step length that the .. rule gives"
  pub made : answer_number a ≡ 0 → a ≡ Done v.run
  pub gives : answer_number a ≡ 0 → StepGives p g w v
  -- "What a closed square holds is not altered"
  pub none_altered : Untouched p w v
  -- a call of a series, of which demand 3 and the water account speak
  pub plays : Played p (stepping g) w v

-- ---- a run to an end, by either walk

pub record AfterRun (p : Plan) (g : Given) (end : ℕ) (w : World) (a : Ran) (v : World) : Type 0 where
  -- refused by its checks: the first row that applies, with no step made
  pub exactly_when : (n : ℕ) → FirstFails (run_checks p g end w) n → (a.refused ≡ n) × ((a.steps ≡ 0) × (v ≡ w))
  -- "A run to a stated clock stops before the step refused"
  pub stops : refusal (run_checks p g end w) ≡ 0 → StopsBefore p g end w (ended a.refused a.steps v)
  pub none_altered : Untouched p w v
  pub plays : Played p (running g end) w v

-- ---- a take-back

pub record AfterBack (p : Plan) (w : World) (a : Answer) (v : World) : Type 0 where
  pub exactly_when : TableSays (back_refusals p w) (answer_number a)
  pub as_it_was : (answer_number a ≡ 0 → ⊥) → v ≡ w
  pub made : answer_number a ≡ 0 → a ≡ Done v.run
  pub none_altered : Untouched p w v
  pub plays : Played p taking_back w v

-- ---- a fresh run

pub record AfterFresh (p : Plan) (r : Rules) (before records : List ℕ) (a : Answer) (lasts : List ℕ) : Type 0 where
  pub exactly_when : TableSays (fresh_refusals p r before records) (answer_number a)
  pub as_it_was : (answer_number a ≡ 0 → ⊥) → lasts ≡ before
  -- "clock 0, length = the longest of the rules it starts with, outflow 0, kept 0, newest K − 1"
  pub made : answer_number a ≡ 0 → a ≡ Done (fresh_run r (room_slots p records))
  -- "P 0 on squares not closed"
  pub none_left : answer_number a ≡ 0 → (i : ℕ) → i < squares p.shape → shut p i ≡ false → get_or lasts i 0 ≡ 0
  pub none_altered : (i : ℕ) → shut p i ≡ true → get_or lasts i 0 ≡ get_or before i 0
  -- so that demand 3 speaks of every series that begins with it
  pub begins : (depths : List ℕ) (u : Run) → a ≡ Done u → Fresh p (world depths lasts records u)

-- ---- the figures before a run

pub record AfterBounds (r : Rules) (clock end : ℕ) (a : Bounds) : Type 0 where
  pub exactly_when : bounds_told a < 100 → TableSays (bounds_refusals r clock end) (bounds_told a)
  -- "For a run from a clock that is a multiple of U to an end E not before it"
  pub told : bounds_number r clock end ≡ 0 → clock % r.update ≡ 0 → clock ≤ end →
      a ≡ Bounded (record { most = most_steps r clock end; least = least_steps r clock end })
  -- "the steps counted are at most .. and at least": of every run by these rules from that clock
  pub counted : (b : StepBounds) → a ≡ Bounded b → (p : Plan) (g : Given) (w : World) → g.lie.rules ≡ r → w.run.clock ≡ clock →
      ((run_to p g end w).steps ≤ b.most) × ((run_to p g end w).number ≡ 0 → b.least ≤ (run_to p g end w).steps)

-- ---- flow arrows and wet rows

pub record AfterArrow (p : Plan) (D : ℕ) (w : World) (row column : ℕ) (a : Sight) : Type 0 where
  pub exactly_when : sight_number a < 100 → TableSays (arrow_refusals p D w row column) (sight_number a)
  pub seen : a ≡ seen_at p D w row column

-- all squares at once: n is the number that came back
pub record AfterAllArrows (p : Plan) (D : ℕ) (w : World) (old : Sights) (n : ℕ) (new : Sights) : Type 0 where
  pub exactly_when : TableSays (all_refusals p D w old) n
  pub as_it_was : (n ≡ 0 → ⊥) → new ≡ old
  -- "each square's answer that of `arrow`": its kind and both speeds, by row and column
  pub seen : n ≡ 0 → (row column : ℕ) → row < p.shape.rows → column < p.shape.columns →
      let i = square_at p.shape row column in
      (get_or new.kinds i 0 ≡ kind_of (seen_at p D w row column))
      × ((get_or new.east i zero64 ≡ (arrow_in (seen_at p D w row column)).east) × (get_or new.north i zero64 ≡ (arrow_in (seen_at p D w row column)).north))

pub record AfterWet (p : Plan) (depths : List ℕ) (least : ℕ) (old : List ℕ) (a : Wet) (rows : List ℕ) : Type 0 where
  pub exactly_when : TableSays (wet_refusals p depths least (length old)) (wet_number_of a)
  pub as_it_was : (wet_number_of a ≡ 0 → ⊥) → rows ≡ old
  pub wet : wet_number_of a ≡ 0 → (count : ℕ) × ((a ≡ Count count) × WetAre p depths least rows count)

-- ---- a sheet, and `meadow`

pub record AfterRead (s : List ℕ) (before : Rooms) (a : Sheet) (after : Rooms) : Type 0 where
  pub exactly_when : SheetSays s before (sheet_number a) (sheet_line a)
  pub as_it_was : (sheet_number a ≡ 0 → ⊥) → after ≡ before
  -- each field of its lines is the number that was stored for it
  pub fields : (h : Heading) → a ≡ Read h → SheetFields s h after
  pub none_altered : (h : Heading) → a ≡ Read h → ClosedLeft before.cells after.cells

-- the text at the room's start, and the rest of the room
pub record AfterMeadow (s old new : List ℕ) (long : ℕ) : Type 0 where
  pub printed : take long new ≡ meadow_text s
  pub rest_stays : drop long new ≡ drop long old
  pub says : MeadowSays s
