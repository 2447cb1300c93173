-- Document 02, #107, "The hatch log": what a line does.
-- Assumes nothing.
use Rattle.std.specs.Prelude.{◌≡◌, List, ℕ, zero, suc, ◌+◌, ◌-◌, eqb, set, Option, Some, None}
use Rattle.reckon.specs.Tests.{pick, refusal}
use Rattle.ledger.specs.Runs.{Plan, World, world}
use Rattle.ledger.specs.Record.{room_slots}
use Rattle.ledger.specs.TakeBack.{back_number, taken_back}
use Rattle.checks.specs.Given.{Given, given}
use Rattle.flood.specs.Run.{Ended, ended, go_on, run_to}
use Rattle.hatches.specs.Log.{Evening, evening, table_with, rates_kept, rates_back, entry_refusals, hatch_named, log_with, line_refusal}
use Rattle.hatches.specs.declared.lines.Entry.{Entry}
use Rattle.hatches.specs.declared.lines.Entry.TheVariants.{Hatch, Rate, Back}
use Rattle.hatches.specs.declared.log.Hatches.{Hatches}

-- what is given to a step of what the sheet gives: its table has the hatches' rows, too
abbrev pub drawn : Given → Hatches → List ℕ → Given
drawn g hs litres = given g.lie g.rain (table_with g.inflow hs litres)

-- the world of a step in an evening
abbrev pub world_of : Evening → World
world_of e = world e.depths e.lasts e.records e.log.run

-- "A hatch runs at its last written rate": written where the line's steps were all made
abbrev pub rates_with : List ℕ → ℕ → ℕ → ℕ → List ℕ
rates_with litres n rate refused = pick (eqb refused 0) (set litres (n - 1) rate) litres

-- "takes that many steps back", one after the other: a take-back that is refused gives its number and leaves the state before it, as a
-- step of a run does
unfoldable pub back_from : Plan → ℕ → ℕ → World → Ended
back_from p zero made w = ended 0 made w
back_from p (suc n) made w = go_on (back_number p w) made w (back_from p n (suc made) (taken_back p w))

module _ (p : Plan) (g : Given) (e : Evening) where
  -- a line's steps, at the rates before it
  abbrev pub line_run : ℕ → Ended
  line_run clock = run_to p (drawn g e.log.hatches e.log.litres) clock (world_of e)

  abbrev pub line_back : ℕ → Ended
  line_back count = back_from p count 0 (world_of e)

  -- the evening with another world, steps standing, rates and room of rates
  abbrev pub further : World → ℕ → List ℕ → List ℕ → Evening
  further w steps litres began = evening w.depths w.lasts w.records began (log_with e.log w.run steps litres)

  abbrev pub slots : ℕ
  slots = room_slots p e.records

  unfoldable pub after_hatch : ℕ → ℕ → ℕ → Evening
  after_hatch n row column = evening e.depths e.lasts e.records e.began (hatch_named e.log n row column)

  -- after a line's steps; where one of them is refused, those made stand
  unfoldable pub after_rate : ℕ → ℕ → ℕ → Evening
  after_rate clock n litres =
      further (line_run clock).world (e.log.steps + (line_run clock).steps) (rates_with e.log.litres n litres (line_run clock).number)
      (rates_kept slots (line_run clock).steps e.log.run.newest e.log.litres e.began)

  -- "takes that many steps back and the log goes on from there"
  unfoldable pub after_back : ℕ → Evening
  after_back count =
      further (line_back count).world (e.log.steps - (line_back count).steps) (rates_back slots e.began e.log (line_back count).steps) e.began

  unfoldable pub entered : Entry → Evening
  entered (Hatch n row column) = after_hatch n row column
  entered (Rate clock n litres) = after_rate clock n litres
  entered (Back count) = after_back count

  -- the number of a line's own steps, 0 for none
  unfoldable pub steps_number : Entry → ℕ
  steps_number (Rate clock n litres) = (line_run clock).number
  steps_number (Back count) = (line_back count).number
  steps_number (Hatch n row column) = 0

  -- the number that a line is refused with, 0 for none
  unfoldable pub entry_number : Entry → ℕ
  entry_number entry =
      pick (eqb (refusal (entry_refusals p g e entry)) 0) (steps_number entry) (refusal (entry_refusals p g e entry))

  -- a line that is refused before its steps changes nothing
  unfoldable pub after_entry : Entry → Evening
  after_entry entry = pick (eqb (refusal (entry_refusals p g e entry)) 0) (entered entry) e

-- the same of a line of the log: "a log line that can't be read" is 12, and changes nothing
abbrev pub read_number : Plan → Given → Evening → Option Entry → ℕ
read_number p g e (Some entry) = entry_number p g e entry
read_number p g e None = line_refusal p g e None

abbrev pub after_read : Plan → Given → Evening → Option Entry → Evening
after_read p g e (Some entry) = after_entry p g e entry
after_read p g e None = e

-- ---- what the public function gives

-- the number and the evening afterwards, of what a line says
pub record TakesEntry (p : Plan) (g : Given) (entry : Option Entry) (e : Evening) (number : ℕ) (after : Evening) : Type 0 where
  pub number_is : number ≡ read_number p g e entry
  pub evening_is : after ≡ after_read p g e entry
