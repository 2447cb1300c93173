-- What the caller of `hours_of` has: for how long each square was wet, step by step, and what is printed of it.
-- Assumes nothing.
use Rattle.std.specs.Prelude.{◌≡◌, false, List, ℕ, suc, ◌+◌, ◌-◌, ◌≤◌, ◌<◌, get_or, take, drop}
use Rattle.grid.specs.Squares.{squares}
use Rattle.ledger.specs.Runs.{Plan, World}
use Rattle.ledger.specs.Flows.{shut}
use Rattle.checks.specs.Given.{Given}
use Rattle.flood.specs.Run.{Ended, steps_on}
use Rattle.sheet.specs.Sheet.{plan_in, given_in, start_in, said}
use Rattle.sheet.specs.declared.reading.Heading.{Heading}
use Rattle.sheet.specs.declared.reading.Sheet.TheVariants.{Read, Refused}
use Rattle.answer.specs.Printed.{refused_text, made_text}
use Rattle.programs.specs.Reading.{sheet_within}
use Rattle.programs.specs.Program.{most_text, program_rooms, sheet_run}
use Rattle.hours.specs.Hours.{wet_time, times_in, hours_text}

-- the time of square i grows by a step at whose end it is 1 cm deep or deeper, by as much as the clock goes on, and by no other
pub record TimeGrows (p : Plan) (g : Given) (w : World) (i : ℕ) : Type 0 where
  pub none_at-first : wet_time p g w 0 i ≡ 0
  pub by_a_wet_step :
      (k : ℕ) → 10_000 ≤ get_or (steps_on p g (suc k) w).depths i 0 →
      wet_time p g w (suc k) i ≡ wet_time p g w k i + ((steps_on p g (suc k) w).run.clock - (steps_on p g k w).run.clock)
  pub by_no_other : (k : ℕ) → get_or (steps_on p g (suc k) w).depths i 0 < 10_000 → wet_time p g w (suc k) i ≡ wet_time p g w k i

-- what is printed of a sheet that is read: of a run that is made `meadow`'s lines with times for depths
module _ (s : List ℕ) (h : Heading) where
  abbrev P : Plan
  P = plan_in h.shape h.rules (said s)

  abbrev G : Given
  G = given_in h.shape h.rules (said s)

  abbrev W : World
  W = start_in h.shape h.rules (said s)

  abbrev ran : Ended
  ran = sheet_run h (said s)

  pub record HoursSay : Type 0 where
    pub run-refused : (ran.number ≡ 0 → ⊥) → hours_text s ≡ refused_text ran.number 0
    pub run_made : ran.number ≡ 0 → hours_text s ≡ made_text P (times_in h (said s)) ran.world.run ran.steps
    pub time_is : (i : ℕ) → i < squares h.shape → shut P i ≡ false → get_or (times_in h (said s)) i 0 ≡ wet_time P G W ran.steps i
    pub grows : (i : ℕ) → TimeGrows P G W i

-- the text at the room's start, and the rest of the room
pub record AfterHours (s old new : List ℕ) (long : ℕ) : Type 0 where
  pub printed : take long new ≡ hours_text s
  pub rest_stays : drop long new ≡ drop long old
  pub not-read : (number line : ℕ) → sheet_within most_text s program_rooms ≡ Refused number line → hours_text s ≡ refused_text number line
  pub says : (h : Heading) → sheet_within most_text s program_rooms ≡ Read h → HoursSay s h
