-- A trial at the desk, line by line: what each line changes, and when it is refused. `hatch` and `back` are the hatch log's.
-- Assumes nothing.
use Rattle.std.specs.Prelude.{◌≡◌, List, [], ◌∷◌, ℕ, zero, suc, ◌+◌, ◌-◌, ◌≤◌, eqb, leb, length, set}
use Rattle.reckon.specs.Tests.{pick, refusal, Row, ◌unless◌}
use Rattle.reckon.specs.Ranges.{most_litres}
use Rattle.reckon.specs.Tables.{inflow_kind, table_room}
use Rattle.trials.specs.Ring.{slots_in, slot_after, slot_ago}
use Rattle.grid.specs.Squares.{squares, ShapeInRange}
use Rattle.rule.specs.declared.rules.Rules.{Rules}
use Rattle.ledger.specs.Runs.{Plan, World}
use Rattle.ledger.specs.Record.{room_slots}
use Rattle.checks.specs.Given.{Given, given, ground}
use Rattle.adding.specs.Account.{tables_give}
use Rattle.flood.specs.Step.{step_number, stepped}
use Rattle.flood.specs.Run.{Ended}
use Rattle.hatches.specs.Log.{Evening, most_hatches, is_named, table_with, line_fine, draw_fine, standing_fine, kept_fine, hatch_named, rates_kept}
use Rattle.evenings.specs.Taking.{drawn, world_of, further, line_back, after_back}
use Rattle.hatches.specs.declared.lines.Entry.TheVariants.{Hatch, Back}
use Rattle.hatches.specs.declared.log.Log.{Log}
use Rattle.stands.specs.Laying.{most_given}
use Rattle.trying.specs.Given.{most_slots, account_with, account_back}
use Rattle.trying.specs.declared.given.Account.{Account}
use Rattle.trying.specs.declared.lines.Tried.{Tried}

-- what came of a line that only changes the log: the number that it is refused with, 0 for none, the log and the account
abbrev pub tried : ℕ → Log → Account → Tried
tried n log a = record { number = n; log = log; account = a }

-- the first row that fails refuses, with nothing changed
abbrev pub unless_refused : List Row → Log → Account → Log → Tried
unless_refused rows log a after = pick (eqb (refusal rows) 0) (tried 0 after a) (tried (refusal rows) log a)

-- ---- `hatch` number row column: "a hatch named, before the first step, as in #107"

abbrev pub name_refusals : Plan → Rules → List ℕ → Log → ℕ → ℕ → ℕ → List Row
name_refusals p r inflow log n row column =
    12 unless line_fine r log (Hatch n row column) ∷ 4 unless draw_fine p inflow log (Hatch n row column) ∷ []

unfoldable pub name_tried : Plan → Rules → List ℕ → Log → Account → ℕ → ℕ → ℕ → Tried
name_tried p r inflow log a n row column = unless_refused (name_refusals p r inflow log n row column) log a (hatch_named log n row column)

-- ---- `draw` number litres: "that hatch runs at this rate from now on"

-- at other rates; hatches may be named as long as before
abbrev pub log_at : Log → List ℕ → Log
log_at log litres = record { run = log.run; steps = log.steps; opening = log.opening; hatches = log.hatches; litres = litres }

-- 12 "hatch not named", 4 "litres out of range"
abbrev pub draw_refusals : Log → ℕ → ℕ → List Row
draw_refusals log n litres = 12 unless is_named log.hatches n ∷ 4 unless leb litres most_litres ∷ []

unfoldable pub draw_tried : Log → Account → ℕ → ℕ → Tried
draw_tried log a n litres = unless_refused (draw_refusals log n litres) log a (log_at log (set log.litres (n - 1) litres))

-- ---- a step, and steps taken back

-- a number, 0 for none, and the evening with its account after it
pub record Came : Type 0 where
  pub number : ℕ
  pub evening : Evening
  pub account : Account

abbrev pub came : ℕ → Evening → Account → Came
came n e a = record { number = n; evening = e; account = a }

-- 4 "over 64 inflow rows with the hatches", 6 of the log's and the account's own numbers: no evening from a sheet comes to either
unfoldable pub try_refusals : List ℕ → Log → Account → List Row
try_refusals inflow log a =
    4 unless leb (length (table_with inflow log.hatches log.litres)) (table_room inflow_kind)
    ∷ 6 unless standing_fine log
    ∷ 6 unless leb a.given most_given
    ∷ []

-- 6, and 10 "`back` beyond kept"
unfoldable pub back_refusals : Log → ℕ → List Row
back_refusals log count = 6 unless standing_fine log ∷ 10 unless kept_fine log (Back count) ∷ []

-- what had been given before the earliest of so many steps, from the newest slot back
unfoldable pub given_back : Account → ℕ → ℕ → ℕ → Account
given_back a slots newest zero = a
given_back a slots newest (suc n) = account_back a (slot_ago slots newest n)

module _ (p : Plan) (g : Given) (e : Evening) (a : Account) where
  -- a step at the rates that the hatches run at now
  abbrev pub step_given : Given
  step_given = drawn g e.log.hatches e.log.litres

  abbrev pub world_next : World
  world_next = stepped p step_given (world_of e)

  abbrev pub slots_held : ℕ
  slots_held = room_slots p e.records

  -- one step more stands; its rates, and what had been given before it, are kept beside its record
  abbrev pub evening_next : Evening
  evening_next =
      further p g e world_next (e.log.steps + 1) e.log.litres (rates_kept slots_held 1 e.log.run.newest e.log.litres e.began)

  abbrev pub account_next : Account
  account_next = account_with a (slot_after slots_held e.log.run.newest) (tables_give p step_given e.log.run.clock world_next.run.clock)

  -- a step that is refused changes nothing
  unfoldable pub step_came : Came
  step_came =
      pick (eqb (refusal (try_refusals g.inflow e.log a)) 0)
      (pick (eqb (step_number p step_given (world_of e)) 0) (came 0 evening_next account_next) (came (step_number p step_given (world_of e)) e a))
      (came (refusal (try_refusals g.inflow e.log a)) e a)

-- a take-back asks for no table and no ground
abbrev pub nothing_given : Given
nothing_given =
    given (ground (record { square_side = 0; tolerance = 0; shortest = 0; longest = 0; update = 0; edge = 0; edition = 0 }) [] [] []) [] []

module _ (p : Plan) (e : Evening) (a : Account) (count : ℕ) where
  -- the steps that are taken back
  abbrev pub backs : Ended
  backs = line_back p nothing_given e count

  -- "so many taken back, all or none; rates as when the earliest began"
  unfoldable pub back_came : Came
  back_came =
      pick (eqb (refusal (back_refusals e.log count)) 0)
      (came backs.number (after_back p nothing_given e count) (given_back a (room_slots p e.records) e.log.run.newest backs.steps))
      (came (refusal (back_refusals e.log count)) e a)

-- ---- what is asked, and what the public functions give

-- what is lent belongs together: a slot of rates and of the account for each record
pub record TrialLent (p : Plan) (records began : List ℕ) : Type 0 where
  pub fine : ShapeInRange p.shape
  pub marks_long : length p.marks ≡ squares p.shape
  pub slots_few : room_slots p records ≤ most_slots
  pub rates_suffice : room_slots p records ≤ slots_in most_hatches (length began)

abbrev pub Names : Plan → Rules → List ℕ → Log → Account → ℕ → ℕ → ℕ → Tried → Type 0
Names p r inflow log a n row column t = t ≡ name_tried p r inflow log a n row column

abbrev pub Draws : Log → Account → ℕ → ℕ → Tried → Type 0
Draws log a n litres t = t ≡ draw_tried log a n litres

abbrev pub MakesOne : Plan → Given → Evening → Account → ℕ → Evening → Account → Type 0
MakesOne p g e a n after account = came n after account ≡ step_came p g e a

abbrev pub GoesBack : Plan → Evening → Account → ℕ → ℕ → Evening → Account → Type 0
GoesBack p e a count n after account = came n after account ≡ back_came p e a count
