-- What each line of the desk does over the sheet's own part of the rooms, and its answer.
-- Assumes nothing.
use Rattle.std.specs.Prelude.{Bool, true, List, [], ◌∷◌, ◌++◌, ℕ, ◌-◌, ◌≤◌, eqb, leb, ltb, length}
use Rattle.reckon.specs.Tests.{pick, every, refusal, Row, ◌unless◌}
use Rattle.reckon.specs.Ranges.{last_clock}
use Rattle.grid.specs.Squares.{squares}
use Rattle.rule.specs.declared.rules.Rules.{Rules}
use Rattle.ledger.specs.Runs.{Plan}
use Rattle.ledger.specs.Account.{water}
use Rattle.checks.specs.Given.{Given}
use Rattle.checks.specs.Bounds.{bounds_of, bounds_number}
use Rattle.sight.specs.Arrows.{view, arrow_number}
use Rattle.sight.specs.AllArrows.{seen_square, laid_out}
use Rattle.text.specs.Writing.{Wrote}
use Rattle.answer.specs.Printed.{refused_text}
use Rattle.hatches.specs.Log.{Evening, evening}
use Rattle.hatches.specs.declared.lines.Entry.{Entry}
use Rattle.hatches.specs.declared.lines.Entry.TheVariants.{Hatch, Rate, Back}
use Rattle.hatches.specs.declared.log.Log.{Log}
use Rattle.frames.specs.Frame.{frame_text}
use Rattle.frames.specs.Arrows.{arrows_text}
use Rattle.frames.specs.Bounds.{bounds_text}
use Rattle.frames.specs.declared.frame.Figures.{Figures}
use Rattle.stands.specs.Texts.{stand_text}
use Rattle.stands.specs.Laying.{Water, stand_of, water_after}
use Rattle.stands.specs.declared.saved.Saved.{Saved}
use Rattle.trying.specs.Given.{account_opened}
use Rattle.trying.specs.Lines.{Came, came, name_tried, draw_tried, step_came, back_came}
use Rattle.trying.specs.declared.given.Account.{Account}
use Rattle.trying.specs.declared.lines.Tried.{Tried}
use Rattle.desks.specs.State.{desk_text, desk_out, kept_slots, no_series}
use Rattle.desks.specs.declared.orders.Order.{Order}
use Rattle.desks.specs.declared.orders.Order.TheVariants.{Sheet, Entered, Draw, Step, Show, Arrows, Most, Stand, Lay, NoOrder}
use Rattle.desks.specs.declared.state.Series.{Series}

-- ---- texts

abbrev pub done_text : List ℕ
done_text = 100 ∷ 111 ∷ 110 ∷ 101 ∷ 10 ∷ []

-- "Every answer ends with the line `done`, or with `refused`, number, line"
unfoldable pub ending_text : ℕ → ℕ → List ℕ
ending_text number line = pick (eqb number 0) done_text (refused_text number line)

-- "`frame` steps clock length out soak kept room on start given"
abbrev pub figures_of : Log → Account → ℕ → ℕ → Figures
figures_of log a slots on =
    record {
      steps = log.steps;
      clock = log.run.clock;
      length = log.run.length;
      outflow = log.run.outflow;
      soaked = log.run.soaked;
      kept = log.run.kept;
      room = slots;
      on_ground = on;
      start = a.start;
      given = a.given;
    }

-- the frame of a state: "on: water on squares not closed"
unfoldable pub state_text : Plan → Log → Account → List ℕ → List ℕ
state_text p log a depths =
    frame_text (figures_of log a (kept_slots p.shape) (water p depths)) log.litres p.shape p.marks depths

-- a state as it is saved
abbrev pub saved_of : Log → Account → Saved
saved_of log a = record { log = log; start = a.start; given = a.given }

-- ---- what comes of a call

-- the evening and the account after it, the steps still to be made, and its answer
pub record Told : Type 0 where
  pub evening : Evening
  pub account : Account
  pub series : Series
  pub text : List ℕ

abbrev pub told : Evening → Account → Series → List ℕ → Told
told e a s t = record { evening = e; account = a; series = s; text = t }

-- an answer without a frame
abbrev pub plainly : Came → Told
plainly c = told c.evening c.account no_series (ending_text c.number 0)

-- one with the frame of what stands
abbrev pub shown : Plan → Came → Told
shown p c =
    told c.evening c.account no_series
    (state_text p c.evening.log c.account c.evening.depths ++ ending_text c.number 0)

-- what a line that changes the log alone comes to
abbrev pub came_of : Evening → Tried → Came
came_of e t = came t.number (evening e.depths e.lasts e.records e.began t.log) t.account

module _ (p : Plan) (e : Evening) (a : Account) where
  -- "the state stays as it was"
  abbrev pub refused_at : ℕ → ℕ → Told
  refused_at number line = told e a no_series (ending_text number line)

  -- `show`
  abbrev pub show_told : Told
  show_told = shown p (came 0 e a)

  -- `back` count: "all or none"
  unfoldable pub back_told : ℕ → Told
  back_told count = pick (eqb (back_came p e a count).number 0) (shown p (back_came p e a count)) (plainly (back_came p e a count))

  -- 12 "step's count not 1 to 64, every not 0 or 1", 5 "an end above 604,800,000"
  abbrev pub step_refusals : ℕ → ℕ → ℕ → List Row
  step_refusals count end every' =
      12 unless leb 1 count ∷ 12 unless leb count 64 ∷ 12 unless leb every' 1 ∷ 5 unless leb end last_clock ∷ []

  -- `step` count end every: no step is made yet
  unfoldable pub step_told : ℕ → ℕ → ℕ → Told
  step_told count end every' =
      pick (eqb (refusal (step_refusals count end every')) 0)
      (told e a (record { on = true; left = count; end = end; every = eqb every' 1 }) [])
      (refused_at (refusal (step_refusals count end every')) 0)

  -- `arrows`: of every square, as `arrow` answers it
  unfoldable pub arrows_told : Rules → Told
  arrows_told r =
      let w = view e.depths e.records e.log.run in
      pick (eqb (arrow_number p r.square_side w 0 0) 0)
      (told e a no_series (arrows_text p.shape (laid_out (squares p.shape) (seen_square p r.square_side w)) ++ done_text))
      (refused_at (arrow_number p r.square_side w 0 0) 0)

  -- `most` end
  unfoldable pub most_told : Rules → ℕ → Told
  most_told r end =
      told e a no_series (bounds_text (bounds_of r e.log.run.clock end) ++ ending_text (bounds_number r e.log.run.clock end) 0)

  -- `stand`
  unfoldable pub stand_told : Told
  stand_told = told e a no_series (stand_text p e.depths e.lasts (saved_of e.log a) ++ done_text)

  -- `lay` bytes, and the text that came: "that state, with no step kept"
  abbrev pub laid_water : List ℕ → Water
  laid_water text = water_after p text 0 (record { depths = e.depths; lasts = e.lasts })

  abbrev pub laid_evening : List ℕ → Log → Evening
  laid_evening text log = evening (laid_water text).depths (laid_water text).lasts e.records e.began log

  unfoldable pub lay_told : List ℕ → ℕ → List ℕ → Told
  lay_told inflow bytes text =
      let laid = stand_of p inflow (kept_slots p.shape) text in
      pick (every (eqb (length text) bytes ∷ leb (length text) desk_text ∷ []))
      (pick (eqb laid.number 0)
      (shown p (came 0 (laid_evening text laid.saved.log) (account_opened laid.saved.start laid.saved.given)))
      (refused_at laid.number laid.line))
      (refused_at 12 0)

  -- a line that the hatch log has as well; it has no line of clock and litres here
  unfoldable pub entry_told : Rules → List ℕ → Entry → Told
  entry_told r inflow (Hatch n row column) = plainly (came_of e (name_tried p r inflow e.log a n row column))
  entry_told r inflow (Back count) = back_told count
  entry_told r inflow (Rate clock n litres) = refused_at 12 0

  -- any line but `sheet`, with the text that came after it
  unfoldable pub order_told : Rules → List ℕ → List ℕ → Order → Told
  order_told r inflow text (Entered entry) = entry_told r inflow entry
  order_told r inflow text (Draw n litres) = plainly (came_of e (draw_tried e.log a n litres))
  order_told r inflow text (Step count end every') = step_told count end every'
  order_told r inflow text Show = show_told
  order_told r inflow text Arrows = arrows_told r
  order_told r inflow text (Most end) = most_told r end
  order_told r inflow text Stand = stand_told
  order_told r inflow text (Lay bytes) = lay_told inflow bytes text
  order_told r inflow text (Sheet bytes) = refused_at 12 0
  order_told r inflow text NoOrder = refused_at 12 0

-- ---- the steps of a line `step`, one a call

-- "up to count steps while clock < end"
unfoldable pub steps_left : Series → ℕ → Bool
steps_left s clock = every (leb 1 s.left ∷ ltb clock s.end ∷ [])

-- its end: "every 0: one frame at the end, of what stands then"
abbrev pub last_told : Plan → Bool → Came → Told
last_told p every' c = pick every' (plainly c) (shown p c)

-- one step less is to be made; "every 1: a frame after each"
abbrev pub one_less : Series → Series
one_less s = record { on = true; left = s.left - 1; end = s.end; every = s.every }

abbrev pub made_told : Plan → Series → Came → Told
made_told p s c =
    told c.evening c.account (one_less s) (pick s.every (state_text p c.evening.log c.account c.evening.depths) [])

-- the next step, or the line's end: "stops before a refused one"
unfoldable pub next_told : Plan → Given → Evening → Account → Series → Told
next_told p g e a s =
    pick (steps_left s e.log.run.clock)
    (pick (eqb (step_came p g e a).number 0) (made_told p s (step_came p g e a)) (last_told p s.every (step_came p g e a)))
    (last_told p s.every (came 0 e a))

-- ---- what the functions give

-- a text at the start of the answer's room
pub record Puts (t old new : List ℕ) : Type 0 where
  pub wrote : Wrote t 0 old new (length t)
  pub fits : length t ≤ desk_out
