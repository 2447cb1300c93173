-- Walls at the warden's desk: two desks that differ only in what closed squares hold answer every evening of calls that lays nothing down with
-- the same texts.
-- Assumes nothing.
use Rattle.std.specs.Prelude.{◌≡◌, false, List, [], ◌∷◌, ℕ, length}
use Rattle.ledger.specs.Runs.{Plan}
use Rattle.hatches.specs.Log.{Evening, most_hatches}
use Rattle.evenings.specs.Program.{Stores}
use Rattle.desks.specs.Command.{Left, plan_on, command_left, step_left}
use Rattle.desks.specs.declared.orders.Order.{Order}
use Rattle.desks.specs.declared.state.Desk.{Desk}
use Rattle.demands.specs.Closed.{SameOpen, SameRoom, SameGiven}
use Rattle.demands.specs.DeskLines.{lays_down, OnDesk, state_on, ground_on}
use Rattle.demands.specs.DeskCalls.{Call, called, AllTry, after_calls, BeginsOn}

-- two states: depths, last leaving and records but for closed squares; the rates beside the records and the log whole
pub record SameState (p : Plan) (e f : Evening) : Type 0 where
  pub depths : SameOpen p e.depths f.depths
  pub lasts : SameOpen p e.lasts f.lasts
  pub records : SameRoom p e.records f.records
  pub began : e.began ≡ f.began
  pub log : e.log ≡ f.log

-- one desk over two stores: the same marks, and heights, roughness, soak rates and state the same but for closed squares
pub record SameDesks (d : Desk) (r s : Stores) : Type 0 where
  pub on : OnDesk d r
  pub also : OnDesk d s
  pub plan : plan_on d r ≡ plan_on d s
  pub ground : SameGiven (plan_on d r) (ground_on d r) (ground_on d s)
  pub state : SameState (plan_on d r) (state_on d r) (state_on d s)

-- what two calls leave: one answer and one desk, over stores that are again the same but for closed squares
pub record SameLeft (l m : Left) : Type 0 where
  pub text : l.text ≡ m.text
  pub desk : l.desk ≡ m.desk
  pub rooms : SameDesks l.desk l.rooms m.rooms

-- the answers of calls, one after the other
unfoldable pub answers : List Call → Desk → Stores → List (List ℕ)
answers [] d r = []
answers (c ∷ rest) d r = (called c d r).text ∷ answers rest (called c d r).desk (called c d r).rooms

-- after calls: the same answers throughout, one desk, and stores that are again the same but for closed squares
pub record SameEvening (calls : List Call) (d : Desk) (r s : Stores) : Type 0 where
  pub texts : answers calls d r ≡ answers calls d s
  pub desk : (after_calls calls d r).0 ≡ (after_calls calls d s).0
  pub rooms : SameDesks (after_calls calls d r).0 (after_calls calls d r).1 (after_calls calls d s).1

pub record DeskWalls : Type 0 where
  -- each line but `sheet` and `lay`: frames, arrows, bounds, saved states and refusals
  pub each_line : (d : Desk) (r s : Stores) → SameDesks d r s → (text : List ℕ) (o : Order) → lays_down o ≡ false →
      SameLeft (command_left d r text o) (command_left d s text o)
  -- the next step of a line `step`, with its frame
  pub each_step : (d : Desk) (r s : Stores) → SameDesks d r s → length d.log.litres ≡ most_hatches → SameLeft (step_left d r) (step_left d s)
  -- every evening from a beginning, its steps and take-backs among the calls
  pub evening : (d : Desk) (r s : Stores) → SameDesks d r s → BeginsOn d r → (calls : List Call) → AllTry calls → SameEvening calls d r s
