-- What the caller of several calls of the desk has, of what was really called: walls, a state saved and laid again that goes on, two desks, a step
-- taken back.
-- Assumes nothing.
use Rattle.std.specs.Prelude.{◌≡◌, false, List, [], ◌∷◌, ◌++◌, ℕ, length}
use Rattle.hatches.specs.Log.{most_hatches}
use Rattle.hatches.specs.declared.lines.Entry.TheVariants.{Back}
use Rattle.evenings.specs.Program.{Stores}
use Rattle.desks.specs.Orders.{order}
use Rattle.desks.specs.State.{no_series}
use Rattle.desks.specs.Lines.{done_text, ending_text}
use Rattle.desks.specs.Command.{Left, plan_on}
use Rattle.desks.specs.declared.orders.Order.TheVariants.{Entered, Stand, Lay}
use Rattle.desks.specs.declared.state.Desk.{Desk}
use Rattle.demands.specs.Desk.{AllWithin}
use Rattle.demands.specs.DeskLines.{lays_down, OnDesk, ground_on}
use Rattle.demands.specs.DeskCalls.{Call, a_line, going_on, called, AllTry, after_calls, deeds_in, BeginsOn, starts_as, StepMade, AsBefore}
use Rattle.demands.specs.DeskWalls.{SameDesks, SameLeft}
use Rattle.demands.specs.DeskSavedCalls.{call_one, call_other, calls_in_turn, stand_on, frame_keeping, SameSheet, LaidAgain, ReadAgain, StandReadBack, laid_on}
use Rattle.demands.specs.DeskGoesOn.{AnswersAlike, NeverArrows}

-- One call at two desks: a line with the text that came after it, or the next step of a line `step`.

-- what walls ask of it: nothing is laid down, and for a step each of the nine hatches has a rate
abbrev pub WallsAsk : Call → Desk → Type 0
WallsAsk (a_line line text) d = lays_down (order line) ≡ false
WallsAsk going_on d = length d.log.litres ≡ most_hatches

pub record AfterBoth (c : Call) (d : Desk) (r : Stores) (d' : Desk) (r' : Stores) (l m : Left) : Type 0 where
  -- walls: where it is one desk over two stores that differ only in what closed squares hold, the answers are the same, and so are the desks, over
  -- stores that are again the same but for closed squares
  pub walls : d ≡ d' → SameDesks d r r' → WallsAsk c d → SameLeft l m
  -- saved is not interrupted: wherever the calls that followed have brought the desk that was saved, and the one on which its text was laid, the two
  -- answer the next one alike
  pub goes_on : (b : Desk) (s : Stores) → OnDesk b s → BeginsOn b s → (calls : List Call) → AllTry calls → (e : Desk) (t : Stores) →
      let saved = after_calls calls b s in
      let laid = laid_on b s calls e t in
      LaidAgain b s calls e t → saved.0.series ≡ no_series → (further : List Call) → after_calls further saved.0 saved.1 ≡ (d, r) →
      after_calls further laid.desk laid.rooms ≡ (d', r') → AllTry (further ++ (c ∷ [])) → NeverArrows (further ++ (c ∷ [])) →
      AllWithin (plan_on b s) (ground_on b s) (deeds_in (further ++ (c ∷ [])) laid.desk laid.rooms) (starts_as laid.desk laid.rooms) →
      AnswersAlike l.text m.text

-- Two desks: a line at the one, a line at the other, and the next step at the one.
pub record AfterTurns (d : Desk) (r : Stores) (line text : List ℕ) (d' : Desk) (r' : Stores) (line' text' : List ℕ) (l m : Left) : Type 0 where
  pub in-turn : record { one = (l.desk, l.rooms); other = (m.desk, m.rooms) }
      ≡ calls_in_turn (call_one (a_line line text) ∷ call_other (a_line line' text') ∷ call_one going_on ∷ []) d r d' r'
  -- each is left as by its own calls alone
  pub one_alone : (l.desk, l.rooms) ≡ after_calls (a_line line text ∷ going_on ∷ []) d r
  pub other_alone : (m.desk, m.rooms) ≡ after_calls (a_line line' text' ∷ []) d' r'

-- The steps of a line `step` as the program makes them: the second goes by the first, and is the next call of an evening, of which `DeskCalls` speaks.
pub record AfterFurther (d : Desk) (r : Stores) (l : Left) : Type 0 where
  pub is_call : let first = called going_on d r in l ≡ called going_on first.desk first.rooms

-- A trial taken back was never made: the next step of a line `step`, and the line `back 1`, wherever an evening has come to.
pub record AfterStepBack (d : Desk) (r : Stores) (line text : List ℕ) (l : Left) : Type 0 where
  pub gone : (b : Desk) (s : Stores) → OnDesk b s → BeginsOn b s → (calls : List Call) → AllTry calls → after_calls calls b s ≡ (d, r) →
      order line ≡ Entered (Back 1) → StepMade d r → AsBefore d r l.desk l.rooms

-- Saved is not interrupted: `stand` at the one desk, and `lay` of what it answered, without its `done`, at another.
pub record AfterSaved (d : Desk) (r : Stores) (d' : Desk) (r' : Stores) (saving laying : List ℕ) (l m : Left) : Type 0 where
  -- from every sheet that was read and every saved state whose account holds, whatever calls follow,
  pub read_back : StandReadBack
  -- the other desk answers with the frame of the first, but that no step is kept, and goes on as the first does
  pub laid : (b : Desk) (s : Stores) → ReadAgain b s → (calls : List Call) → AllTry calls → after_calls calls b s ≡ (d, r) → SameSheet d r d' r' →
      order saving ≡ Stand → order laying ≡ Lay (length (stand_on d r)) →
      (l.text ≡ stand_on d r ++ done_text) × (m.text ≡ frame_keeping 0 d r ++ ending_text 0 0) × (m ≡ laid_on b s calls d' r') × LaidAgain b s calls d' r'
