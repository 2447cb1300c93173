-- Saved is not interrupted, line by line: the desk that was saved and the one on which its text was laid answer whatever lines follow alike.
-- Assumes nothing.
use Rattle.std.specs.Prelude.{◌≡◌, List, [], ◌∷◌, ◌++◌, ℕ}
use Rattle.ledger.specs.Runs.{Plan}
use Rattle.hatches.specs.declared.log.Log.{Log}
use Rattle.evenings.specs.Program.{Stores}
use Rattle.trying.specs.declared.given.Account.{Account}
use Rattle.desks.specs.Orders.{order}
use Rattle.desks.specs.State.{no_series}
use Rattle.desks.specs.Lines.{state_text}
use Rattle.desks.specs.Command.{plan_on}
use Rattle.desks.specs.declared.orders.Order.TheVariants.{Arrows}
use Rattle.desks.specs.declared.state.Desk.{Desk}
use Rattle.demands.specs.Desk.{AllWithin}
use Rattle.demands.specs.DeskLines.{OnDesk, ground_on}
use Rattle.demands.specs.DeskCalls.{Call, a_line, going_on, AllTry, after_calls, deeds_in, BeginsOn, starts_as}
use Rattle.demands.specs.DeskWalls.{answers}
use Rattle.demands.specs.DeskSavedCalls.{keeping, laid_on, LaidAgain}

-- two answers alike: one text; or of one state a frame each, the same but for the number of steps kept, and then the same
pub data AnswersAlike (t u : List ℕ) : Type 0 where
  one_text : t ≡ u → AnswersAlike t u
  one_state : (p : Plan) (log : Log) (a : Account) (depths end : List ℕ) (k m : ℕ) → t ≡ state_text p (keeping k log) a depths ++ end →
      u ≡ state_text p (keeping m log) a depths ++ end → AnswersAlike t u

-- one after the other, as many
abbrev pub AllAlike : List (List ℕ) → List (List ℕ) → Type 0
AllAlike [] [] = Unit {0}
AllAlike (t ∷ ts) (u ∷ us) = AnswersAlike t u × AllAlike ts us
AllAlike [] (u ∷ us) = ⊥
AllAlike (t ∷ ts) [] = ⊥

-- a call that is no `arrows`: those show the newest step kept, of which a desk just laid has none
abbrev pub NoArrows : Call → Type 0
NoArrows (a_line line text) = order line ≡ Arrows → ⊥
NoArrows going_on = Unit {0}

abbrev pub NeverArrows : List Call → Type 0
NeverArrows [] = Unit {0}
NeverArrows (c ∷ rest) = NoArrows c × NeverArrows rest

pub record DeskGoesOn : Type 0 where
  -- an evening of calls, saved between two lines and laid on another desk: whatever calls follow that lay nothing down and are no `arrows`, and of which
  -- no `back` goes below where it was saved, the two desks answer alike
  pub goes_on : (d : Desk) (r : Stores) → OnDesk d r → BeginsOn d r → (calls : List Call) → AllTry calls → (d' : Desk) (r' : Stores) →
      let now = after_calls calls d r in
      let laid = laid_on d r calls d' r' in
      LaidAgain d r calls d' r' → now.0.series ≡ no_series → (further : List Call) → AllTry further → NeverArrows further →
      AllWithin (plan_on d r) (ground_on d r) (deeds_in further laid.desk laid.rooms) (starts_as laid.desk laid.rooms) →
      AllAlike (answers further now.0 now.1) (answers further laid.desk laid.rooms)
