-- The contract of each layer function of this crate leaves one outcome.
-- Assumes nothing.
use Rattle.std.specs.Prelude.{List, ℕ}
use Rattle.reckon.specs.Outcomes.{One}
use Rattle.grid.specs.declared.squares.Shape.{Shape}
use Rattle.ledger.specs.Runs.{Plan, RunJudged}
use Rattle.ledger.specs.Record.{SizeOf, HeldBefore, Lasted, Leaving, LastBefore, AddedBy, SoakedBy, GoneFrom, SentTo, CameTo, OffFrom, HeadPut, SquarePut}
use Rattle.ledger.specs.Checks.{OneEach, WatersJudged, TimesJudged}
use Rattle.ledger.specs.declared.runs.Run.{Run}

pub record LedgerDetermined : Type 0 where
  pub record-size : (s : Shape) → One (SizeOf s)
  pub held-before : (rec : List ℕ) → One (HeldBefore rec)
  pub lasted : (rec : List ℕ) → One (Lasted rec)
  pub leaving : (rec : List ℕ) (square side : ℕ) → One (Leaving rec square side)
  pub last-before : (rec : List ℕ) (square : ℕ) → One (LastBefore rec square)
  pub added_by : (rec : List ℕ) (square : ℕ) → One (AddedBy rec square)
  pub soaked_by : (rec : List ℕ) (square : ℕ) → One (SoakedBy rec square)
  pub gone_from : (rec : List ℕ) (square : ℕ) → One (GoneFrom rec square)
  pub sent_to : (p : Plan) (rec : List ℕ) (square side : ℕ) → One (SentTo p rec square side)
  pub came-to : (p : Plan) (rec : List ℕ) (square : ℕ) → One (CameTo p rec square)
  pub off_from : (p : Plan) (rec : List ℕ) (square : ℕ) → One (OffFrom p rec square)
  pub put_head : (rec : List ℕ) (held lasts : ℕ) → One (HeadPut rec held lasts)
  pub put_square : (rec : List ℕ) (square : ℕ) (leaves : List ℕ) (last added soaked : ℕ) → One (SquarePut rec square leaves last added soaked)
  pub run-fine : (k : ℕ) (u : Run) → One (RunJudged k u)
  pub one_each : (s : Shape) (numbers : ℕ) → One (OneEach s numbers)
  pub waters-fine : (p : Plan) (depths lasts : List ℕ) → One (WatersJudged p depths lasts)
  pub times-fine : (rec : List ℕ) → One (TimesJudged rec)
