-- The contract of each layer function of this crate leaves one outcome.
-- Assumes nothing.
use Rattle.std.specs.Prelude.{◌≡◌, true, false, List, ℕ, ◌<◌, get_or}
use Rattle.reckon.specs.Outcomes.{One}
use Rattle.grid.specs.Squares.{squares}
use Rattle.grid.specs.declared.walks.Walk.{Walk}
use Rattle.ledger.specs.Runs.{Plan}
use Rattle.ledger.specs.Flows.{shut}
use Rattle.checks.specs.Given.{Ground}
use Rattle.moves.specs.Inner.Fill.{LengthWorked, RecordFilled, LeftKept, works_on, worked_rows, sender_rows}

-- what `fill` gives: the record, what left each square that is worked, and the rows of the squares that are worked and of those that send
abbrev pub FillGives : Walk → Plan → Ground → List ℕ → List ℕ → List ℕ → ℕ → ℕ → ℕ → List ℕ × (List ℕ × (List ℕ × List ℕ)) → Type 0
FillGives walk p o depths lasts added held start ms out =
    (RecordFilled p o depths lasts added held start ms out.0)
    × (out.1.1.0 ≡ worked_rows walk p.shape depths lasts added)
    × (out.1.1.1 ≡ sender_rows p o depths lasts ms)
    × (LeftKept walk p o depths lasts added ms out.1.0)

-- `fill` is lent working rooms too. What it leaves in its room `left` is determined where the square is worked and not closed.
pub record MovesDetermined : Type 0 where
  pub step-length : (p : Plan) (o : Ground) (depths : List ℕ) (clock held : ℕ) → One (LengthWorked p o depths clock held)
  pub fill : (walk : Walk) (p : Plan) (o : Ground) (depths lasts added : List ℕ) (held start ms : ℕ) (a b : List ℕ × (List ℕ × (List ℕ × List ℕ))) →
      FillGives walk p o depths lasts added held start ms a → FillGives walk p o depths lasts added held start ms b →
      (a.0 ≡ b.0)
      × ((i : ℕ) → i < squares p.shape → shut p i ≡ false → works_on walk depths lasts added i ≡ true → get_or a.1.0 i 0 ≡ get_or b.1.0 i 0)
      × (a.1.1.0 ≡ b.1.1.0)
      × (a.1.1.1 ≡ b.1.1.1)
