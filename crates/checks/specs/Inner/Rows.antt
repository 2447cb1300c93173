-- Rows 1 to 6 tried one after the other, for a step and for a run to an end alike.
-- Assumes nothing.
use Rattle.std.specs.Prelude.{◌≡◌, Bool, List, ℕ, length}
use Rattle.reckon.specs.Tests.{refusal}
use Rattle.ledger.specs.Runs.{Plan, world, seen_of}
use Rattle.ledger.specs.Record.{ring_of}
use Rattle.ledger.specs.declared.runs.Run.{Run}
use Rattle.checks.specs.Given.{Given}
use Rattle.checks.specs.Refusals.{check_refusals}

-- the first that applies, where `five` is row 5's test, with whatever record room of so many numbers
abbrev pub RowsTried : Plan → Given → Bool → List ℕ → List ℕ → ℕ → Run → ℕ → Type 0
RowsTried p g five depths lasts numbers u r =
    (records : List ℕ) → length records ≡ numbers →
    r ≡ refusal (check_refusals p g five (ring_of p (world depths lasts records u)) (seen_of (world depths lasts records u)))
