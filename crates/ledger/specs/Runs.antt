-- Document 01, "Units and ranges": the plan of a grid, the world that calls change, what is seen of it, the run
-- value, and the answer that gives one.
-- Assumes nothing.
use Rattle.std.specs.Prelude.{◌≡◌, Bool, List, [], ◌∷◌, ℕ, zero, suc, leb}
use Rattle.reckon.specs.Tests.{every}
use Rattle.reckon.specs.Ranges.{most_length, last_clock, most_outflow, most_soaked}
use Rattle.trials.specs.Ring.{ring_fine}
use Rattle.grid.specs.declared.squares.Shape.{Shape}
use Rattle.ledger.specs.declared.runs.Run.{Run}
use Rattle.ledger.specs.declared.runs.Answer.{Answer}
use Rattle.ledger.specs.declared.runs.Answer.TheVariants.{Done, Refused}

-- What demand 3 holds fixed: "one shape, one set of marks".
pub record Plan : Type 0 where
  pub shape : Shape
  pub marks : List ℕ

abbrev pub plan : Shape → List ℕ → Plan
plan s m = record { shape = s; marks = m }

-- What calls change: depths, last leaving, the record room and the run value.
pub record World : Type 0 where
  pub depths : List ℕ
  pub lasts : List ℕ
  pub records : List ℕ
  pub run : Run

abbrev pub world : List ℕ → List ℕ → List ℕ → Run → World
world d p r u = record { depths = d; lasts = p; records = r; run = u }

-- demand 3: "depths, the total last to leave each square, clock, step length and outflow", and "the total" soaked (document 02, #106)
pub record Seen : Type 0 where
  pub depths : List ℕ
  pub lasts : List ℕ
  pub clock : ℕ
  pub length : ℕ
  pub outflow : ℕ
  pub soaked : ℕ

abbrev pub seen_of : World → Seen
seen_of w =
    record {
      depths = w.depths;
      lasts = w.lasts;
      clock = w.run.clock;
      length = w.run.length;
      outflow = w.run.outflow;
      soaked = w.run.soaked;
    }

-- refusal 6: "K = 0, or a run value out of range": whether K, kept and newest are in range, then clock, length, outflow and soaked
unfoldable pub run_values_fine : Bool → ℕ → ℕ → ℕ → ℕ → Bool
run_values_fine ring clock length outflow soaked =
    every (ring ∷ leb clock last_clock ∷ leb 1 length ∷ leb length most_length ∷ leb outflow most_outflow ∷ leb soaked most_soaked ∷ [])

-- the same of a run value and K
unfoldable pub run_fine : ℕ → Run → Bool
run_fine K u = run_values_fine (ring_fine K u.kept u.newest) u.clock u.length u.outflow u.soaked

-- Refusal's number and run value as an answer: 0 is no refusal, so that a refusal is never taken for a run.
unfoldable pub answered : ℕ → Run → Answer
answered zero u = Done u
answered (suc n) u = Refused (suc n)

-- ---- what the public function gives

abbrev pub RunJudged : ℕ → Run → Bool → Type 0
RunJudged K u r = r ≡ run_fine K u
