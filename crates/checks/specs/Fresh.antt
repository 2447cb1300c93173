-- Document 01, "Units and ranges": a fresh run.
-- Assumes nothing.
use Rattle.std.specs.Prelude.{◌≡◌, not, List, [], ◌∷◌, ℕ, ◌-◌, eqb}
use Rattle.reckon.specs.Tests.{pick, every, Row, ◌unless◌, refusal}
use Rattle.reckon.specs.Lists.{filled}
use Rattle.reckon.specs.Ranges.{side_fine}
use Rattle.grid.specs.Squares.{squares, shape_fine}
use Rattle.grid.specs.Marks.{marks_fine}
use Rattle.rule.specs.Rules.{rules_fine}
use Rattle.rule.specs.declared.rules.Rules.{Rules}
use Rattle.ledger.specs.Runs.{Plan, answered}
use Rattle.ledger.specs.Flows.{shut}
use Rattle.ledger.specs.Record.{room_slots}
use Rattle.ledger.specs.Checks.{one_each}
use Rattle.ledger.specs.declared.runs.Run.{Run}
use Rattle.ledger.specs.declared.runs.Answer.{Answer}

-- "A fresh run: clock 0, length = the longest of the rules it starts with, outflow 0, kept 0, newest K − 1", and the total soaked "0
-- when fresh" (document 02, #106)
unfoldable pub fresh_run : Rules → ℕ → Run
fresh_run r k = record { clock = 0; length = r.longest; outflow = 0; kept = 0; newest = k - 1; soaked = 0 }

module _ (p : Plan) (r : Rules) (lasts records : List ℕ) where
  -- it is lent shape, rules, marks, last leaving and the record room, and checks those
  unfoldable pub fresh_refusals : List Row
  fresh_refusals =
      1 unless every (shape_fine p.shape ∷ side_fine r.square_side ∷ one_each p p.marks ∷ one_each p lasts ∷ [])
      ∷ 2 unless marks_fine p.shape p.marks
      ∷ 5 unless rules_fine r
      ∷ 6 unless not (eqb (room_slots p records) 0)
      ∷ []

  unfoldable pub fresh_number : ℕ
  fresh_number = refusal fresh_refusals

  -- "P 0 on squares not closed"
  unfoldable pub fresh_lasts : List ℕ
  fresh_lasts = pick (eqb fresh_number 0) (filled (squares p.shape) (shut p) (λ i. 0) lasts) lasts

-- ---- what the public functions give

pub record Freshens (p : Plan) (r : Rules) (before records : List ℕ) (a : Answer) (lasts : List ℕ) : Type 0 where
  pub answer : a ≡ answered (fresh_number p r before records) (fresh_run r (room_slots p records))
  pub lasts_are : lasts ≡ fresh_lasts p r before records

-- the run's value alone, of a room with so many slots
abbrev pub FreshRunMade : Rules → ℕ → Run → Type 0
FreshRunMade rules k r = r ≡ fresh_run rules k
