-- Document 01, "Flow arrows and wet rows": wet rows and their count.
-- Assumes nothing.
use Rattle.std.specs.Prelude.{◌≡◌, List, [], ◌∷◌, ◌++◌, ℕ, zero, suc, eqb, leb, length, get_or}
use Rattle.std.specs.Int.Count.{ones}
use Rattle.reckon.specs.Tests.{pick, Row, ◌unless◌, refusal}
use Rattle.reckon.specs.Lists.{sum_below}
use Rattle.reckon.specs.Ranges.{most_depth}
use Rattle.grid.specs.Squares.{squares}
use Rattle.grid.specs.Masks.{is_wet, digit, wet_masks}
use Rattle.ledger.specs.Runs.{Plan}
use Rattle.sight.specs.Refusals.{shared_refusals}
use Rattle.sight.specs.declared.wet_rows.Wet.{Wet}
use Rattle.sight.specs.declared.wet_rows.Wet.TheVariants.{Count, Refused}

-- "The wet count is the number of ones over all rows"
unfoldable pub ones_over : List ℕ → ℕ
ones_over rows = sum_below (length rows) (λ row. ones (get_or rows row 0))

-- the wet squares, counted one by one: the same number (`count_is`)
unfoldable pub wet_squares : Plan → List ℕ → ℕ → ℕ
wet_squares p depths least = sum_below (squares p.shape) (λ i. digit (is_wet p.marks depths least i))

-- ---- refusals, and the answer

module _ (p : Plan) (depths : List ℕ) (least numbers : ℕ) where
  -- with 1, "wet rows: one a row", and 5, "wet depth out of range"
  unfoldable pub wet_refusals : List Row
  wet_refusals = shared_refusals p depths (eqb numbers p.shape.rows) ++ (5 unless leb least most_depth ∷ [])

  unfoldable pub wet_number : ℕ
  wet_number = refusal wet_refusals

-- Refusal's number and wet count as an answer: 0 is no refusal, so that a refusal is never taken for a count.
unfoldable pub counted : ℕ → ℕ → Wet
counted zero n = Count n
counted (suc k) n = Refused (suc k)

-- ---- what the public functions give

abbrev pub OnesIn : List ℕ → ℕ → Type 0
OnesIn rows r = r ≡ ones_over rows

-- the answer, and the row slice afterwards
pub record WetRowed (p : Plan) (depths : List ℕ) (least : ℕ) (old : List ℕ) (a : Wet) (rows : List ℕ) : Type 0 where
  pub answer : a ≡ counted (wet_number p depths least (length old)) (ones_over (wet_masks p.shape p.marks depths least))
  pub rows_are : rows ≡ pick (eqb (wet_number p depths least (length old)) 0) (wet_masks p.shape p.marks depths least) old
