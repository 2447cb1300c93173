-- What the functions that work the added water ask and give: whether each square can hold it, and where it then stands.
-- Assumes nothing.
use Rattle.std.specs.Prelude.{◌≡◌, Bool, true, false, ◌||◌, not, List, [], ℕ, ◌+◌, ◌/◌, ◌%◌, ◌≤◌, ◌<◌, ◌^◌, leb, length, get_or, set}
use Rattle.reckon.specs.Tests.{pick, all_below}
use Rattle.reckon.specs.Lists.{filled}
use Rattle.reckon.specs.Ranges.{most_depth, most_side, last_clock}
use Rattle.reckon.specs.Tables.{inflow_kind, on_square, inflow_added}
use Rattle.reckon.specs.Inner.Fits.{Fits}
use Rattle.grid.specs.Squares.{squares, square_at, ShapeInRange}
use Rattle.grid.specs.Marks.{closed, inflow_words, inflow_row, inflow_column}
use Rattle.grid.specs.declared.squares.Shape.{Shape}
use Rattle.rule.specs.declared.rules.Rules.{Rules}
use Rattle.ledger.specs.Runs.{Plan}
use Rattle.ledger.specs.Flows.{shut}
use Rattle.checks.specs.Given.{Given, given, ground}
use Rattle.checks.specs.Inner.Ready.{TablesInRange}
use Rattle.adding.specs.Added.{added_for}

-- ---- rain

-- rain stored: whether each square not closed can hold it, and if so it stands there; what stands at a closed square decides nothing
pub record RainedAll (marks : List ℕ) (rain : ℕ) (old : List ℕ) (r : Bool) (new : List ℕ) : Type 0 where
  pub fits_is : r ≡ all_below (length marks) (λ i. closed marks i || leb rain most_depth)
  pub stored : r ≡ true → (i : ℕ) → i < length marks → closed marks i ≡ false → get_or new i 0 ≡ rain
  pub long : length new ≡ length old

-- ---- rows that stand apart

-- no row before row j is for the square of row j
unfoldable pub row_alone : List ℕ → ℕ → Bool
row_alone inflow j = all_below j (λ k. not (on_square inflow (inflow_row inflow j) (inflow_column inflow j) k))

-- no two rows are for the same square
unfoldable pub rows_apart : List ℕ → Bool
rows_apart inflow = all_below (length inflow / inflow_words) (row_alone inflow)

-- ---- inflow

module _ (s : Shape) (r : Rules) (inflow : List ℕ) (start end rain : ℕ) where
  -- what is added to a square: the rain, and its own inflow rows
  unfoldable pub amount_at : ℕ → ℕ
  amount_at i = rain + inflow_added inflow (i / s.columns) (i % s.columns) r.square_side start end

  -- none of the first j rows is for a square
  unfoldable pub unpoured : ℕ → ℕ → Bool
  unpoured j i = all_below j (λ k. not (on_square inflow (i / s.columns) (i % s.columns) k))

  -- the square of row j
  abbrev pub row_square : ℕ → ℕ
  row_square j = square_at s (inflow_row inflow j) (inflow_column inflow j)

  pub record Pours : Type 0 where
    pub fine : ShapeInRange s
    pub side_from : 1 ≤ r.square_side
    pub side_to : r.square_side ≤ most_side
    pub table : Fits inflow_kind inflow end
    pub ordered : start ≤ end
    pub rain_to : rain < 2 ^ 60
    pub row_in : (j : ℕ) → j < length inflow / inflow_words → inflow_row inflow j < s.rows
    pub column_in : (j : ℕ) → j < length inflow / inflow_words → inflow_column inflow j < s.columns

  -- row j worked: whether its square can hold what is added, and if so it stands there
  pub record PouredRow (j : ℕ) (old : List ℕ) (done : Bool) (new : List ℕ) : Type 0 where
    pub fits_is : done ≡ leb (amount_at (row_square j)) most_depth
    pub stored : done ≡ true → new ≡ set old (row_square j) (amount_at (row_square j))
    pub long : length new ≡ length old

  pub record PouredAll (old : List ℕ) (done : Bool) (new : List ℕ) : Type 0 where
    pub fits_is : done ≡ all_below (length inflow / inflow_words) (λ j. leb (amount_at (row_square j)) most_depth)
    pub stored : done ≡ true → new ≡ filled (squares s) (unpoured (length inflow / inflow_words)) amount_at old
    pub long : length new ≡ length old

-- what inflow adds to the square of row j, so that each square is counted once: nothing where a row before it is for the same square
unfoldable pub poured_once : List ℕ → ℕ → ℕ → ℕ → ℕ → ℕ
poured_once inflow side start end j = pick (row_alone inflow j) (inflow_added inflow (inflow_row inflow j) (inflow_column inflow j) side start end) 0

-- ---- both

-- what the added water goes by of all that is given
abbrev pub tables : Rules → List ℕ → List ℕ → Given
tables r rain inflow = given (ground r [] [] []) rain inflow

-- the tables are fine and the two clocks in range
pub record Between (p : Plan) (g : Given) (start end : ℕ) : Type 0 where
  pub waters : TablesInRange p g
  pub ordered : start ≤ end
  pub end_to : end ≤ last_clock

module _ (p : Plan) (g : Given) (start end : ℕ) where
  -- no square not closed gets more than it can hold
  unfoldable pub added_fits : Bool
  added_fits = all_below (squares p.shape) (λ i. shut p i || leb (added_for p g start end i) most_depth)

  -- all worked: whether each square can hold what is added, and if so it stands at each square not closed; at closed squares anything may stand
  pub record WaterAdded (old : List ℕ) (done : Bool) (new : List ℕ) : Type 0 where
    pub fits_is : done ≡ added_fits
    pub stored : done ≡ true → (i : ℕ) → i < squares p.shape → shut p i ≡ false → get_or new i 0 ≡ added_for p g start end i
    pub long : length new ≡ length old
