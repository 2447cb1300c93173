-- The contract of each layer function of this crate leaves one outcome.
-- Assumes nothing.
use Rattle.std.specs.Prelude.{List, ℕ, ◌+◌}
use Rattle.reckon.specs.Outcomes.{One}
use Rattle.grid.specs.Squares.{ShapeJudged, SquaresOf, SquareFound, NextColumn, BesideOn, OppositeOf, RimJudged}
use Rattle.grid.specs.Marks.{ClosedJudged, ExitJudged, MarksJudged, InflowSquaresJudged}
use Rattle.grid.specs.Masks.{RowMasked, OnesOf, NextFound, Masked}
use Rattle.grid.specs.Walks.{NextWithin, WithinRow, LowestSet, WithoutLowest, BesideSet}
use Rattle.grid.specs.declared.squares.Shape.{Shape}

pub record GridDetermined : Type 0 where
  pub shape-fine : (s : Shape) → One (ShapeJudged s)
  pub squares_of : (s : Shape) → One (SquaresOf s)
  pub square-at : (s : Shape) (row column : ℕ) → One (SquareFound s row column)
  pub next_column : (s : Shape) (column : ℕ) → One (NextColumn s column)
  pub beside_on : (s : Shape) (square side : ℕ) → One (BesideOn s square side)
  pub opposite_side : (side : ℕ) → One (OppositeOf side)
  pub on-rim : (s : Shape) (square : ℕ) → One (RimJudged s square)
  pub is_closed : (marks : List ℕ) (square : ℕ) → One (ClosedJudged marks square)
  pub is_exit : (marks : List ℕ) (square : ℕ) → One (ExitJudged marks square)
  pub marks-fine : (s : Shape) (marks : List ℕ) → One (MarksJudged s marks)
  pub inflow_squares-fine : (s : Shape) (marks rows : List ℕ) → One (InflowSquaresJudged s marks rows)
  pub row-mask : (marks numbers : List ℕ) (least first columns : ℕ) → One (RowMasked marks numbers least first columns)
  pub mask_rows : (s : Shape) (marks depths : List ℕ) (least : ℕ) → One (Masked s marks depths least)
  pub ones : (mask : ℕ) → One (OnesOf mask)
  pub next-set : (mask column : ℕ) → One (NextFound mask column)
  pub next-within : (mask column columns : ℕ) → One (NextWithin mask column columns)
  pub next_after : (mask column columns : ℕ) → One (NextWithin mask (column + 1) columns)
  pub within-row : (mask columns : ℕ) → One (WithinRow mask columns)
  pub lowest_set : (mask : ℕ) → One (LowestSet mask)
  pub without-lowest : (mask : ℕ) → One (WithoutLowest mask)
  pub beside-set : (rows : List ℕ) (row : ℕ) → One (BesideSet rows row)
