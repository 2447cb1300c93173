-- The contract of each layer function of this crate leaves one outcome.
-- Assumes nothing.
use Rattle.std.specs.Prelude.{Bool, List, ℕ}
use Rattle.reckon.specs.Outcomes.{One}
use Rattle.grid.specs.declared.squares.Shape.{Shape}
use Rattle.raster.specs.Raster.{HeadRead, EntryRead, GridJudged, PutGrid}
use Rattle.raster.specs.declared.amounts.Scale.{Scale}

pub record RasterDetermined : Type 0 where
  pub head-of : (text : List ℕ) → One (HeadRead text)
  pub entry_at : (scale : Scale) (text : List ℕ) (at : ℕ) (last : Bool) → One (EntryRead scale text at last)
  pub grid-bad : (scale : Scale) (text : List ℕ) → One (GridJudged scale text)
  pub put_grid : (scale : Scale) (shape : Shape) (marks values : List ℕ) (side at : ℕ) (room : List ℕ) →
      One {Out = ℕ × List ℕ} (λ o. PutGrid scale shape marks values side at room o.1 o.0)
