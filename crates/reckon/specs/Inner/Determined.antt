-- The contract of each layer function of this crate leaves one outcome.
-- Assumes nothing.
use Rattle.std.specs.Prelude.{List, ℕ}
use Rattle.reckon.specs.Copying.{Copied}
use Rattle.reckon.specs.Outcomes.{One}
use Rattle.reckon.specs.Numbers.{Lesser, Greater, PartOf}
use Rattle.reckon.specs.Numbers as Numbers
use Rattle.reckon.specs.Ranges.{WaterJudged, SideJudged, RateJudged}
use Rattle.reckon.specs.Roots.{Root}
use Rattle.reckon.specs.Soaking.{SoakDue}
use Rattle.reckon.specs.Tables.{RowOn, RainBy, InflowBy, RainAdded, InflowAdded, RainJudged, InflowJudged}

pub record ReckonDetermined : Type 0 where
  pub lesser : (a b : ℕ) → One (Lesser a b)
  pub greater : (a b : ℕ) → One (Greater a b)
  pub number : (list : List ℕ) (at : ℕ) → One (Numbers.NumberAt list at)
  pub part : (d x y : ℕ) → One (PartOf d x y)
  pub copy_into : (from old : List ℕ) (at : ℕ) → One (Copied from old at)
  pub water-fine : (depth last : ℕ) → One (WaterJudged depth last)
  pub side-fine : (side : ℕ) → One (SideJudged side)
  pub rate-fine : (rate : ℕ) → One (RateJudged rate)
  pub square_root : (n : ℕ) → One (Root 2 n)
  pub cube_root : (n : ℕ) → One (Root 3 n)
  pub soak-due : (rate start end : ℕ) → One (SoakDue rate start end)
  pub row_on : (rows : List ℕ) (j r c : ℕ) → One (RowOn rows j r c)
  pub rain-by : (rows : List ℕ) (t : ℕ) → One (RainBy rows t)
  pub inflow-by : (rows : List ℕ) (r c side t : ℕ) → One (InflowBy rows r c side t)
  pub rain-added : (rows : List ℕ) (start end : ℕ) → One (RainAdded rows start end)
  pub inflow-added : (rows : List ℕ) (r c side start end : ℕ) → One (InflowAdded rows r c side start end)
  pub rain_fine : (rows : List ℕ) → One (RainJudged rows)
  pub inflow_fine : (rows : List ℕ) → One (InflowJudged rows)
