-- How much of each room belongs to the sheet on the desk.
-- Assumes nothing.
use Rattle.std.specs.Prelude.{◌≡◌, ◌*◌, ◌≤◌}
use Rattle.reckon.specs.Tables.{rain_kind, inflow_kind, table_room}
use Rattle.grid.specs.Squares.{squares, ShapeInRange}
use Rattle.sheet.specs.declared.reading.Heading.{Heading}
use Rattle.desks.specs.State.{desk_squares, desk_rates, desk_numbers, records_on, rates_on}
use Rattle.desks.specs.declared.sizes.Sizes.{Sizes}

pub record SizesAre (h : Heading) (r : Sizes) : Type 0 where
  pub fine : ShapeInRange h.shape
  pub squares_are : r.squares ≡ squares h.shape
  pub squares_fit : r.squares ≤ desk_squares
  pub rain_is : r.rain ≡ rain_kind.width * h.rain_rows
  pub rain_fits : r.rain ≤ table_room rain_kind
  pub inflow_is : r.inflow ≡ inflow_kind.width * h.inflow_rows
  pub inflow_fits : r.inflow ≤ table_room inflow_kind
  pub records_are : r.records ≡ records_on h.shape
  pub records_fit : r.records ≤ desk_numbers
  pub began_is : r.began ≡ rates_on h.shape
  pub began_fits : r.began ≤ desk_rates
