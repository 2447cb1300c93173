-- The sizes of what is lent to a line out of the program's rooms.
-- Assumes nothing.
use Rattle.std.specs.Prelude.{◌≡◌, [], ◌∷◌, ℕ, ◌+◌, ◌*◌, ◌≤◌, Bool, eqb, leb, ltb, length}
use Rattle.reckon.specs.Tests.{every}
use Rattle.reckon.specs.Tables.{rain_kind, inflow_kind, table_room}
use Rattle.grid.specs.Squares.{squares}
use Rattle.programs.specs.Program.{program_squares}
use Rattle.sheet.specs.declared.reading.Heading.{Heading}
use Rattle.hatches.specs.Log.{most_hatches, most_kept, most_numbers}
use Rattle.evenings.specs.Program.{Stores, records_lent, rates_lent}
use Rattle.evenings.specs.declared.program.Night.{Night}
use Rattle.evenings.specs.declared.program.Sizes.{Sizes}
use Rattle.evenings.specs.declared.telling.LineTaken.{LineTaken}

pub record SizesAre (h : Heading) (r : Sizes) : Type 0 where
  pub squares_are : r.squares ≡ squares h.shape
  pub squares_fit : r.squares ≤ program_squares
  pub rain_is : r.rain ≡ rain_kind.width * h.rain_rows
  pub rain_fits : r.rain ≤ table_room rain_kind
  pub inflow_is : r.inflow ≡ inflow_kind.width * h.inflow_rows
  pub inflow_fits : r.inflow ≤ table_room inflow_kind
  pub records_are : r.records ≡ records_lent h
  pub records_fit : r.records ≤ most_numbers
  pub began_is : r.began ≡ rates_lent h
  pub began_fits : r.began ≤ most_kept * most_hatches

-- the night after a line of which this came
abbrev pub night_with : Night → LineTaken → ℕ → Night
night_with n t long =
    record {
      more = every (eqb t.number 0 ∷ ltb t.next long ∷ []);
      at = t.next;
      line = n.line + 1;
      length = t.length;
      heading = n.heading;
      log = t.log;
    }

-- the rooms hold as much as is lent of them
unfoldable pub sizes_fit : Sizes → Stores → Bool
sizes_fit z r =
    every
    (leb z.squares (length r.sheet.cells.marks)
    ∷ leb z.squares (length r.sheet.cells.beds)
    ∷ leb z.squares (length r.sheet.cells.roughness)
    ∷ leb z.squares (length r.sheet.cells.rates)
    ∷ leb z.rain (length r.sheet.rain)
    ∷ leb z.inflow (length r.sheet.inflow)
    ∷ leb z.squares (length r.sheet.cells.depths)
    ∷ leb z.squares (length r.lasts)
    ∷ leb z.records (length r.records)
    ∷ leb z.began (length r.began)
    ∷ [])
