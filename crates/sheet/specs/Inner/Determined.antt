-- The contract of each layer function of this crate leaves one outcome.
-- Assumes nothing.
use Rattle.std.specs.Prelude.{◌≡◌, List, ℕ}
use Rattle.reckon.specs.Outcomes.{One}
use Rattle.reckon.specs.Lists.{placed}
use Rattle.grid.specs.declared.squares.Shape.{Shape}
use Rattle.rule.specs.declared.rules.Rules.{Rules}
use Rattle.sheet.specs.Lines.{grid_line, run_line}
use Rattle.sheet.specs.Sheet.{Rooms, table_rows, checks_in}
use Rattle.sheet.specs.Inner.Reading.{RowsCounted}

pub record SheetDetermined : Type 0 where
  pub grid-line : (text : List ℕ) → One (λ r. r ≡ grid_line text)
  pub run-line : (text : List ℕ) (at side : ℕ) → One (λ r. r ≡ run_line text at side)
  pub count_rows : (text : List ℕ) (at : ℕ) (word : List ℕ) (width : ℕ) → One (RowsCounted text at word width)
  pub fill_rows : (text : List ℕ) (at : ℕ) (word : List ℕ) (width count : ℕ) (room : List ℕ) →
      One (λ after. after ≡ placed room 0 (table_rows text at word width count))
  pub judge : (shape : Shape) (rules : Rules) (held : Rooms) (end : ℕ) → One (λ r. r ≡ checks_in shape rules held end)
