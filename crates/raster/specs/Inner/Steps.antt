-- What the functions that read and write a grid give one another.
-- Assumes nothing.
use Rattle.std.specs.Prelude.{◌≡◌, Bool, ◌&&◌, List, ℕ, ◌+◌, leb, length, get_or, is_some}
use Rattle.reckon.specs.Tests.{pick, first_failing}
use Rattle.grid.specs.Squares.{squares}
use Rattle.grid.specs.declared.squares.Shape.{Shape}
use Rattle.grid.specs.Marks.{closed}
use Rattle.text.specs.Reading.{newline, is_byte, word_at}
use Rattle.raster.specs.Amounts.{amount_text}
use Rattle.raster.specs.Raster.{space, no_data, last_in_row, past_spaces, place_from, entry_from}
use Rattle.raster.specs.declared.amounts.Scale.{Scale}

-- where the value of a header's line at p starts: after its word and its spaces; p itself where they are not there
abbrev pub value_start : List ℕ → ℕ → List ℕ → ℕ
value_start s p word = pick (word_at s p word && is_byte s (p + length word) space) (past_spaces s (p + length word)) p

-- how many squares can be read from p on
abbrev pub read_from : Scale → List ℕ → ℕ → Shape → ℕ
read_from k s p shape = first_failing (squares shape) (λ i. is_some (entry_from k s p shape.columns i))

-- whether that is all of them, and where the reading stops
pub record Stops (k : Scale) (s : List ℕ) (p : ℕ) (shape : Shape) (all : Bool) (next : ℕ) : Type 0 where
  pub whole : all ≡ leb (squares shape) (read_from k s p shape)
  pub place : next ≡ place_from k s p shape.columns (read_from k s p shape)

-- what is written for a square, and the byte after it
abbrev pub value_text : Scale → List ℕ → List ℕ → ℕ → List ℕ
value_text k marks values i = pick (closed marks i) no_data (amount_text k (get_or values i 0))

abbrev pub gap_byte : ℕ → ℕ → ℕ
gap_byte columns i = pick (last_in_row columns i) newline space
