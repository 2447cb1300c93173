-- Numbers and grids worked by hand: on the left what the definitions give, on the right what they should be.
-- Assumes nothing.
use Rattle.std.specs.Prelude.{◌≡◌, List, [], ◌∷◌, ◌++◌, ℕ, Option, Some, None, Ok}
use Prim.Native.String.{String}
use Rattle.grid.specs.declared.squares.Shape.{Shape}
use Rattle.text.specs.Bytes.{bytes_of}
use Rattle.text.specs.Reading.{number}
use Rattle.raster.specs.Amounts.{amount_text, amount_at}
use Rattle.raster.specs.Raster.{grid_text, head_of, entry_of, grid_bad}
use Rattle.raster.specs.declared.amounts.Scale.TheVariants.{Metres, Whole}
use Rattle.raster.specs.declared.reading.Entry.{Entry}

pub record AmountsWorked : Type 0 where
  pub six_written : amount_text Metres 1_500_000 ≡ bytes_of "1.500000"
  pub small_written : amount_text Metres 31 ≡ bytes_of "0.000031"
  pub whole_written : amount_text Whole 100 ≡ bytes_of "100"
  pub six_read : amount_at Metres (bytes_of "0.000031") 0 ≡ number 31 8
  pub few_read : amount_at Metres (bytes_of "1.5 ") 0 ≡ number 1_500_000 3
  pub none_read : amount_at Metres (bytes_of "12") 0 ≡ number 12_000_000 2
  pub seven : amount_at Metres (bytes_of "1.0000000") 0 ≡ None
  pub bare-point : amount_at Metres (bytes_of "1.") 0 ≡ None
  pub no_whole : amount_at Metres (bytes_of ".5") 0 ≡ None
  pub signed : amount_at Metres (bytes_of "-1") 0 ≡ None
  pub needless_zero : amount_at Metres (bytes_of "01.5") 0 ≡ None
  pub greatest : amount_at Metres (bytes_of "4294.967295") 0 ≡ number 4_294_967_295 11
  pub too_great : amount_at Metres (bytes_of "4294.967296") 0 ≡ None
  pub whole_point : amount_at Whole (bytes_of "100.0") 0 ≡ None

-- a square that holds a number, a closed one, and where the next starts
abbrev holds : ℕ → ℕ → Option Entry
holds n q = Some (record { value = Some n; next = q })

abbrev shut : ℕ → Option Entry
shut q = Some (record { value = None; next = q })

-- two rows of three squares of 5 m, of which no two say the same; what a list holds for the closed square is not written
abbrev six_squares : Shape
six_squares = record { rows = 2; columns = 3 }

abbrev marks : List ℕ
marks = 1 ∷ 0 ∷ 2 ∷ 1 ∷ 1 ∷ 2 ∷ []

abbrev values : List ℕ
values = 1_000_001 ∷ 7 ∷ 20 ∷ 300_000 ∷ 4_000_000 ∷ 999_999_999 ∷ []

abbrev in_metres : String
in_metres =
    "ncols 3\nnrows 2\nxllcorner 0\nyllcorner 0\ncellsize 5\nNODATA_value -9999\n1.000001 -9999 0.000020\n0.300000 4.000000 999.999999\n"

abbrev in_whole : String
in_whole =
    "ncols 3\nnrows 2\nxllcorner 0\nyllcorner 0\ncellsize 5\nNODATA_value -9999\n1000001 -9999 20\n300000 4000000 999999999\n"

pub record SixSquaresWorked : Type 0 where
  pub metres_written : grid_text Metres six_squares marks values 5 ≡ bytes_of in_metres
  pub whole_written : grid_text Whole six_squares marks values 5 ≡ bytes_of in_whole
  pub head : head_of (bytes_of in_metres) ≡ Ok (record { shape = six_squares; side = 5; next = 70 })
  pub north-west : entry_of Metres (bytes_of in_metres) 0 ≡ holds 1_000_001 79
  pub north : entry_of Metres (bytes_of in_metres) 1 ≡ shut 85
  pub north-east : entry_of Metres (bytes_of in_metres) 2 ≡ holds 20 94
  pub south-west : entry_of Metres (bytes_of in_metres) 3 ≡ holds 300_000 103
  pub south-east : entry_of Metres (bytes_of in_metres) 5 ≡ holds 999_999_999 123
  pub none_bad : grid_bad Metres (bytes_of in_metres) ≡ 0

-- two squares of 10 m, the second closed, as the survey office may write them
abbrev theirs : String
theirs = "ncols  2\nnrows 1\nxllcorner 0.0\nyllcorner 0\ncellsize   10\nNODATA_value -9999\n1.5    -9999\n"

abbrev two_squares : Shape
two_squares = record { rows = 1; columns = 2 }

-- six good lines for two squares, and then this
abbrev headed : String → List ℕ
headed rows = bytes_of "ncols 2\nnrows 1\nxllcorner 0\nyllcorner 0\ncellsize 10\nNODATA_value -9999\n" ++ bytes_of rows

pub record TheirsWorked : Type 0 where
  pub head : head_of (bytes_of theirs) ≡ Ok (record { shape = two_squares; side = 10; next = 76 })
  pub first : entry_of Metres (bytes_of theirs) 0 ≡ holds 1_500_000 83
  pub second : entry_of Metres (bytes_of theirs) 1 ≡ shut 89
  pub none_bad : grid_bad Metres (bytes_of theirs) ≡ 0
  pub a_corner :
      grid_bad Metres (bytes_of "ncols 2\nnrows 1\nxllcorner 0\nyllcorner 0.000001\ncellsize 10\nNODATA_value -9999\n1 1\n") ≡ 4
  pub a_cellsize_with_a_point : grid_bad Metres (bytes_of "ncols 2\nnrows 1\nxllcorner 0\nyllcorner 0\ncellsize 10.0\n") ≡ 5
  pub another_no_data : grid_bad Metres (bytes_of "ncols 1\nnrows 1\nxllcorner 0\nyllcorner 0\ncellsize 1\nNODATA_value -1\n1\n") ≡ 6
  pub seven_decimals : grid_bad Metres (headed "1 1.0000000\n") ≡ 7
  pub a_square_short : grid_bad Metres (headed "1\n") ≡ 7
  pub a_square_too_many : grid_bad Metres (headed "1 1 1\n") ≡ 7
  pub a_space-before : grid_bad Metres (headed " 1 1\n") ≡ 7
  pub a_space-after : grid_bad Metres (headed "1 1 \n") ≡ 7
  pub no_row : grid_bad Metres (headed "") ≡ 7
  pub a_row_too_many : grid_bad Metres (headed "1 1\n1 1\n") ≡ 8
  pub no_newline : grid_bad Metres (headed "1 1") ≡ 7
  pub a_tab : grid_bad Metres (headed "1\t1\n") ≡ 7
  pub no_whole_number : grid_bad Whole (headed "1 1.0\n") ≡ 7
