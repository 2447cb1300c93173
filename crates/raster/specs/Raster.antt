-- Document 02, #104: "the ESRI ASCII grid (ncols, nrows, xllcorner, yllcorner, cellsize, NODATA_value, then rows from the north)".
-- Assumes nothing.
use Rattle.std.specs.Prelude.{◌≡◌, Bool, false, ◌&&◌, List, [], ◌∷◌, ◌++◌, ℕ, zero, suc, ◌+◌, ◌%◌, eqb, ltb, leb, length, get_or, drop, Option, Some, None, Result, Ok, Err, is_some, is_none, is_ok, unwrap_or}
use Rattle.reckon.specs.Tests.{pick, first_failing}
use Rattle.reckon.specs.Lists.{joined, sum_below}
use Rattle.grid.specs.Squares.{squares}
use Rattle.grid.specs.Marks.{closed}
use Rattle.grid.specs.declared.squares.Shape.{Shape}
use Rattle.text.specs.Bytes.{bytes_of}
use Rattle.text.specs.Reading.{newline, is_byte, word_at, number, with_number}
use Rattle.text.specs.Writing.{decimal, Wrote}
use Rattle.text.specs.declared.reading.Number.{Number}
use Rattle.raster.specs.Amounts.{amount_text, amount_at}
use Rattle.raster.specs.declared.amounts.Scale.{Scale}
use Rattle.raster.specs.declared.amounts.Scale.TheVariants.{Metres, Whole}
use Rattle.raster.specs.declared.reading.Entry.{Entry}
use Rattle.raster.specs.declared.reading.Head.{Head}

abbrev pub space : ℕ
space = 32

-- "NODATA is -9999"
abbrev pub no_data : List ℕ
no_data = bytes_of "-9999"

-- square i is the last of its row
abbrev pub last_in_row : ℕ → ℕ → Bool
last_in_row columns i = eqb ((i + 1) % columns) 0

-- ---- as it is written

-- a line of the header: a word, one space, what it says
unfoldable pub head_line_text : List ℕ → List ℕ → List ℕ
head_line_text word value = word ++ (space ∷ (value ++ (newline ∷ [])))

-- "Corners are 0, cellsize is D as a whole number, NODATA is -9999"
unfoldable pub head_text : Shape → ℕ → List ℕ
head_text shape D =
    head_line_text (bytes_of "ncols") (decimal shape.columns)
    ++ (head_line_text (bytes_of "nrows") (decimal shape.rows)
    ++ (head_line_text (bytes_of "xllcorner") (decimal 0)
    ++ (head_line_text (bytes_of "yllcorner") (decimal 0)
    ++ (head_line_text (bytes_of "cellsize") (decimal D) ++ head_line_text (bytes_of "NODATA_value") no_data))))

-- a square: "-9999 .. stands exactly at closed squares"; a newline after the last of a row, else one space
unfoldable pub entry_text : Scale → ℕ → List ℕ → List ℕ → ℕ → List ℕ
entry_text k columns marks values i =
    pick (closed marks i) no_data (amount_text k (get_or values i 0)) ++ (pick (last_in_row columns i) newline space ∷ [])

-- a grid of squares of D metres: "then rows from the north", which is the squares' order
unfoldable pub grid_text : Scale → Shape → List ℕ → List ℕ → ℕ → List ℕ
grid_text k shape marks values D = head_text shape D ++ joined (squares shape) (entry_text k shape.columns marks values)

-- ---- as it is read: "one or more spaces and fewer decimals"

-- how many spaces a text begins with; the position after those at p
unfoldable pub spaces_of : List ℕ → ℕ
spaces_of [] = 0
spaces_of (b ∷ rest) = pick (eqb b space) (suc (spaces_of rest)) 0

unfoldable pub past_spaces : List ℕ → ℕ → ℕ
past_spaces s p = p + spaces_of (drop p s)

-- a number, and then the end of the line
unfoldable pub line_end_after : List ℕ → Option Number → Option Number
line_end_after s v = with_number v None (λ n q. pick (is_byte s q newline) (number n (q + 1)) None)

-- a line of the header at p: its word, one or more spaces, what `value` reads, the end of the line
unfoldable pub head_line : List ℕ → ℕ → List ℕ → (ℕ → Option Number) → Option Number
head_line s p word value =
    pick (word_at s p word && is_byte s (p + length word) space) (line_end_after s (value (past_spaces s (p + length word)))) None

-- "a corner other than 0 is 12"
unfoldable pub only_zero : Option Number → Option Number
only_zero v = with_number v None (λ n q. pick (eqb n 0) (number n q) None)

-- `-9999` at p as a number is read, 0 standing for it
unfoldable pub no_data_at : List ℕ → ℕ → Option Number
no_data_at s p = pick (word_at s p no_data) (number 0 (p + length no_data)) None

-- the six lines in their order, or where the first stands that cannot be read
unfoldable pub head_of : List ℕ → Result Head ℕ
head_of s =
    with_number (head_line s 0 (bytes_of "ncols") (amount_at Whole s)) (Err 0) (λ columns a.
    with_number (head_line s a (bytes_of "nrows") (amount_at Whole s)) (Err a) (λ rows b.
    with_number (only_zero (head_line s b (bytes_of "xllcorner") (amount_at Metres s))) (Err b) (λ x c.
    with_number (only_zero (head_line s c (bytes_of "yllcorner") (amount_at Metres s))) (Err c) (λ y d.
    with_number (head_line s d (bytes_of "cellsize") (amount_at Whole s)) (Err d) (λ D e.
    with_number (head_line s e (bytes_of "NODATA_value") (no_data_at s)) (Err e) (λ z f.
    Ok (record { shape = record { rows = rows; columns = columns }; side = D; next = f })))))))

-- a header that was read; for one that was not, one of no squares, from where the reading stopped
abbrev pub head_or : Result Head ℕ → Head
head_or (Ok h) = h
head_or (Err p) = record { shape = record { rows = 0; columns = 0 }; side = 0; next = p }

abbrev pub head_in : List ℕ → Head
head_in s = head_or (head_of s)

-- a square's number, which is 0 where it is closed or cannot be read; whether it is closed; where the next one starts, after one at p
abbrev pub value_of : Option Entry → ℕ
value_of (Some e) = unwrap_or e.value 0
value_of None = 0

abbrev pub is_shut : Option Entry → Bool
is_shut (Some e) = is_none e.value
is_shut None = false

abbrev pub next_of : ℕ → Option Entry → ℕ
next_of p (Some e) = e.next
next_of p None = p

-- what stands at p for a square, `-9999` or a number, without what parts it from the next
unfoldable pub bare_entry : Scale → List ℕ → ℕ → Option Entry
bare_entry k s p =
    pick (word_at s p no_data) (Some (record { value = None; next = p + length no_data }))
    (with_number (amount_at k s p) None (λ n q. Some (record { value = Some n; next = q })))

-- after what ends at q: a newline where it is the last of its row, else one or more spaces; q itself where they are not there
unfoldable pub past_gap : List ℕ → Bool → ℕ → ℕ
past_gap s last q = pick last (pick (is_byte s q newline) (q + 1) q) (past_spaces s q)

-- a square that was read, with what parts it from the next
unfoldable pub parted : List ℕ → Bool → Option Entry → Option Entry
parted s last (Some e) =
    pick (ltb e.next (past_gap s last e.next)) (Some (record { value = e.value; next = past_gap s last e.next })) None
parted s last None = None

abbrev pub entry_at : Scale → List ℕ → ℕ → Bool → Option Entry
entry_at k s p last = parted s last (bare_entry k s p)

-- the squares one after the other, the first at p: where square i starts, and what it says
module _ (k : Scale) (s : List ℕ) (p columns : ℕ) where
  unfoldable pub place_from : ℕ → ℕ
  place_from zero = p
  place_from (suc i) = next_of (place_from i) (entry_at k s (place_from i) (last_in_row columns i))

  abbrev pub entry_from : ℕ → Option Entry
  entry_from i = entry_at k s (place_from i) (last_in_row columns i)

-- ---- a grid as a whole

-- the line, from 1, that position p stands in
unfoldable pub line_number : List ℕ → ℕ → ℕ
line_number s p = 1 + sum_below p (λ i. pick (is_byte s i newline) 1 0)

module _ (k : Scale) (s : List ℕ) where
  -- what the grid says of square i
  abbrev pub entry_of : ℕ → Option Entry
  entry_of = entry_from k s (head_in s).next (head_in s).shape.columns

  -- how many squares can be read, and where the reading stops
  abbrev pub squares_read : ℕ
  squares_read = first_failing (squares (head_in s).shape) (λ i. is_some (entry_of i))

  abbrev pub stops_at : ℕ
  stops_at = place_from k s (head_in s).next (head_in s).shape.columns squares_read

  -- "text that can't be read .. is 12 with its line": 0 where header and squares are there and nothing after them, else where it stops
  unfoldable pub grid_bad : ℕ
  grid_bad =
      pick (is_ok (head_of s) && (leb (squares (head_in s).shape) squares_read && leb (length s) stops_at)) 0 (line_number s stops_at)

-- ---- what the public functions give

abbrev pub HeadRead : List ℕ → Result Head ℕ → Type 0
HeadRead s r = r ≡ head_of s

abbrev pub EntryRead : Scale → List ℕ → ℕ → Bool → Option Entry → Type 0
EntryRead k s p last r = r ≡ entry_at k s p last

abbrev pub GridJudged : Scale → List ℕ → ℕ → Type 0
GridJudged k s r = r ≡ grid_bad k s

abbrev pub PutGrid : Scale → Shape → List ℕ → List ℕ → ℕ → ℕ → List ℕ → List ℕ → ℕ → Type 0
PutGrid k shape marks values D at old new r = Wrote (grid_text k shape marks values D) at old new r
