-- Document 01, "The sheet and its program": the kinds of line, each with its fields in their order.
-- Assumes nothing.
use Rattle.std.specs.Prelude.{List, [], ◌∷◌, ◌++◌, ℕ, zero, suc, ◌+◌, eqb, length, get_or, Option, Some, None, option_map}
use Rattle.reckon.specs.Tests.{pick}
use Rattle.text.specs.Reading.{tab, newline, is_byte, word_at, fields_at, rest_of_line, line_of}
use Rattle.text.specs.declared.reading.Fields.{Fields}
use Rattle.sheet.specs.declared.lines.GridLine.{GridLine}
use Rattle.sheet.specs.declared.lines.RunLine.{RunLine}
use Rattle.sheet.specs.declared.lines.CellLine.{CellLine}
use Rattle.text.specs.Writing.{fields_text}

-- the words that lines begin with
abbrev pub grid_word : List ℕ
grid_word = 103 ∷ 114 ∷ 105 ∷ 100 ∷ []

abbrev pub run_word : List ℕ
run_word = 114 ∷ 117 ∷ 110 ∷ []

abbrev pub cell_word : List ℕ
cell_word = 99 ∷ 101 ∷ 108 ∷ 108 ∷ []

abbrev pub rain_word : List ℕ
rain_word = 114 ∷ 97 ∷ 105 ∷ 110 ∷ []

abbrev pub inflow_word : List ℕ
inflow_word = 105 ∷ 110 ∷ 102 ∷ 108 ∷ 111 ∷ 119 ∷ []

-- "`grid` rows columns D"
abbrev pub grid_fields : ℕ
grid_fields = 3

unfoldable pub as_grid : Fields → GridLine
as_grid f =
    record {
      shape = record { rows = get_or f.values 0 0; columns = get_or f.values 1 0 };
      side = get_or f.values 2 0;
      next = f.next;
    }

unfoldable pub grid_line : List ℕ → Option GridLine
grid_line s = option_map as_grid (line_of s 0 grid_word grid_fields)

-- "`run` q shortest longest U end", and document 02's "e as its last field" (#102) and "the edition, 1 to 3, as its last field" (#113); D is told by line 1
abbrev pub run_fields : ℕ
run_fields = 7

unfoldable pub as_run : ℕ → Fields → RunLine
as_run D f =
    record {
      rules =
          record {
            square_side = D;
            tolerance = get_or f.values 0 0;
            shortest = get_or f.values 1 0;
            longest = get_or f.values 2 0;
            update = get_or f.values 3 0;
            edge = get_or f.values 5 0;
            edition = get_or f.values 6 0;
          };
      end = get_or f.values 4 0;
      next = f.next;
    }

unfoldable pub run_line : List ℕ → ℕ → ℕ → Option RunLine
run_line s p D = option_map (as_run D) (line_of s p run_word run_fields)

-- "an `x` line ends after its mark"
unfoldable pub closed_cell : List ℕ → ℕ → Option CellLine
closed_cell s p =
    pick (is_byte s p newline) (Some (record { mark = 0; bed = 0; roughness = 0; depth = 0; rate = 0; next = p + 1 })) None

-- "bed, roughness, depth", and "the rate at its end" (document 02, #106)
abbrev pub open_fields : ℕ
open_fields = 4

unfoldable pub as_open : ℕ → Fields → CellLine
as_open mark f =
    record {
      mark = mark;
      bed = get_or f.values 0 0;
      roughness = get_or f.values 1 0;
      depth = get_or f.values 2 0;
      rate = get_or f.values 3 0;
      next = f.next;
    }

unfoldable pub open_cell : List ℕ → ℕ → ℕ → Option CellLine
open_cell s p mark = option_map (as_open mark) (rest_of_line s p open_fields)

-- "mark `x`, `o` or `e`", after its tab; "mark: 0 closed, 1 open, 2 exit"
abbrev pub x_letter : ℕ
x_letter = 120

abbrev pub o_letter : ℕ
o_letter = 111

abbrev pub e_letter : ℕ
e_letter = 101

unfoldable pub marked_cell : List ℕ → ℕ → Option CellLine
marked_cell s p =
    pick (is_byte s p tab)
    (pick (is_byte s (p + 1) x_letter) (closed_cell s (p + 2))
    (pick (is_byte s (p + 1) o_letter) (open_cell s (p + 2) 1) (pick (is_byte s (p + 1) e_letter) (open_cell s (p + 2) 2) None)))
    None

-- "row, column (from 0)": those of the square whose line it is
abbrev pub place_fields : ℕ
place_fields = 2

unfoldable pub placed_cell : List ℕ → ℕ → ℕ → Option Fields → Option CellLine
placed_cell s row column (Some f) =
    pick (eqb (get_or f.values 0 0) row) (pick (eqb (get_or f.values 1 0) column) (marked_cell s f.next) None) None
placed_cell s row column None = None

-- "`cell` .. row, column (from 0), mark, bed, roughness, depth", and the soak rate
unfoldable pub cell_line : List ℕ → ℕ → ℕ → ℕ → Option CellLine
cell_line s p row column =
    pick (word_at s p cell_word) (placed_cell s row column (fields_at s (p + length cell_word) place_fields)) None

-- "mark `x`, `o` or `e`": the letter of a mark, "0 closed, 1 open, 2 exit"; there is no other mark, and no other letter
unfoldable pub letter_of : ℕ → ℕ
letter_of zero = x_letter
letter_of (suc zero) = o_letter
letter_of (suc (suc zero)) = e_letter
letter_of (suc (suc (suc mark))) = 0

-- what the line of a square begins with: "`cell` .. row, column (from 0), mark"
abbrev pub line_head : ℕ → ℕ → ℕ → List ℕ
line_head row column mark = cell_word ++ (fields_text (row ∷ column ∷ []) ++ (tab ∷ letter_of mark ∷ []))
