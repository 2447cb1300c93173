-- Document 02, #114: "Standard input gives a depth on its first line, then up to 200 sheets' file names, one a line".
-- Assumes nothing.
use Rattle.std.specs.Prelude.{◌≡◌, Bool, true, false, List, [], ◌∷◌, ℕ, suc, ◌+◌, leb, eqb, length, drop}
use Rattle.reckon.specs.Tests.{pick, ◌unless◌, refusal}
use Rattle.reckon.specs.Ranges.{most_depth}
use Rattle.text.specs.Reading.{number_at, with_number, is_byte, newline}
use Rattle.programs.specs.Program.{most_text}
use Rattle.lists.specs.declared.names.Listed.{Listed}

abbrev pub most_sheets : ℕ
most_sheets = 200

-- how many lines a text has, a last one without its newline counted; `begun`: some bytes of a line have passed
unfoldable pub lines_in : Bool → List ℕ → ℕ
lines_in begun [] = pick begun 1 0
lines_in begun (b ∷ rest) = pick (eqb b newline) (suc (lines_in false rest)) (lines_in true rest)

-- from a position on
abbrev pub names_from : List ℕ → ℕ → ℕ
names_from s p = lines_in false (drop p s)

-- "a first line that can't be read is 12, line 1"; a list of too many bytes 12, line 0
abbrev pub list_refused : ℕ → Listed
list_refused line = record { number = 12; line = line; wet = 0; names = 0 }

-- "a depth out of range is 5; over 200 sheets is 16"
unfoldable pub list_number : ℕ → ℕ → ℕ
list_number wet names = refusal (5 unless leb wet most_depth ∷ 16 unless leb names most_sheets ∷ [])

-- the first line is a number and its newline; the names are the lines after it
unfoldable pub list_after : List ℕ → ℕ → ℕ → Listed
list_after s wet q =
    pick (is_byte s q newline) (record { number = list_number wet (names_from s (q + 1)); line = 0; wet = wet; names = names_from s (q + 1) })
    (list_refused 1)

unfoldable pub listed : List ℕ → Listed
listed s = pick (leb (length s) most_text) (with_number (number_at s 0) (list_refused 1) (list_after s)) (list_refused 0)

-- ---- what the public function gives

abbrev pub ListRead : List ℕ → Listed → Type 0
ListRead s r = r ≡ listed s
