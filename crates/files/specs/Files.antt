-- Document 02, #107, #104 and #114: what has come into a lent room of a file, of which the system alone knows what it holds.
-- Assumes nothing.
use Rattle.std.specs.Prelude.{◌≡◌, Bool, true, false, List, ℕ, ◌-◌, ◌≤◌, ◌<◌, length, take, drop}
use Rattle.text.specs.Reading.{line_from}
use Rattle.text.specs.Lines.{nth_line}
use Rattle.files.specs.declared.Came.{Came}
use Rattle.files.specs.declared.Two.{Two}

-- the most bytes of a name that the system takes
abbrev pub most_name : ℕ
most_name = 4_095

-- "a file that can't be opened"
abbrev pub not_read : Came
not_read = record { whole = false; length = 0 }

-- so many bytes came to the start of a room, and the rest of it stays; `counted` follows from `within` and is what `&room[..n]` asks
pub record InputCame (old new : List ℕ) (r : Came) : Type 0 where
  pub long : length new ≡ length old
  pub within : r.length ≤ length new
  pub counted : r.length ≡ length (take r.length new)
  pub rest : drop r.length new ≡ drop r.length old

-- of a name that is too long nothing is read
pub record FileCame (name old new : List ℕ) (r : Came) : Type 0 where
  pub came : InputCame old new r
  pub too_long : most_name < length name → r ≡ not_read

-- the name is line k of a list, "one a line", and its newline ends it
pub record NamedCame (names : List ℕ) (k : ℕ) (old new : List ℕ) (r : Came) : Type 0 where
  pub came : InputCame old new r
  pub too_long : most_name < (nth_line names k).to - (nth_line names k).from → r ≡ not_read
  pub no_newline : (nth_line names k).ended ≡ false → r ≡ not_read

-- so many bytes of a room, as `InputCame` says it
abbrev pub HandedOn : List ℕ → List ℕ → ℕ → Type 0
HandedOn old new n = InputCame old new (record { whole = true; length = n })

-- the file of name k of just so many: the whole room is told where a line follows them, and where the file did not come whole
pub record OneCame (names : List ℕ) (k of : ℕ) (old new : List ℕ) (r : ℕ) : Type 0 where
  pub came : HandedOn old new r
  pub more : line_from names 0 of < length names → r ≡ length new
  pub no_newline : (nth_line names k).ended ≡ false → r ≡ length new
  pub too_long : most_name < (nth_line names k).to - (nth_line names k).from → r ≡ length new

pub record TwoCame (old new old' new' : List ℕ) (r : Two) : Type 0 where
  pub first : HandedOn old new r.first
  pub second : HandedOn old' new' r.second

-- a file whose name is line k of a list is not written where the name is too long or has no newline
pub record NamedWritten (names : List ℕ) (k : ℕ) (r : Bool) : Type 0 where
  pub too_long : most_name < (nth_line names k).to - (nth_line names k).from → r ≡ false
  pub no_newline : (nth_line names k).ended ≡ false → r ≡ false
