-- Document 02, #107, "The hatch log": the kinds of line of a log, each with its fields in their order.
-- Assumes nothing.
use Rattle.std.specs.Prelude.{◌≡◌, List, [], ◌∷◌, ℕ, get_or, Some, None}
use Rattle.text.specs.Reading.{Reading, number_at, with_number, before, read_rest, read_line}
use Rattle.text.specs.Reading.Reading.{read, unread}
use Rattle.hatches.specs.declared.lines.Entry.{Entry}
use Rattle.hatches.specs.declared.lines.Entry.TheVariants.{Hatch, Rate, Back}
use Rattle.hatches.specs.declared.lines.LogLine.{LogLine}

-- the words that lines begin with
abbrev pub hatch_word : List ℕ
hatch_word = 104 ∷ 97 ∷ 116 ∷ 99 ∷ 104 ∷ []

abbrev pub back_word : List ℕ
back_word = 98 ∷ 97 ∷ 99 ∷ 107 ∷ []

-- "lines `hatch`, number (1 to 9), row, column"
abbrev pub hatch_fields : ℕ
hatch_fields = 3

abbrev pub as_hatch : List ℕ → Entry
as_hatch vs = Hatch (get_or vs 0 0) (get_or vs 1 0) (get_or vs 2 0)

-- "A line `back`, count"
abbrev pub back_fields : ℕ
back_fields = 1

abbrev pub as_back : List ℕ → Entry
as_back vs = Back (get_or vs 0 0)

-- "lines of clock, hatch number, litres per second": the clock stands where other lines have their word
abbrev pub rate_fields : ℕ
rate_fields = 2

unfoldable pub read_rate : List ℕ → ℕ → Reading
read_rate s p = with_number (number_at s p) unread (λ clock q. before (clock ∷ []) (read_rest s q rate_fields))

abbrev pub as_rate : List ℕ → Entry
as_rate vs = Rate (get_or vs 0 0) (get_or vs 1 0) (get_or vs 2 0)

-- what a reading says, or else another line
abbrev pub entry_from : Reading → (List ℕ → Entry) → LogLine → LogLine
entry_from (read vs q) make other = record { entry = Some (make vs); next = q }
entry_from unread make other = other

-- "a log line that can't be read": it ends the log
abbrev pub unread_at : ℕ → LogLine
unread_at p = record { entry = None; next = p }

-- the line at p, and where the next one starts
unfoldable pub log_line : List ℕ → ℕ → LogLine
log_line s p =
    entry_from (read_line s p hatch_word hatch_fields) as_hatch
    (entry_from (read_line s p back_word back_fields) as_back (entry_from (read_rate s p) as_rate (unread_at p)))

-- ---- what the public function gives

abbrev pub LineRead : List ℕ → ℕ → LogLine → Type 0
LineRead s p r = r ≡ log_line s p
