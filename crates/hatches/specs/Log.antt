-- Document 02, #107, "The hatch log": what a log's lines change, and when a line is refused.
-- Assumes nothing.
use Rattle.std.specs.Prelude.{◌≡◌, Bool, true, false, not, List, [], ◌∷◌, ◌++◌, ℕ, zero, suc, ◌+◌, ◌-◌, ◌/◌, ◌%◌, min, eqb, leb, ltb, length, get_or, set, replicate, Option, Some, None}
use Rattle.reckon.specs.Tests.{pick, every, Row, ◌unless◌, refusal}
use Rattle.reckon.specs.Lists.{joined}
use Rattle.reckon.specs.Ranges.{last_clock, most_litres}
use Rattle.reckon.specs.Tables.{inflow_kind, table_room}
use Rattle.trials.specs.Ring.{slots_in, slot_after, slot_ago}
use Rattle.trials.specs.Room.{record_in, stored_in}
use Rattle.grid.specs.Squares.{square_at, squares, shape_fine}
use Rattle.grid.specs.declared.squares.Shape.{Shape}
use Rattle.rule.specs.declared.rules.Rules.{Rules}
use Rattle.ledger.specs.Runs.{Plan, plan}
use Rattle.ledger.specs.Flows.{shut}
use Rattle.ledger.specs.Record.{record_size, room_slots}
use Rattle.ledger.specs.Checks.{one_each}
use Rattle.ledger.specs.declared.runs.Run.{Run}
use Rattle.checks.specs.Given.{Given}
use Rattle.programs.specs.Program.{program_squares}
use Rattle.hatches.specs.declared.lines.Entry.{Entry}
use Rattle.hatches.specs.declared.lines.Entry.TheVariants.{Hatch, Rate, Back}
use Rattle.hatches.specs.declared.log.Hatches.{Hatches}
use Rattle.hatches.specs.declared.log.Log.{Log}

-- ---- hatches and their rates

-- "up to nine lines `hatch`, number (1 to 9)": hatch n has the place n - 1 in each list
abbrev pub most_hatches : ℕ
most_hatches = 9

-- a number of 1 to 9, and a hatch that is named
abbrev pub is_number : ℕ → Bool
is_number n = every (leb 1 n ∷ leb n most_hatches ∷ [])

unfoldable pub is_named : Hatches → ℕ → Bool
is_named hs n = every (leb 1 n ∷ leb n most_hatches ∷ get_or hs.named (n - 1) false ∷ [])

-- "for each hatch, one row from 0 to 604,800,000 at the rate it has then"
unfoldable pub hatch_row : Hatches → List ℕ → ℕ → List ℕ
hatch_row hs litres h =
    pick (get_or hs.named h false) (get_or hs.rows h 0 ∷ get_or hs.columns h 0 ∷ 0 ∷ last_clock ∷ get_or litres h 0 ∷ []) []

unfoldable pub hatch_rows : Hatches → List ℕ → List ℕ
hatch_rows hs litres = joined most_hatches (hatch_row hs litres)

-- "A step's inflow table is the sheet's rows plus, for each hatch, one row"
abbrev pub table_with : List ℕ → Hatches → List ℕ → List ℕ
table_with inflow hs litres = inflow ++ hatch_rows hs litres

-- ---- the records kept, and the rates beside them

-- "The program keeps as many records as 16,384 numbers hold, at most 64"
abbrev pub most_numbers : ℕ
most_numbers = 16_384

abbrev pub most_kept : ℕ
most_kept = 64

unfoldable pub kept_records : Plan → ℕ
kept_records p = min most_kept (most_numbers / record_size p)

-- beside the record room a room of as many slots of nine rates: a step's rates lie in its record's slot. After so many steps, from one
-- newest slot on, that were made at these rates
unfoldable pub rates_kept : ℕ → ℕ → ℕ → List ℕ → List ℕ → List ℕ
rates_kept K zero newest litres began = began
rates_kept K (suc steps) newest litres began =
    rates_kept K steps (slot_after K newest) litres (stored_in most_hatches began (slot_after K newest) litres)

-- ---- what lines change

-- the lent lists, and the log's own value
pub record Evening : Type 0 where
  pub depths : List ℕ
  pub lasts : List ℕ
  pub records : List ℕ
  pub began : List ℕ
  pub log : Log

abbrev pub evening : List ℕ → List ℕ → List ℕ → List ℕ → Log → Evening
evening d l c b log = record { depths = d; lasts = l; records = c; began = b; log = log }

-- a log of which no line has been read: no hatch is named, and each runs at "0 before its first line"
abbrev pub opened : Run → Log
opened run =
    record {
      run = run;
      steps = 0;
      opening = true;
      hatches = record { named = replicate most_hatches false; rows = replicate most_hatches 0; columns = replicate most_hatches 0 };
      litres = replicate most_hatches 0;
    }

-- ---- when a line is refused

-- 12: "a log line that can't be read, a hatch not named or named twice, a clock not a multiple of U, above 604,800,000 or below the run's";
-- hatches are named where the log "opens"
unfoldable pub line_fine : Rules → Log → Entry → Bool
line_fine r log (Hatch n row column) = every (log.opening ∷ is_number n ∷ not (is_named log.hatches n) ∷ [])
line_fine r log (Rate clock n litres) =
    every (is_named log.hatches n ∷ eqb (clock % r.update) 0 ∷ leb clock last_clock ∷ leb log.run.clock clock ∷ [])
line_fine r log (Back count) = true

-- 1, of what is lent: document 01's "shape .. out of range, a slice not one number a square", `meadow`'s squares, and a room of rates with
-- fewer slots than the record room
unfoldable pub lent_fine : Plan → List ℕ → List ℕ → List ℕ → Bool
lent_fine p depths records began =
    every
    (shape_fine p.shape
    ∷ leb (squares p.shape) program_squares
    ∷ one_each p p.marks
    ∷ one_each p depths
    ∷ leb (room_slots p records) (slots_in most_hatches (length began))
    ∷ [])

-- 4: "a hatch on a closed or missing square, litres out of range, or over 64 rows with the hatches counted"
unfoldable pub draw_fine : Plan → List ℕ → Log → Entry → Bool
draw_fine p inflow log (Hatch n row column) =
    every
    (ltb row p.shape.rows
    ∷ ltb column p.shape.columns
    ∷ not (shut p (square_at p.shape row column))
    ∷ leb (length (table_with inflow log.hatches log.litres) + inflow_kind.width) (table_room inflow_kind)
    ∷ [])
draw_fine p inflow log (Rate clock n litres) =
    every (leb litres most_litres ∷ leb (length (table_with inflow log.hatches log.litres)) (table_room inflow_kind) ∷ [])
draw_fine p inflow log (Back count) = true

-- 6, of the log's value: as many steps stand as are kept, and each took a ms or more
unfoldable pub standing_fine : Log → Bool
standing_fine log = every (leb log.run.kept log.steps ∷ leb log.steps log.run.clock ∷ [])

-- 10: "too few kept steps is 10, with none of them taken back"
unfoldable pub kept_fine : Log → Entry → Bool
kept_fine log (Back count) = leb count log.run.kept
kept_fine log (Hatch n row column) = true
kept_fine log (Rate clock n litres) = true

-- "Each line is checked, 12 first, before its steps are made": then what is lent and the line's own, in document 01's order
unfoldable pub entry_refusals : Plan → Given → Evening → Entry → List Row
entry_refusals p g e entry =
    12 unless line_fine g.lie.rules e.log entry
    ∷ 1 unless lent_fine p e.depths e.records e.began
    ∷ 4 unless draw_fine p g.inflow e.log entry
    ∷ 6 unless standing_fine e.log
    ∷ 10 unless kept_fine e.log entry
    ∷ []

-- the number that a line is refused with: "a log line that can't be read" is 12
abbrev pub line_refusal : Plan → Given → Evening → Option Entry → ℕ
line_refusal p g e (Some entry) = refusal (entry_refusals p g e entry)
line_refusal p g e None = 12

-- ---- a log after a line

-- a hatch named
abbrev pub hatch_named : Log → ℕ → ℕ → ℕ → Log
hatch_named log n row column =
    record {
      run = log.run;
      steps = log.steps;
      opening = true;
      hatches =
          record {
            named = set log.hatches.named (n - 1) true;
            rows = set log.hatches.rows (n - 1) row;
            columns = set log.hatches.columns (n - 1) column;
          };
      litres = log.litres;
    }

-- another run, steps standing and rates; the opening is over
abbrev pub log_with : Log → Run → ℕ → List ℕ → Log
log_with log run steps litres = record { run = run; steps = steps; opening = false; hatches = log.hatches; litres = litres }

-- "with hatch rates as they stood when the earliest of those steps began (0 changes nothing)": of so many slots of rates, from the newest back
unfoldable pub rates_back : ℕ → List ℕ → Log → ℕ → List ℕ
rates_back slots began log zero = log.litres
rates_back slots began log (suc n) = record_in most_hatches began (slot_ago slots log.run.newest n)

-- ---- what the public functions give

abbrev pub KeptRecords : Shape → ℕ → Type 0
KeptRecords s r = r ≡ kept_records (plan s [])

abbrev pub Opened : Run → Log → Type 0
Opened run r = r ≡ opened run
