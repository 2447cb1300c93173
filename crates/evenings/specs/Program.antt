-- Document 02, #107, "The hatch log": the log as a whole, what the program prints of two texts, and its rooms from line to line.
-- Assumes nothing.
use Rattle.std.specs.Prelude.{◌≡◌, Bool, false, List, [], ◌∷◌, ◌++◌, ℕ, zero, suc, ◌+◌, ◌-◌, ◌*◌, eqb, leb, ltb, length, take, drop, replicate}
use Rattle.reckon.specs.Tests.{pick, every}
use Rattle.reckon.specs.Ranges.{most_table_rows}
use Rattle.reckon.specs.Tables.{rain_kind, inflow_kind}
use Rattle.grid.specs.Squares.{squares, shape_fine}
use Rattle.ledger.specs.Runs.{Plan, plan}
use Rattle.ledger.specs.Record.{record_size}
use Rattle.checks.specs.Given.{Given, ground, given}
use Rattle.checks.specs.Fresh.{fresh_run}
use Rattle.sheet.specs.Sheet.{Rooms, plan_in, given_in, no_lasts, said, sheet_of, rooms_after}
use Rattle.sheet.specs.declared.reading.Heading.{Heading}
use Rattle.sheet.specs.declared.reading.Sheet.{Sheet}
use Rattle.sheet.specs.declared.reading.Sheet.TheVariants.{Read, Refused}
use Rattle.answer.specs.Printed.{refused_text}
use Rattle.programs.specs.Program.{Prints, most_text, program_rooms, program_squares}
use Rattle.hatches.specs.Lines.{log_line}
use Rattle.hatches.specs.Log.{Evening, evening, most_hatches, most_kept, most_numbers, kept_records, opened}
use Rattle.evenings.specs.Taking.{read_number, after_read}
use Rattle.evenings.specs.Shown.{line_shown}
use Rattle.hatches.specs.declared.log.Log.{Log}
use Rattle.evenings.specs.declared.program.Night.{Night}

-- ---- what the program prints

module _ (p : Plan) (g : Given) (s : List ℕ) where
  -- "takes log lines in turn", from the line at a position on, at most so many more (each has a byte or more); "A refusal ends the output"
  unfoldable pub lines_text : ℕ → ℕ → ℕ → Evening → List ℕ
  lines_text zero at line e = []
  lines_text (suc most) at line e =
      pick (ltb at (length s))
      (line_shown p g s at line e
      ++ pick (eqb (read_number p g e (log_line s at).entry) 0)
      (lines_text most (log_line s at).next (line + 1) (after_read p g e (log_line s at).entry)) [])
      []

  -- the lines from a position on
  abbrev pub lines_from : ℕ → ℕ → Evening → List ℕ
  lines_from at line e = lines_text (length s - at) at line e

-- the log before its first line: a fresh run with so many records kept
abbrev pub first_log : Heading → Log
first_log h = opened (fresh_run h.rules (kept_records (plan h.shape [])))

-- the evening before it, by what rooms hold: "The program keeps as many records as 16,384 numbers hold, at most 64"
abbrev pub first_evening : Heading → Rooms → Evening
first_evening h held =
    evening held.cells.depths (no_lasts h.shape h.rules held) (replicate (kept_records (plan h.shape []) * record_size (plan h.shape [])) 0)
    (replicate (kept_records (plan h.shape []) * most_hatches) 0) (first_log h)

-- "The sheet's end is not used"
unfoldable pub sheet_log_text : List ℕ → List ℕ → Sheet → List ℕ
sheet_log_text sheet log (Refused number line) = refused_text number line
sheet_log_text sheet log (Read h) =
    lines_from (plan_in h.shape h.rules (said sheet)) (given_in h.shape h.rules (said sheet)) log 0 1 (first_evening h (said sheet))

-- of two files that were opened, each with `meadow`'s limit; more: 12, line 0
unfoldable pub hatchlog_text : List ℕ → List ℕ → List ℕ
hatchlog_text sheet log =
    pick (leb (length sheet) most_text)
    (pick (leb (length log) most_text) (sheet_log_text sheet log (sheet_of sheet program_rooms)) (refused_text 12 0)) (refused_text 12 0)

-- ---- the rooms of the program

pub record Stores : Type 0 where
  pub sheet : Rooms
  pub lasts : List ℕ
  pub records : List ℕ
  pub began : List ℕ

abbrev pub stores : Rooms → List ℕ → List ℕ → List ℕ → Stores
stores r l c b = record { sheet = r; lasts = l; records = c; began = b }

-- what of each is lent to a line: a number a square, the rows read, as many records as are kept and as many slots of rates
module _ (h : Heading) where
  abbrev pub records_lent : ℕ
  records_lent = kept_records (plan h.shape []) * record_size (plan h.shape [])

  abbrev pub rates_lent : ℕ
  rates_lent = kept_records (plan h.shape []) * most_hatches

  module _ (r : Stores) where
    abbrev pub plan_held : Plan
    plan_held = plan h.shape (take (squares h.shape) r.sheet.cells.marks)

    abbrev pub given_held : Given
    given_held =
        given
        (ground h.rules (take (squares h.shape) r.sheet.cells.beds) (take (squares h.shape) r.sheet.cells.roughness)
        (take (squares h.shape) r.sheet.cells.rates))
        (take (rain_kind.width * h.rain_rows) r.sheet.rain) (take (inflow_kind.width * h.inflow_rows) r.sheet.inflow)

    abbrev pub evening_held : Log → Evening
    evening_held log =
        evening (take (squares h.shape) r.sheet.cells.depths) (take (squares h.shape) r.lasts) (take records_lent r.records)
        (take rates_lent r.began) log

-- the first numbers of a room are these, "the rest of it stays"
pub record Holds (n : ℕ) (part old new : List ℕ) : Type 0 where
  pub first : take n new ≡ part
  pub rest : drop n new ≡ drop n old
  pub long : length new ≡ length old

-- ---- one line more

-- whether a line is left
unfoldable pub is_left : List ℕ → Night → Bool
is_left s n = every (n.more ∷ ltb n.at (length s) ∷ [])

-- 1, of what is lent: the sizes that a night tells are those of a sheet that was read, and the rooms hold as much
unfoldable pub night_fine : Night → Bool
night_fine n =
    every
    (shape_fine n.heading.shape
    ∷ leb (squares n.heading.shape) program_squares
    ∷ leb n.heading.rain_rows most_table_rows
    ∷ leb n.heading.inflow_rows most_table_rows
    ∷ leb n.line (n.at + 1)
    ∷ [])

unfoldable pub rooms_fit : Heading → Stores → Bool
rooms_fit h r =
    every
    (leb (squares h.shape) (length r.sheet.cells.marks)
    ∷ leb (squares h.shape) (length r.sheet.cells.beds)
    ∷ leb (squares h.shape) (length r.sheet.cells.roughness)
    ∷ leb (squares h.shape) (length r.sheet.cells.rates)
    ∷ leb (rain_kind.width * h.rain_rows) (length r.sheet.rain)
    ∷ leb (inflow_kind.width * h.inflow_rows) (length r.sheet.inflow)
    ∷ leb (squares h.shape) (length r.sheet.cells.depths)
    ∷ leb (squares h.shape) (length r.lasts)
    ∷ leb (records_lent h) (length r.records)
    ∷ leb (rates_lent h) (length r.began)
    ∷ [])

unfoldable pub night_fits : Night → Stores → Bool
night_fits n r = every (night_fine n ∷ rooms_fit n.heading r ∷ [])

-- no line is left, and so many bytes are to be printed
abbrev pub night_over : Night → ℕ → Night
night_over n long = record { more = false; at = n.at; line = n.line; length = long; heading = n.heading; log = n.log }

module _ (s : List ℕ) (n : Night) (r : Stores) where
  abbrev pub night_number : ℕ
  night_number = read_number (plan_held n.heading r) (given_held n.heading r) (evening_held n.heading r n.log) (log_line s n.at).entry

  abbrev pub night_evening : Evening
  night_evening = after_read (plan_held n.heading r) (given_held n.heading r) (evening_held n.heading r n.log) (log_line s n.at).entry

  abbrev pub night_line : List ℕ
  night_line = line_shown (plan_held n.heading r) (given_held n.heading r) s n.at n.line (evening_held n.heading r n.log)

  -- what is printed of it, the evening after it, and where the log has come to
  unfoldable pub text_after : List ℕ
  text_after = pick (is_left s n) (pick (night_fits n r) night_line (refused_text 1 0)) []

  unfoldable pub evening_after : Evening
  evening_after = pick (is_left s n) (pick (night_fits n r) night_evening (evening_held n.heading r n.log)) (evening_held n.heading r n.log)

  abbrev pub night_next : Night
  night_next =
      record {
        more = every (eqb night_number 0 ∷ ltb (log_line s n.at).next (length s) ∷ []);
        at = (log_line s n.at).next;
        line = n.line + 1;
        length = length night_line;
        heading = n.heading;
        log = night_evening.log;
      }

  unfoldable pub night_after : Night
  night_after = pick (is_left s n) (pick (night_fits n r) night_next (night_over n (length (refused_text 1 0)))) (night_over n 0)

-- ---- the beginning

abbrev pub first_night : Heading → ℕ → Night
first_night h long = record { more = ltb 0 long; at = 0; line = 1; length = 0; heading = h; log = first_log h }

-- of a refusal: nothing but the bytes to be printed
abbrev pub no_heading : Heading
no_heading =
    record {
      shape = record { rows = 0; columns = 0 };
      rules = record { square_side = 0; tolerance = 0; shortest = 0; longest = 0; update = 0; edge = 0; edition = 0 };
      end = 0;
      rain_rows = 0;
      inflow_rows = 0;
    }

abbrev pub no_night : ℕ → Night
no_night long =
    record {
      more = false;
      at = 0;
      line = 0;
      length = long;
      heading = no_heading;
      log = opened (record { clock = 0; length = 0; outflow = 0; kept = 0; newest = 0; soaked = 0 });
    }

unfoldable pub sheet_begun : ℕ → Sheet → Night
sheet_begun long (Read h) = first_night h long
sheet_begun long (Refused number line) = no_night (length (refused_text number line))

unfoldable pub sheet_begun_text : Sheet → List ℕ
sheet_begun_text (Read h) = []
sheet_begun_text (Refused number line) = refused_text number line

module _ (sheet log : List ℕ) where
  -- where neither text is too long
  abbrev pub within : {A : Type 0} → A → A → A
  within a b = pick (leb (length sheet) most_text) (pick (leb (length log) most_text) a b) b

  unfoldable pub begun : Night
  begun = within (sheet_begun (length log) (sheet_of sheet program_rooms)) (no_night (length (refused_text 12 0)))

  unfoldable pub begun_text : List ℕ
  begun_text = within (sheet_begun_text (sheet_of sheet program_rooms)) (refused_text 12 0)

  -- the rooms are cleared, and then the sheet's are filled
  unfoldable pub begun_stores : Stores
  begun_stores =
      stores (within (rooms_after sheet (sheet_of sheet program_rooms) program_rooms) program_rooms) (replicate program_squares 0) (replicate most_numbers 0)
      (replicate (most_kept * most_hatches) 0)

-- ---- what the public functions give

-- a room with 0 written over it
abbrev pub Cleared : List ℕ → List ℕ → Type 0
Cleared old new = new ≡ replicate (length old) 0

pub record Begins (sheet log : List ℕ) (a : Night) (after : Stores) (old new : List ℕ) : Type 0 where
  pub begun_is : a ≡ begun sheet log
  pub stores_are : after ≡ begun_stores sheet log
  pub prints : Prints (begun_text sheet log) old new a.length

-- of depths, last leaving, records and rates
pub record GoesOn (s : List ℕ) (n : Night) (r : Stores) (a : Night) (depths lasts records began old new : List ℕ) : Type 0 where
  pub night_is : a ≡ night_after s n r
  pub depths_are : Holds (squares n.heading.shape) (evening_after s n r).depths r.sheet.cells.depths depths
  pub lasts_are : Holds (squares n.heading.shape) (evening_after s n r).lasts r.lasts lasts
  pub records_are : Holds (records_lent n.heading) (evening_after s n r).records r.records records
  pub began_are : Holds (rates_lent n.heading) (evening_after s n r).began r.began began
  pub prints : Prints (text_after s n r) old new a.length
