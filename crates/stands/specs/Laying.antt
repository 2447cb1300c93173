-- What the desk's `lay` reads: the lines that `stand` prints, what they say, and when they are refused.
-- Assumes nothing.
use Rattle.std.specs.Prelude.{◌≡◌, Bool, true, false, ◌||◌, not, List, [], ◌∷◌, ℕ, zero, suc, ◌+◌, ◌-◌, ◌*◌, eqb, leb, ltb, length, get_or, set, replicate, Option, Some, None, is_some}
use Rattle.reckon.specs.Tests.{pick, every, all_below, first_failing, ◌unless◌, refusal}
use Rattle.reckon.specs.Lists.{tabulate, filled, sum_below}
use Rattle.reckon.specs.Ranges.{most_litres}
use Rattle.reckon.specs.Tables.{inflow_kind, table_room}
use Rattle.grid.specs.Squares.{squares, square_at}
use Rattle.grid.specs.Marks.{closed}
use Rattle.ledger.specs.Runs.{Plan, run_fine}
use Rattle.ledger.specs.Flows.{shut}
use Rattle.ledger.specs.Checks.{waters_fine}
use Rattle.text.specs.Reading.{line_of}
use Rattle.text.specs.declared.reading.Fields.{Fields}
use Rattle.answer.specs.Printed.{out_word, soak_word}
use Rattle.hatches.specs.Lines.{hatch_word}
use Rattle.hatches.specs.Log.{most_hatches, table_with, standing_fine}
use Rattle.hatches.specs.declared.log.Hatches.{Hatches}
use Rattle.hatches.specs.declared.log.Log.{Log}
use Rattle.stands.specs.Texts.{stand_word, start_word, given_word, at_word, half}
use Rattle.stands.specs.declared.heads.Head.{Head}
use Rattle.stands.specs.declared.heads.StandLine.{StandLine}
use Rattle.stands.specs.declared.heads.TotalLine.{TotalLine}
use Rattle.stands.specs.declared.naming.Named.{Named}
use Rattle.stands.specs.declared.saved.Laid.{Laid}
use Rattle.stands.specs.declared.saved.Saved.{Saved}
use Rattle.stands.specs.declared.squares.SquareLine.{SquareLine}

-- ---- the lines before the hatches

-- "`stand` steps clock length opening", the last 0 or 1
abbrev pub first_fields : ℕ
first_fields = 4

unfoldable pub as_first : Option Fields → StandLine
as_first (Some f) =
    record {
      found = leb (get_or f.values 3 0) 1;
      steps = get_or f.values 0 0;
      clock = get_or f.values 1 0;
      length = get_or f.values 2 0;
      opening = eqb (get_or f.values 3 0) 1;
      next = f.next;
    }
as_first None = record { found = false; steps = 0; clock = 0; length = 0; opening = false; next = 0 }

unfoldable pub stand_line : List ℕ → StandLine
stand_line s = as_first (line_of s 0 stand_word first_fields)

-- a word, "high low"
abbrev pub total_fields : ℕ
total_fields = 2

unfoldable pub as_total : ℕ → Option Fields → TotalLine
as_total q (Some f) = record { found = true; value = get_or f.values 0 0 * half + get_or f.values 1 0; next = f.next }
as_total q None = record { found = false; value = 0; next = q }

unfoldable pub total_line : List ℕ → ℕ → List ℕ → TotalLine
total_line s q word = as_total q (line_of s q word total_fields)

-- all five: "the line" of a refusal 12 is counted from 1
module _ (s : List ℕ) where
  abbrev pub out_line : TotalLine
  out_line = total_line s (stand_line s).next out_word

  abbrev pub soak_line : TotalLine
  soak_line = total_line s out_line.next soak_word

  abbrev pub start_line : TotalLine
  start_line = total_line s soak_line.next start_word

  abbrev pub given_line : TotalLine
  given_line = total_line s start_line.next given_word

  unfoldable pub head_of : Head
  head_of =
      record {
        bad =
            refusal
            (1 unless (stand_line s).found
            ∷ 2 unless out_line.found
            ∷ 3 unless soak_line.found
            ∷ 4 unless start_line.found
            ∷ 5 unless given_line.found
            ∷ []);
        steps = (stand_line s).steps;
        clock = (stand_line s).clock;
        length = (stand_line s).length;
        opening = (stand_line s).opening;
        outflow = out_line.value;
        soaked = soak_line.value;
        start = start_line.value;
        given = given_line.value;
        next = given_line.next;
      }

-- ---- the hatches' lines

-- "`hatch` number row column litres"
abbrev pub hatch_fields : ℕ
hatch_fields = 4

-- a hatch named by a line's fields
abbrev pub hatch_added : Named → ℕ → Fields → Named
hatch_added n h f =
    record {
      hatches =
          record {
            named = set n.hatches.named h true;
            rows = set n.hatches.rows h (get_or f.values 1 0);
            columns = set n.hatches.columns h (get_or f.values 2 0);
          };
      litres = set n.litres h (get_or f.values 3 0);
      lines = n.lines + 1;
      next = f.next;
    }

-- where the next line has the number of place h, that hatch is named; else the line is left to what comes after
unfoldable pub if_hatch : Named → ℕ → Option Fields → Named
if_hatch n h (Some f) = pick (eqb (get_or f.values 0 0) (h + 1)) (hatch_added n h f) n
if_hatch n h None = n

unfoldable pub with_hatch : List ℕ → Named → ℕ → Named
with_hatch s n h = if_hatch n h (line_of s n.next hatch_word hatch_fields)

-- "by number": the hatches of the first so many places, their lines starting at q
unfoldable pub named_from : List ℕ → ℕ → ℕ → Named
named_from s q zero =
    record {
      hatches = record { named = replicate most_hatches false; rows = replicate most_hatches 0; columns = replicate most_hatches 0 };
      litres = replicate most_hatches 0;
      lines = 0;
      next = q;
    }
named_from s q (suc h) = with_hatch s (named_from s q h) h

-- all of them, after the first five lines
abbrev pub named_in : List ℕ → Named
named_in s = named_from s (head_of s).next most_hatches

-- ---- the squares' lines

-- a line that was read, or one of zeros; a closed square, which has none
abbrev pub square_or : Option SquareLine → SquareLine
square_or (Some line) = line
square_or None = record { depth = 0; last = 0; lines = 0; next = 0 }

unfoldable pub closed_square : ℕ → SquareLine
closed_square q = record { depth = 0; last = 0; lines = 0; next = q }

-- "`at` square depth last"
abbrev pub square_fields : ℕ
square_fields = 3

unfoldable pub as_square : ℕ → Option Fields → Option SquareLine
as_square i (Some f) =
    pick (eqb (get_or f.values 0 0) i)
    (Some (record { depth = get_or f.values 1 0; last = get_or f.values 2 0; lines = 1; next = f.next })) None
as_square i None = None

-- the line of square i at q
unfoldable pub square_line : List ℕ → ℕ → List ℕ → ℕ → Option SquareLine
square_line s q marks i = pick (closed marks i) (Some (closed_square q)) (as_square i (line_of s q at_word square_fields))

-- "one for each square not closed, in order": where that of square i starts, the first at q
unfoldable pub start_from : List ℕ → ℕ → List ℕ → ℕ → ℕ
start_from s q marks zero = q
start_from s q marks (suc i) = (square_or (square_line s (start_from s q marks i) marks i)).next

abbrev pub has_square : List ℕ → ℕ → List ℕ → ℕ → Bool
has_square s q marks i = is_some (square_line s (start_from s q marks i) marks i)

abbrev pub square_from : List ℕ → ℕ → List ℕ → ℕ → SquareLine
square_from s q marks i = square_or (square_line s (start_from s q marks i) marks i)

-- what it says
abbrev pub depth_from : List ℕ → ℕ → List ℕ → ℕ → ℕ
depth_from s q marks i = (square_from s q marks i).depth

abbrev pub last_from : List ℕ → ℕ → List ℕ → ℕ → ℕ
last_from s q marks i = (square_from s q marks i).last

-- how many of n squares stand before the first whose line cannot be read, and how many lines so many squares have
unfoldable pub squares_read : List ℕ → ℕ → List ℕ → ℕ → ℕ
squares_read s q marks n = first_failing n (has_square s q marks)

unfoldable pub lines_from : List ℕ → ℕ → List ℕ → ℕ → ℕ
lines_from s q marks n = sum_below n (λ i. (square_from s q marks i).lines)

-- ---- 12

-- the number of the line after the first five
abbrev pub sixth : ℕ
sixth = 6

-- "the line cannot be read", "a text left over": the number of the first such line, from 1, 0 where there is none
unfoldable pub bad_after : List ℕ → Plan → Head → Named → ℕ
bad_after s p a n =
    let count = squares_read s n.next p.marks (squares p.shape) in
    refusal
    (a.bad unless eqb a.bad 0
    ∷ (sixth + n.lines + lines_from s n.next p.marks count) unless
    every (leb (squares p.shape) count ∷ leb (length s) (start_from s n.next p.marks count) ∷ [])
    ∷ [])

abbrev pub bad_line : List ℕ → Plan → ℕ
bad_line s p = bad_after s p (head_of s) (named_in s)

-- ---- 3, 4 and 6

-- 3: "a depth or last leaving of a saved state"
unfoldable pub waters_read : List ℕ → ℕ → Plan → Bool
waters_read s q p =
    waters_fine p (tabulate (squares p.shape) (depth_from s q p.marks)) (tabulate (squares p.shape) (last_from s q p.marks))

-- 4: "litres out of range, a hatch on a closed or missing square"
unfoldable pub hatch_fine : Plan → ℕ → ℕ → ℕ → Bool
hatch_fine p row column litres =
    every
    (ltb row p.shape.rows
    ∷ ltb column p.shape.columns
    ∷ not (shut p (square_at p.shape row column))
    ∷ leb litres most_litres
    ∷ [])

unfoldable pub hatches_fine : Plan → Hatches → List ℕ → Bool
hatches_fine p hs litres =
    all_below most_hatches
    (λ h. not (get_or hs.named h false) || hatch_fine p (get_or hs.rows h 0) (get_or hs.columns h 0) (get_or litres h 0))

-- "over 64 inflow rows with the hatches"
unfoldable pub draws_fine : Plan → List ℕ → Log → Bool
draws_fine p inflow log =
    every
    (hatches_fine p log.hatches log.litres
    ∷ leb (length (table_with inflow log.hatches log.litres)) (table_room inflow_kind)
    ∷ [])

-- the most that a state starts with, 4,096 squares of 100,000,000 µm, and the most that is given, 2^53 - 1
abbrev pub most_start : ℕ
most_start = 409_600_000_000

abbrev pub most_given : ℕ
most_given = 9_007_199_254_740_991

-- 6: "a saved state's clock, length, outflow, soaked, start or given out of range", of so many slots of records; steps above the clock
unfoldable pub state_fine : ℕ → Saved → Bool
state_fine slots a =
    every (run_fine slots a.log.run ∷ standing_fine a.log ∷ leb a.start most_start ∷ leb a.given most_given ∷ [])

unfoldable pub checks_of : Plan → List ℕ → ℕ → List ℕ → ℕ → Saved → ℕ
checks_of p inflow slots s q a =
    refusal (3 unless waters_read s q p ∷ 4 unless draws_fine p inflow a.log ∷ 6 unless state_fine slots a ∷ [])

-- ---- the answer

-- "that state, with no step kept": the newest slot is the last, so that the next step's is the first
unfoldable pub saved_from : ℕ → Head → Named → Saved
saved_from slots a n =
    record {
      log =
          record {
            run =
                record {
                  clock = a.clock;
                  length = a.length;
                  outflow = a.outflow;
                  kept = 0;
                  newest = slots - 1;
                  soaked = a.soaked;
                };
            steps = a.steps;
            opening = a.opening;
            hatches = n.hatches;
            litres = n.litres;
          };
      start = a.start;
      given = a.given;
    }

abbrev pub saved_in : ℕ → List ℕ → Saved
saved_in slots s = saved_from slots (head_of s) (named_in s)

-- 12 where a line is bad, or else the number of the check that fails, 0 for none
unfoldable pub number_of : ℕ → ℕ → ℕ
number_of (suc line) number = 12
number_of zero number = number

unfoldable pub stand_of : Plan → List ℕ → ℕ → List ℕ → Laid
stand_of p inflow slots s =
    record {
      number = number_of (bad_line s p) (checks_of p inflow slots s (named_in s).next (saved_in slots s));
      line = bad_line s p;
      saved = saved_in slots s;
    }

-- the rooms: depth and last leaving of each square not closed, or as they were
pub record Water : Type 0 where
  pub depths : List ℕ
  pub lasts : List ℕ

abbrev pub water : List ℕ → List ℕ → Water
water d l = record { depths = d; lasts = l }

unfoldable pub water_from : Plan → List ℕ → ℕ → Water → Water
water_from p s q old =
    record {
      depths = filled (squares p.shape) (shut p) (depth_from s q p.marks) old.depths;
      lasts = filled (squares p.shape) (shut p) (last_from s q p.marks) old.lasts;
    }

unfoldable pub water_after : Plan → List ℕ → ℕ → Water → Water
water_after p s zero old = water_from p s (named_in s).next old
water_after p s (suc number) old = old

-- ---- what the public function gives

pub record Lays (p : Plan) (inflow : List ℕ) (slots : ℕ) (s : List ℕ) (before : Water) (a : Laid) (after : Water) : Type 0 where
  pub answer : a ≡ stand_of p inflow slots s
  pub rooms_are : after ≡ water_after p s a.number before
