-- A saved text worked by hand: a meadow of 2 by 2 with one square closed and two hatches, every number another one.
-- Assumes nothing.
use Rattle.std.specs.Prelude.{◌≡◌, true, false, List, [], ◌∷◌, ◌++◌, ℕ, replicate}
use Prim.Native.String.{String}
use Rattle.ledger.specs.Runs.{Plan, plan}
use Rattle.text.specs.Bytes.{bytes_of}
use Rattle.hatches.specs.declared.log.Hatches.{Hatches}
use Rattle.stands.specs.Texts.{head_text, hatches_text, squares_text}
use Rattle.stands.specs.Laying.{head_of, named_from, square_from, bad_line, hatch_fine, draws_fine, state_fine}
use Rattle.stands.specs.declared.saved.Saved.{Saved}

abbrev pub meadow : Plan
meadow = plan (record { rows = 2; columns = 2 }) (1 ∷ 0 ∷ 1 ∷ 2 ∷ [])

abbrev pub two_hatches : Hatches
two_hatches =
    record {
      named = false ∷ true ∷ false ∷ false ∷ false ∷ false ∷ true ∷ false ∷ false ∷ [];
      rows = 0 ∷ 1 ∷ 0 ∷ 0 ∷ 0 ∷ 0 ∷ 0 ∷ 0 ∷ 0 ∷ [];
      columns = 0 ∷ 1 ∷ 0 ∷ 0 ∷ 0 ∷ 0 ∷ 0 ∷ 0 ∷ 0 ∷ [];
    }

abbrev pub rates : List ℕ
rates = 0 ∷ 35 ∷ 0 ∷ 0 ∷ 0 ∷ 0 ∷ 8 ∷ 0 ∷ 0 ∷ []

-- the outflow has a high half
abbrev pub saved : Saved
saved =
    record {
      log =
          record {
            run = record { clock = 2_500; length = 700; outflow = 12_884_901_894; kept = 0; newest = 3; soaked = 4 };
            steps = 5;
            opening = false;
            hatches = two_hatches;
            litres = rates;
          };
      start = 90;
      given = 31;
    }

abbrev head_lines : String
head_lines = "stand\t5\t2500\t700\t0\nout\t3\t6\nsoak\t0\t4\nstart\t0\t90\ngiven\t0\t31\n"

abbrev hatch_lines : String
hatch_lines = "hatch\t2\t1\t1\t35\nhatch\t7\t0\t0\t8\n"

abbrev square_lines : String
square_lines = "at\t0\t11\t21\nat\t2\t12\t22\nat\t3\t13\t23\n"

pub record PutWorked : Type 0 where
  pub head : head_text saved ≡ bytes_of head_lines
  pub hatches : hatches_text two_hatches rates ≡ bytes_of hatch_lines
  pub squares : squares_text meadow (11 ∷ 99 ∷ 12 ∷ 13 ∷ []) (21 ∷ 98 ∷ 22 ∷ 23 ∷ []) ≡ bytes_of square_lines

pub record ReadWorked : Type 0 where
  pub head :
      head_of (bytes_of head_lines)
      ≡ record {
        bad = 0;
        steps = 5;
        clock = 2_500;
        length = 700;
        opening = false;
        outflow = 12_884_901_894;
        soaked = 4;
        start = 90;
        given = 31;
        next = 58;
      }
  pub hatches : named_from (bytes_of hatch_lines) 0 9 ≡ record { hatches = two_hatches; litres = rates; lines = 2; next = 29 }
  pub first_square : square_from (bytes_of square_lines) 0 meadow.marks 0 ≡ record { depth = 11; last = 21; lines = 1; next = 11 }
  pub closed-square : square_from (bytes_of square_lines) 0 meadow.marks 1 ≡ record { depth = 0; last = 0; lines = 0; next = 11 }
  pub last_square : square_from (bytes_of square_lines) 0 meadow.marks 3 ≡ record { depth = 13; last = 23; lines = 1; next = 33 }

-- the lines before the squares, as short as they can be
abbrev short : String
short = "stand\t0\t0\t9\t1\nout\t0\t0\nsoak\t0\t0\nstart\t0\t0\ngiven\t0\t0\n"

-- one square
abbrev field : Plan
field = plan (record { rows = 1; columns = 1 }) (1 ∷ [])

abbrev bad_of : String → ℕ
bad_of line = bad_line (bytes_of short ++ bytes_of line) field

-- "the line cannot be read", "a text left over": its number, from 1
pub record LinesRefused : Type 0 where
  pub opening_two : (head_of (bytes_of "stand\t0\t0\t9\t2\n")).bad ≡ 1
  pub word_missing : (head_of (bytes_of "stand\t0\t0\t9\t1\nsoak\t0\t0\n")).bad ≡ 2
  pub taken : bad_of "at\t0\t7\t8\n" ≡ 0
  pub missing : bad_of "" ≡ 6
  pub another_square : bad_of "at\t1\t7\t8\n" ≡ 6
  pub left_over : bad_of "at\t0\t7\t8\nat\t1\t7\t8\n" ≡ 7
  pub hatch_before : bad_of "hatch\t9\t0\t0\t1\n" ≡ 7
  pub hatches_falling : bad_of "hatch\t2\t0\t0\t1\nhatch\t1\t0\t0\t1\n" ≡ 7
  pub hatch_ten : bad_of "hatch\t10\t0\t0\t1\n" ≡ 6

-- the run with one number after another
abbrev stood : ℕ → ℕ → ℕ → ℕ → ℕ → ℕ → Saved
stood steps clock length outflow start given =
    record {
      log =
          record {
            run = record { clock = clock; length = length; outflow = outflow; kept = 0; newest = 3; soaked = 0 };
            steps = steps;
            opening = false;
            hatches = two_hatches;
            litres = rates;
          };
      start = start;
      given = given;
    }

-- 4 and 6
pub record NumbersRefused : Type 0 where
  pub hatches-fine : draws_fine meadow [] saved.log ≡ true
  pub on_closed : hatch_fine meadow 0 1 8 ≡ false
  pub off-grid : hatch_fine meadow 2 0 8 ≡ false
  pub litres_most : hatch_fine meadow 1 1 100_000 ≡ true
  pub litres_above : hatch_fine meadow 1 1 100_001 ≡ false
  pub table_full : draws_fine meadow (replicate 310 0) saved.log ≡ true
  pub table_over : draws_fine meadow (replicate 315 0) saved.log ≡ false
  pub state-fine : state_fine 4 saved ≡ true
  pub no_slots : state_fine 3 saved ≡ false
  pub too_many_steps : state_fine 4 (stood 6 5 700 0 0 0) ≡ false
  pub clock_above : state_fine 4 (stood 0 604_800_001 700 0 0 0) ≡ false
  pub length_none : state_fine 4 (stood 0 5 0 0 0 0) ≡ false
  pub outflow_above : state_fine 4 (stood 0 5 700 1_000_000_000_000_001 0 0) ≡ false
  pub at_most : state_fine 4 (stood 5 5 700 0 409_600_000_000 9_007_199_254_740_991) ≡ true
  pub start_above : state_fine 4 (stood 5 5 700 0 409_600_000_001 0) ≡ false
  pub given_above : state_fine 4 (stood 5 5 700 0 0 9_007_199_254_740_992) ≡ false
