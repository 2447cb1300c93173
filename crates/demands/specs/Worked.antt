-- Document 01, "Worked by hand": the cases marked P, one list of equations. On the left what the definitions give, on the right
-- what the document says. Sheets are worked from their text.
-- Assumes nothing.
use Rattle.std.specs.Prelude.{◌≡◌, true, false, List, [], ◌∷◌, ℕ, get_or, negsuc, Float}
use Prim.Native.String.{String}
use Rattle.std.specs.Float.{fin}
use Rattle.reckon.specs.Soaking.{soak_due}
use Rattle.reckon.specs.Tables.{rain_by, inflow_by}
use Rattle.grid.specs.Squares.{east}
use Rattle.grid.specs.declared.squares.Shape.{Shape}
use Rattle.rule.specs.declared.rules.Rules.{Rules}
use Rattle.rule.specs.Weighing.{greatest_drop, height_of, slope_of, critical_speed, manning_speed, speed_of, most_through, total_of, weighed}
use Rattle.rule.specs.Drops.{drop_off}
use Rattle.rule.specs.Length.{candidates_of, fresh_length, length_at, duration_for}
use Rattle.ledger.specs.Runs.{Plan, World, plan, seen_of}
use Rattle.ledger.specs.TakeBack.{back_number, taken_back}
use Rattle.checks.specs.Given.{Given}
use Rattle.moves.specs.Drops.{drops_of}
use Rattle.moves.specs.Moves.{step_moves}
use Rattle.flood.specs.Step.{step_number, stepped}
use Rattle.checks.specs.Fresh.{fresh_run}
use Rattle.checks.specs.declared.bounds.Bounds.TheVariants.{Bounded, NotBounded}
use Rattle.sight.specs.Speeds.{zero64, quotient_of}
use Rattle.sight.specs.Arrows.{view, seen_at}
use Rattle.sight.specs.declared.arrows.Sight.TheVariants.{Closed, Dry, Still, Moving}
use Rattle.text.specs.Bytes.{bytes_of}
use Rattle.sheet.specs.Sheet.{Rooms, cells_rooms, shape_of, line_two, rain_table, inflow_table, said, plan_in, given_in, start_in}
use Rattle.answer.specs.Printed.{made_text}
use Rattle.programs.specs.Program.{meadow_text}
use Rattle.exports.specs.Numbers.{shape_from, rules_from, run_value_from, run_numbers, heading_numbers}
use Rattle.exports.specs.Sights.{sight_number, speeds_in}
use Rattle.exports.specs.Bounds.{bounds_told, figures_in}

-- ---- texts

-- document 01's sheet, and what `meadow` prints of it
abbrev pub document_sheet : String
document_sheet = "grid\t1\t2\t1\nrun\t100\t1000\t1000\t1000\t1000\t10000\t1\ncell\t0\t0\to\t0\t100\t1000\t0\ncell\t0\t1\to\t0\t100\t0\t0\n"

abbrev pub document_output : String
document_output = "cell\t0\t0\t969\ncell\t0\t1\t31\nout\t0\nsoak\t0\nsteps\t1\nclock\t1000\n"

-- "one exit square, D 1, k 100, depth 10,000"; "two equal levels"
abbrev pub exit_sheet : String
exit_sheet = "grid\t1\t1\t1\nrun\t100\t1000\t1000\t1000\t1000\t10000\t1\ncell\t0\t0\te\t0\t100\t10000\t0\n"

abbrev pub level_sheet : String
level_sheet = "grid\t1\t2\t1\nrun\t100\t1000\t1000\t1000\t1000\t10000\t1\ncell\t0\t0\to\t0\t100\t500\t0\ncell\t0\t1\to\t0\t100\t500\t0\n"

-- document 02, #106: document 01's sheet on ground that soaks half a micrometre a step in the west, and 277 in the east
abbrev pub soak_sheet : String
soak_sheet = "grid\t1\t2\t1\nrun\t100\t1000\t1000\t1000\t1000\t10000\t1\ncell\t0\t0\to\t0\t100\t1000\t1800\ncell\t0\t1\to\t0\t100\t0\t1000000\n"

-- every kind of line, each field with a number of its own
abbrev pub whole_sheet : String
whole_sheet = "grid\t2\t1\t3\nrun\t10\t300\t700\t1000\t2000\t5\t2\ncell\t0\t0\to\t60\t100\t50\t36\ncell\t1\t0\tx\nrain\t51\t150\t90\ninflow\t0\t0\t7\t101\t8\n"

-- document 01's sheet turned: its squares one below the other
abbrev pub column_sheet : String
column_sheet = "grid\t2\t1\t1\nrun\t100\t1000\t1000\t1000\t1000\t10000\t1\ncell\t0\t0\to\t0\t100\t1000\t0\ncell\t1\t0\to\t0\t100\t0\t0\n"

-- three squares of which the middle one is closed, and a run, printed
abbrev pub printed_world : String
printed_world = "cell\t0\t0\t7\ncell\t0\t2\t9\nout\t1\nsoak\t2\nsteps\t3\nclock\t4\n"

-- ---- what a text says, and steps on it

pub record Meadow : Type 0 where
  pub shape : Shape
  pub rules : Rules
  pub held : Rooms

abbrev pub meadow_in : String → Meadow
meadow_in text = record { shape = shape_of (bytes_of text); rules = (line_two (bytes_of text)).rules; held = said (bytes_of text) }

module _ (t : Meadow) where
  abbrev on_plan : Plan
  on_plan = plan_in t.shape t.rules t.held

  abbrev by_given : Given
  by_given = given_in t.shape t.rules t.held

  -- the world before the first step, after it, and after the second
  abbrev before : World
  before = start_in t.shape t.rules t.held

  abbrev once : World
  once = stepped on_plan by_given before

  abbrev twice : World
  twice = stepped on_plan by_given once

  -- of square 0 before a step: its depth, its drops, the greatest; how long the step lasts
  abbrev depth : World → ℕ
  depth w = get_or w.depths 0 0

  abbrev drops : World → List ℕ
  drops w = drops_of on_plan t.rules by_given.lie.beds w.depths 0

  abbrev steepest : World → ℕ
  steepest w = greatest_drop (drops w)

  abbrev duration : World → ℕ
  duration w = (step_moves on_plan by_given (seen_of w)).duration

  -- h, s, critical and Manning speed, v, m and the total of square 0, which has roughness 100
  abbrev workings : World → List ℕ
  workings w =
      height_of (depth w)
      ∷ slope_of t.rules (steepest w)
      ∷ critical_speed (depth w)
      ∷ manning_speed t.rules (depth w) 100 (steepest w)
      ∷ speed_of t.rules (depth w) 100 (steepest w)
      ∷ most_through t.rules (depth w) 100 (duration w) (steepest w)
      ∷ total_of t.rules (depth w) (get_or w.lasts 0 0) 100 (duration w) (drops w)
      ∷ []

-- D 10 and a tolerance
abbrev wide : ℕ → Rules
wide q = record { square_side = 10; tolerance = q; shortest = 1; longest = 60_000; update = 60_000; edge = 10_000; edition = 1 }

-- D 1 and an edition
abbrev narrow : ℕ → Rules
narrow edition = record { square_side = 1; tolerance = 0; shortest = 1; longest = 60_000; update = 60_000; edge = 10_000; edition = edition }

-- 1,116,892,707,587,883 / 2^54, the f64 nearest to 0.062, whose bits are 0x3fafbe76c8b43958
abbrev east_speed : Float
east_speed = fin false 1_116_892_707_587_883 (negsuc 53)

-- ---- the cases

-- of the sheet, by what it says
pub record SheetCases (t : Meadow) : Type 0 where
  -- "the sheet above: h 100, s 316, .. m 31, total 62, through east 31"; by #105 the speeds are 99,045 and 31,600
  pub first-drops : drops t (before t) ≡ 0 ∷ 1_000 ∷ 0 ∷ 0 ∷ []
  pub first-workings : workings t (before t) ≡ 100 ∷ 316 ∷ 99_045 ∷ 31_600 ∷ 31_600 ∷ 31 ∷ 62 ∷ []
  pub first-east : (step_moves (on_plan t) (by_given t) (seen_of (before t))).leaves 0 east ≡ 31
  pub first_record : (once t).records ≡ 1_000 ∷ 1_000 ∷ 0 ∷ 31 ∷ 0 ∷ 0 ∷ 0 ∷ 0 ∷ 0 ∷ 0 ∷ 0 ∷ 0 ∷ 0 ∷ 0 ∷ 0 ∷ 0 ∷ []
  -- "its second step (1000 ms): drop 938, h 97, s 306, .. m 28, total 56; depths 941 and 59"; by #105 the speed is 29,682
  pub second_made : step_number (on_plan t) (by_given t) (once t) ≡ 0
  pub second-duration : duration t (once t) ≡ 1_000
  pub second-drops : drops t (once t) ≡ 0 ∷ 938 ∷ 0 ∷ 0 ∷ []
  pub second-workings : workings t (once t) ≡ 97 ∷ 306 ∷ 97_498 ∷ 29_682 ∷ 29_682 ∷ 28 ∷ 56 ∷ []
  pub second-depths : (twice t).depths ≡ 941 ∷ 59 ∷ []
  pub second_record : (twice t).records ≡ 1_000 ∷ 1_000 ∷ 0 ∷ 28 ∷ 0 ∷ 0 ∷ 31 ∷ 0 ∷ 0 ∷ 0 ∷ 0 ∷ 0 ∷ 0 ∷ 0 ∷ 0 ∷ 0 ∷ []
  -- "take-back of the first step: depths 1000 and 0, P 0, clock 0"
  pub back_made : back_number (on_plan t) (once t) ≡ 0
  pub back_depths : (taken_back (on_plan t) (once t)).depths ≡ 1_000 ∷ 0 ∷ []
  pub back_lasts : (taken_back (on_plan t) (once t)).lasts ≡ 0 ∷ 0 ∷ []
  pub back_clock : (taken_back (on_plan t) (once t)).run.clock ≡ 0
  -- "arrow of square 0 0 after it: east is 62,000 / 1,000,000 rounded once, north 0"
  pub arrow : seen_at (on_plan t) 1 (view (once t).depths (once t).records (once t).run) 0 0 ≡ Moving (record { east = east_speed; north = zero64 })
  pub arrow_quotient : quotient_of 62_000 1_000_000 ≡ east_speed
  -- and of square 0 1, into which it flows: its net through the west is negative, and so is that speed outwards
  pub arrow_into : seen_at (on_plan t) 1 (view (once t).depths (once t).records (once t).run) 0 1 ≡ Moving (record { east = east_speed; north = zero64 })

-- of an exit alone
pub record ExitCases (t : Meadow) : Type 0 where
  -- "one exit square, D 1, k 100, depth 10,000, 1000 ms: .. total 10,000, each side 2,000; depth 2,000, outflow 8,000"; by #105 v is
  -- 313,209 and m 3,132
  pub exit-drops : drops t (before t) ≡ 10_000 ∷ 10_000 ∷ 10_000 ∷ 10_000 ∷ []
  pub exit-workings : workings t (before t) ≡ 464 ∷ 1_000 ∷ 313_209 ∷ 464_000 ∷ 313_209 ∷ 3_132 ∷ 10_000 ∷ []
  pub exit_record : (once t).records ≡ 1_000 ∷ 1_000 ∷ 2_000 ∷ 2_000 ∷ 2_000 ∷ 2_000 ∷ 0 ∷ 0 ∷ 0 ∷ []
  pub exit-depth : (once t).depths ≡ 2_000 ∷ []
  pub exit_outflow : (once t).run.outflow ≡ 8_000

-- and of two equal levels
pub record LevelCases (t : Meadow) : Type 0 where
  -- "two equal levels: nothing moves"
  pub level_made : step_number (on_plan t) (by_given t) (before t) ≡ 0
  pub level-depths : (once t).depths ≡ 500 ∷ 500 ∷ []
  pub level_record : (once t).records ≡ 1_000 ∷ 1_000 ∷ 0 ∷ 0 ∷ 0 ∷ 0 ∷ 0 ∷ 0 ∷ 0 ∷ 0 ∷ 0 ∷ 0 ∷ 0 ∷ 0 ∷ 0 ∷ 0 ∷ []

-- of one square, and of a table
pub record NumberCases : Type 0 where
  -- "d = 1,000,000, k 500, D 10, one drop of 100,000: q 99 gives a candidate of 250 ms; q 100 gives none"
  pub candidate : candidates_of (wide 99) 1_000_000 500 (0 ∷ 100_000 ∷ 0 ∷ 0 ∷ []) ≡ 250 ∷ []
  pub no_candidate : candidates_of (wide 100) 1_000_000 500 (0 ∷ 100_000 ∷ 0 ∷ 0 ∷ []) ≡ []
  -- #105, thin water: D 10, 10 mm deep, k 3,500, one drop of 100, 60,000 ms: speed 410, m 24, total 48 (in whole mm/s the speed was 0)
  pub thin_speed : speed_of (wide 0) 10_000 3_500 100 ≡ 410
  pub thin_most : most_through (wide 0) 10_000 3_500 60_000 100 ≡ 24
  pub thin_total : total_of (wide 0) 10_000 0 3_500 60_000 (0 ∷ 100 ∷ 0 ∷ 0 ∷ []) ≡ 48
  -- "rain 3,600 µm/h from 0: 0 by 999 ms, 1 by 1000"
  pub rain_before : rain_by (0 ∷ 604_800_000 ∷ 3_600 ∷ []) 999 ≡ 0
  pub rain-by : rain_by (0 ∷ 604_800_000 ∷ 3_600 ∷ []) 1_000 ≡ 1
  -- "inflow 1 l/s, D 2: 0 by 3 ms, 1 by 4"
  pub inflow_before : inflow_by (0 ∷ 0 ∷ 0 ∷ 604_800_000 ∷ 1 ∷ []) 0 0 2 3 ≡ 0
  pub inflow-by : inflow_by (0 ∷ 0 ∷ 0 ∷ 604_800_000 ∷ 1 ∷ []) 0 0 2 4 ≡ 1

-- #113: of one square of D 1 and k 100 in a step of 1,000 ms, by each edition
pub record EditionCases : Type 0 where
  -- one drop: edition 2 lets m through, as edition 1 does
  pub directed_alone : weighed (narrow 2) 1_000 0 100 1_000 (0 ∷ 1_000 ∷ 0 ∷ 0 ∷ []) ≡ 0 ∷ 31 ∷ 0 ∷ 0 ∷ []
  -- four drops of the depth: m is 3,132 each, 12,528 in all, which is more than 10,000, so that each becomes 3,132 · 10,000 / 12,528
  pub directed_scaled : weighed (narrow 2) 10_000 0 100 1_000 (10_000 ∷ 10_000 ∷ 10_000 ∷ 10_000 ∷ []) ≡ 2_500 ∷ 2_500 ∷ 2_500 ∷ 2_500 ∷ []
  -- a least drop of 3 and no last leaving: the total is 3 by edition 1, and all 5,000,000 by edition 3, where m is above the depth
  pub limited : weighed (narrow 1) 5_000_000 0 100 1_000 (3 ∷ 40_000 ∷ 50_000 ∷ 60_000 ∷ []) ≡ 0 ∷ 0 ∷ 0 ∷ 1 ∷ []
  pub unlimited : weighed (narrow 3) 5_000_000 0 100 1_000 (3 ∷ 40_000 ∷ 50_000 ∷ 60_000 ∷ []) ≡ 99 ∷ 1_333_280 ∷ 1_666_600 ∷ 1_999_920 ∷ []

-- document 02, #106, worked by hand: what is due by the clock, and two steps of a sheet that soaks
pub record SoakCases (t : Meadow) : Type 0 where
  -- 1,800 µm/h: half a micrometre by 1000 ms, one by 2000; so the second step's due is 1, and of its own duration it would be 0
  pub first_due : soak_due 1_800 0 1_000 ≡ 0
  pub second_due : soak_due 1_800 1_000 2_000 ≡ 1
  -- the dry square's due of 277 is lost, and the 31 that come to it are not soaked in their step
  pub first-depths : (once t).depths ≡ 969 ∷ 31 ∷ []
  pub first_soaked : (once t).run.soaked ≡ 0
  -- then 1 of the 941 that remain in the west soaks, and of a due of 278 all 31 in the east, before 28 more arrive
  pub second-depths : (twice t).depths ≡ 940 ∷ 28 ∷ []
  pub second_record : (twice t).records ≡ 1_000 ∷ 1_000 ∷ 0 ∷ 28 ∷ 0 ∷ 0 ∷ 31 ∷ 0 ∷ 1 ∷ 0 ∷ 0 ∷ 0 ∷ 0 ∷ 0 ∷ 0 ∷ 31 ∷ []
  pub second_soaked : (twice t).run.soaked ≡ 32
  -- "P is then the sum of the four": what soaked is not in it
  pub second_lasts : (twice t).lasts ≡ 28 ∷ 0 ∷ []
  -- "Take-back returns it"
  pub back_depths : (taken_back (on_plan t) (twice t)).depths ≡ 969 ∷ 31 ∷ []
  pub back_soaked : (taken_back (on_plan t) (twice t)).run.soaked ≡ 0

-- what each field of a sheet is read as, and each total printed as
pub record TextCases : Type 0 where
  pub shape : shape_of (bytes_of whole_sheet) ≡ record { rows = 2; columns = 1 }
  pub rules : (line_two (bytes_of whole_sheet)).rules
      ≡ record { square_side = 3; tolerance = 10; shortest = 300; longest = 700; update = 1_000; edge = 5; edition = 2 }
  pub end : (line_two (bytes_of whole_sheet)).end ≡ 2_000
  pub cells : (said (bytes_of whole_sheet)).cells ≡ cells_rooms (1 ∷ 0 ∷ []) (60 ∷ 0 ∷ []) (100 ∷ 0 ∷ []) (36 ∷ 0 ∷ []) (50 ∷ 0 ∷ [])
  pub rain : rain_table (bytes_of whole_sheet) ≡ 51 ∷ 150 ∷ 90 ∷ []
  pub inflow : inflow_table (bytes_of whole_sheet) ≡ 0 ∷ 0 ∷ 7 ∷ 101 ∷ 8 ∷ []
  pub printed :
      made_text (plan (record { rows = 1; columns = 3 }) (1 ∷ 0 ∷ 2 ∷ [])) (7 ∷ 8 ∷ 9 ∷ [])
      (record { clock = 4; length = 5; outflow = 1; kept = 6; newest = 10; soaked = 2 }) 3
      ≡ bytes_of printed_world

-- D 2, edge slope 5, steps of 300 to 700 ms, U 1,000
abbrev ditch : Rules
ditch = record { square_side = 2; tolerance = 10; shortest = 300; longest = 700; update = 1_000; edge = 5; edition = 1 }

pub record DitchCases : Type 0 where
  -- #102: 5 · 100 · 2 is 1,000
  pub edge_binds : drop_off ditch 4_000 ≡ 1_000
  pub edge_free : drop_off ditch 999 ≡ 999
  -- the least candidate, held between shortest and longest; the longest if there is none; the time left to the next multiple of U
  pub least : fresh_length ditch (900 ∷ 461 ∷ 512 ∷ []) ≡ 461
  pub shortest : fresh_length ditch (900 ∷ 200 ∷ []) ≡ 300
  pub longest : fresh_length ditch (900 ∷ 800 ∷ []) ≡ 700
  pub none : fresh_length ditch [] ≡ 700
  pub held : length_at ditch 922 461 (350 ∷ []) ≡ 461
  pub afresh : length_at ditch 2_000 461 (350 ∷ []) ≡ 350
  pub last_of_span : duration_for ditch 922 461 ≡ 78
  -- an inflow row is for its own square: row 1, column 2
  pub own_square : inflow_by (1 ∷ 2 ∷ 0 ∷ 1_000 ∷ 8 ∷ []) 1 2 2 1_000 ≡ 2_000
  pub other_square : inflow_by (1 ∷ 2 ∷ 0 ∷ 1_000 ∷ 8 ∷ []) 2 1 2 1_000 ≡ 0
  -- overlapping rows add, and are rounded together
  pub overlapping : rain_by (0 ∷ 1_000 ∷ 1_800 ∷ 500 ∷ 2_000 ∷ 3_600 ∷ []) 1_000 ≡ 1

-- the column's arrow: its south speed is the sheet's east speed, so that the arrow points south
pub record ColumnCases (t : Meadow) : Type 0 where
  pub arrow : seen_at (on_plan t) 1 (view (once t).depths (once t).records (once t).run) 0 0 ≡ Moving (record { east = zero64; north = fin true 1_116_892_707_587_883 (negsuc 53) })

-- what other languages lend and are told, each number its own place; and a run that is fresh
pub record LentCases : Type 0 where
  pub shape : shape_from 1 2 ≡ record { rows = 1; columns = 2 }
  pub rules : rules_from (1 ∷ 2 ∷ 3 ∷ 4 ∷ 5 ∷ 6 ∷ 7 ∷ [])
      ≡ record { square_side = 1; tolerance = 2; shortest = 3; longest = 4; update = 5; edge = 6; edition = 7 }
  pub run : run_value_from (1 ∷ 2 ∷ 3 ∷ 4 ∷ 5 ∷ 6 ∷ []) ≡ record { clock = 1; length = 2; outflow = 3; kept = 4; newest = 5; soaked = 6 }
  pub run-told : run_numbers (record { clock = 1; length = 2; outflow = 3; kept = 4; newest = 5; soaked = 6 }) ≡ 1 ∷ 2 ∷ 3 ∷ 4 ∷ 5 ∷ 6 ∷ []
  pub heading-told :
      heading_numbers
      (record {
        shape = record { rows = 1; columns = 2 };
        rules = record { square_side = 3; tolerance = 4; shortest = 5; longest = 6; update = 7; edge = 8; edition = 9 };
        end = 10;
        rain_rows = 11;
        inflow_rows = 12;
      })
      ≡ 1 ∷ 2 ∷ 3 ∷ 4 ∷ 5 ∷ 6 ∷ 7 ∷ 8 ∷ 9 ∷ 10 ∷ 11 ∷ 12 ∷ []
  -- "closed; dry (own depth 0); still (all four nets 0); moving, with the arrow"
  pub closed-told : sight_number Closed ≡ 101
  pub dry-told : sight_number Dry ≡ 102
  pub still_told : sight_number Still ≡ 103
  pub speeds_told : speeds_in (Moving (record { east = east_speed; north = zero64 })) [] ≡ east_speed ∷ zero64 ∷ []
  -- #112: the most, then the least
  pub bounds-told : figures_in (Bounded (record { most = 12; least = 6 })) [] ≡ 12 ∷ 6 ∷ []
  pub unbounded_told : bounds_told NotBounded ≡ 104
  -- "clock 0, length = the longest of the rules it starts with, outflow 0, kept 0, newest K − 1"
  pub fresh : fresh_run ditch 4 ≡ record { clock = 0; length = 700; outflow = 0; kept = 0; newest = 3; soaked = 0 }

-- all cases marked P, those of the editions and those of soaking
pub record ProvedCases : Type 0 where
  -- the sheet's output, whole
  pub printed : meadow_text (bytes_of document_sheet) ≡ bytes_of document_output
  pub sheet : SheetCases (meadow_in document_sheet)
  pub exit : ExitCases (meadow_in exit_sheet)
  pub level : LevelCases (meadow_in level_sheet)
  pub numbers : NumberCases
  pub editions : EditionCases
  pub soaking : SoakCases (meadow_in soak_sheet)
  pub texts : TextCases
  pub ditch_mouth : DitchCases
  pub column : ColumnCases (meadow_in column_sheet)
  pub lent : LentCases
