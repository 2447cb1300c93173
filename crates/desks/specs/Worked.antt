-- The desk's lines, worked by hand: each kind with every field a number of its own, and lines that are none; and an evening of lines on a small
-- meadow, each from its own bytes to all that it leaves and to its whole answer.
-- Assumes nothing.
use Rattle.std.specs.Prelude.{◌≡◌, Bool, true, false, List, [], ◌∷◌, ◌++◌, ℕ, replicate}
use Prim.Native.String.{String}
use Rattle.ledger.specs.declared.runs.Run.{Run}
use Rattle.text.specs.Bytes.{bytes_of}
use Rattle.sheet.specs.Sheet.{rooms}
use Rattle.sheet.specs.declared.reading.Heading.{Heading}
use Rattle.hatches.specs.declared.lines.Entry.TheVariants.{Hatch, Back}
use Rattle.hatches.specs.declared.log.Hatches.{Hatches}
use Rattle.hatches.specs.declared.log.Log.{Log}
use Rattle.evenings.specs.Program.{Stores, stores}
use Rattle.trying.specs.declared.given.Account.{Account}
use Rattle.desks.specs.Orders.{order}
use Rattle.desks.specs.State.{no_series}
use Rattle.desks.specs.Command.{Left, left, command_left, step_left}
use Rattle.desks.specs.declared.state.Desk.{Desk}
use Rattle.desks.specs.declared.state.Series.{Series}
use Rattle.desks.specs.declared.orders.Order.TheVariants.{Sheet, Entered, Draw, Step, Show, Arrows, Most, Stand, Lay, NoOrder}

pub record OrderCases : Type 0 where
  pub a_sheet : order (bytes_of "sheet\t126\n") ≡ Sheet 126
  pub a_hatch : order (bytes_of "hatch\t7\t1\t2\n") ≡ Entered (Hatch 7 1 2)
  pub a_draw : order (bytes_of "draw\t7\t35\n") ≡ Draw 7 35
  pub a_step : order (bytes_of "step\t40\t60\t1\n") ≡ Step 40 60 1
  pub a_back : order (bytes_of "back\t3\n") ≡ Entered (Back 3)
  pub a_show : order (bytes_of "show\n") ≡ Show
  pub some_arrows : order (bytes_of "arrows\n") ≡ Arrows
  pub the_most : order (bytes_of "most\t90\n") ≡ Most 90
  pub a_stand : order (bytes_of "stand\n") ≡ Stand
  pub a_lay : order (bytes_of "lay\t125\n") ≡ Lay 125
  -- no newline at its end; a second line after it; a field too few, one too many; another word
  pub not_ended : order (bytes_of "show") ≡ NoOrder
  pub two_lines : order (bytes_of "show\nshow\n") ≡ NoOrder
  pub too_few : order (bytes_of "draw\t7\n") ≡ NoOrder
  pub too_many : order (bytes_of "back\t3\t4\n") ≡ NoOrder
  pub no_word : order (bytes_of "go\n") ≡ NoOrder

-- ---- an evening

-- 1 by 3 squares of D 2, of which the first is an exit and the last is closed
abbrev pub heading : Heading
heading =
    record {
      shape = record { rows = 1; columns = 3 };
      rules = record { square_side = 2; tolerance = 99; shortest = 300; longest = 700; update = 600; edge = 10_000; edition = 1 };
      end = 9_000;
      rain_rows = 1;
      inflow_rows = 0;
    }

-- its rooms, with slots for two records; what the closed square holds, 95 to 99, is in no answer
abbrev pub room : List ℕ → List ℕ → List ℕ → List ℕ → Stores
room depths lasts newest rates =
    stores
    (rooms (2 ∷ 1 ∷ 0 ∷ []) (50 ∷ 10 ∷ 97 ∷ []) (60 ∷ 70 ∷ 96 ∷ []) (3_600 ∷ 14_400 ∷ 95 ∷ []) depths (0 ∷ 9_000 ∷ 36_000 ∷ []) []) lasts
    (newest ++ replicate 23 0) (rates ++ replicate 9 0)

-- hatch 2 runs at 3 litres, and hatch 7 at so many
abbrev pub drawn_at : ℕ → List ℕ
drawn_at litres = 0 ∷ 3 ∷ 0 ∷ 0 ∷ 0 ∷ 0 ∷ litres ∷ 0 ∷ 0 ∷ []

-- hatch 2 is on the first square; then hatch 7 on the second as well
abbrev pub one_hatch : Hatches
one_hatch = record { named = false ∷ true ∷ replicate 7 false; rows = replicate 9 0; columns = replicate 9 0 }

abbrev pub two_hatches : Hatches
two_hatches =
    record {
      named = false ∷ true ∷ false ∷ false ∷ false ∷ false ∷ true ∷ false ∷ false ∷ [];
      rows = replicate 9 0;
      columns = 0 ∷ 0 ∷ 0 ∷ 0 ∷ 0 ∷ 0 ∷ 1 ∷ 0 ∷ 0 ∷ [];
    }

abbrev pub logged : Run → ℕ → Bool → Hatches → ℕ → Log
logged run steps opening hatches litres = record { run = run; steps = steps; opening = opening; hatches = hatches; litres = drawn_at litres }

-- the fifth step stands, and the sixth: its length is worked afresh, but it lasts only to the next multiple of U
abbrev pub fifth : Run
fifth = record { clock = 1_800; length = 500; outflow = 61; kept = 0; newest = 1; soaked = 40 }

abbrev pub sixth : Run
sixth = record { clock = 2_400; length = 700; outflow = 85; kept = 1; newest = 0; soaked = 43 }

abbrev pub room_fifth : Stores
room_fifth = room (940 ∷ 400 ∷ 99 ∷ []) (17 ∷ 18 ∷ 98 ∷ []) (replicate 23 0) (replicate 9 0)

-- the record of the sixth: the length held before it and how long it lasted, then what left each square by its sides, its last leaving before, what
-- was added and what soaked
abbrev pub record_sixth : List ℕ
record_sixth =
    500 ∷ 600 ∷ 8 ∷ 5 ∷ 8 ∷ 8 ∷ 17 ∷ 456 ∷ 1 ∷ 0 ∷ 0 ∷ 0 ∷ 0 ∷ 18 ∷ 5_256 ∷ 2 ∷ 0 ∷ 0 ∷ 0 ∷ 0 ∷ 0 ∷ 0 ∷ 0 ∷ []

abbrev pub room_sixth : Stores
room_sixth = room (1_366 ∷ 5_659 ∷ 99 ∷ []) (29 ∷ 0 ∷ 98 ∷ []) record_sixth (drawn_at 35)

-- 51 had been given before the sixth step, which is what its slot keeps
abbrev pub account_fifth : ℕ → Account
account_fifth kept = record { start = 1_390; given = 51; before = kept ∷ replicate 255 0 }

abbrev pub account_sixth : Account
account_sixth = record { start = 1_390; given = 5_763; before = 51 ∷ replicate 255 0 }

abbrev pub desk_of : Log → Account → Series → ℕ → Desk
desk_of log a s long = record { ready = true; heading = heading; log = log; account = a; series = s; length = long }

-- before the sixth step: hatch 7 not named yet, named, and drawn
abbrev pub first : ℕ → Desk
first long = desk_of (logged fifth 5 true one_hatch 0) (account_fifth 0) no_series long

abbrev pub second : ℕ → Desk
second long = desk_of (logged fifth 5 true two_hatches 0) (account_fifth 0) no_series long

abbrev pub third : Series → ℕ → Desk
third s long = desk_of (logged fifth 5 true two_hatches 35) (account_fifth 0) s long

-- after it, and once it is taken back: no hatch is named any more
abbrev pub fourth : Series → ℕ → Desk
fourth s long = desk_of (logged sixth 6 false two_hatches 35) account_sixth s long

abbrev pub last : ℕ → Desk
last long = desk_of (logged fifth 5 false two_hatches 35) (account_fifth 51) no_series long

abbrev pub room_last : Stores
room_last = room (940 ∷ 400 ∷ 99 ∷ []) (17 ∷ 18 ∷ 98 ∷ []) record_sixth (drawn_at 35)

-- a line after which no text comes
abbrev pub answered : Desk → Stores → String → Left
answered d r line = command_left d r [] (order (bytes_of line))

-- so many steps are to be made below 9,000, each of them shown
abbrev pub to_make : ℕ → Series
to_make left = record { on = true; left = left; end = 9_000; every = true }

abbrev pub frame_sixth : String
frame_sixth = "frame\t6\t2400\t700\t85\t43\t1\t256\t7025\t1390\t5763\nrates\t0\t3\t0\t0\t0\t0\t35\t0\t0\nrow\t1366\t5659\tx\n"

pub record LineCases : Type 0 where
  -- hatch 7 is named; named twice and on a closed square it is refused, and all is left as it was
  pub named : answered (first 0) room_fifth "hatch\t7\t0\t1\n" ≡ left (second 5) room_fifth (bytes_of "done\n")
  pub named-twice : answered (second 5) room_fifth "hatch\t7\t0\t1\n" ≡ left (second 13) room_fifth (bytes_of "refused\t12\t0\n")
  pub on_closed : answered (second 5) room_fifth "hatch\t8\t0\t2\n" ≡ left (second 12) room_fifth (bytes_of "refused\t4\t0\n")
  -- it is drawn; a hatch not named is refused
  pub drawn : answered (second 5) room_fifth "draw\t7\t35\n" ≡ left (third no_series 5) room_fifth (bytes_of "done\n")
  pub not_named : answered (second 5) room_fifth "draw\t6\t35\n" ≡ left (second 13) room_fifth (bytes_of "refused\t12\t0\n")
  -- a line `step` makes none yet
  pub asked : answered (third no_series 5) room_fifth "step\t1\t9000\t1\n" ≡ left (third (to_make 1) 0) room_fifth []
  pub too_late : answered (third no_series 5) room_fifth "step\t1\t604800001\t1\n" ≡ left (third no_series 12) room_fifth (bytes_of "refused\t5\t0\n")

-- the step, its frame, and the line's end
pub record StepCases : Type 0 where
  pub made : step_left (third (to_make 1) 0) room_fifth ≡ left (fourth (to_make 0) 85) room_sixth (bytes_of frame_sixth)
  pub ended : step_left (fourth (to_make 0) 85) room_sixth ≡ left (fourth no_series 5) room_sixth (bytes_of "done\n")

pub record BackCases : Type 0 where
  -- one more than is kept: all is left as it was
  pub beyond : answered (fourth no_series 5) room_sixth "back\t2\n" ≡ left (fourth no_series 13) room_sixth (bytes_of "refused\t10\t0\n")
  -- what is seen is what was before the step, but that no hatch can be named any more
  pub back : answered (fourth no_series 5) room_sixth "back\t1\n"
      ≡ left (last 86) room_last
      (bytes_of "frame\t5\t1800\t500\t61\t40\t0\t256\t1340\t1390\t51\nrates\t0\t3\t0\t0\t0\t0\t35\t0\t0\nrow\t940\t400\tx\ndone\n")

-- a look leaves all as it was
pub record ShowCases : Type 0 where
  pub show : answered (fourth no_series 5) room_sixth "show\n"
      ≡ left (fourth no_series 90) room_sixth
      (bytes_of "frame\t6\t2400\t700\t85\t43\t1\t256\t7025\t1390\t5763\nrates\t0\t3\t0\t0\t0\t0\t35\t0\t0\nrow\t1366\t5659\tx\ndone\n")
