-- Document 02, #107, worked by hand: each field of a line, the rows of hatches and each refusal, every number another one.
-- Assumes nothing.
use Rattle.std.specs.Prelude.{◌≡◌, List, [], ◌∷◌, ℕ, replicate, Option, Some, None}
use Rattle.text.specs.Bytes.{bytes_of}
use Rattle.rule.specs.declared.rules.Rules.{Rules}
use Rattle.ledger.specs.Runs.{Plan, plan}
use Rattle.ledger.specs.declared.runs.Run.{Run}
use Rattle.checks.specs.Given.{Given, given, ground}
use Rattle.hatches.specs.Lines.{log_line}
use Rattle.hatches.specs.Log.{Evening, evening, opened, hatch_named, log_with, hatch_rows, kept_records, line_refusal, rates_back}
use Rattle.hatches.specs.declared.lines.Entry.{Entry}
use Rattle.hatches.specs.declared.lines.Entry.TheVariants.{Hatch, Rate, Back}
use Rattle.hatches.specs.declared.log.Log.{Log}

abbrev rules : Rules
rules = record { square_side = 3; tolerance = 10; shortest = 300; longest = 700; update = 1_000; edge = 5; edition = 2 }

-- 2 rows of 3, the last square of the first row closed; a sheet without inflow rows, and one with 63
abbrev pub meadow : Plan
meadow = plan (record { rows = 2; columns = 3 }) (1 ∷ 1 ∷ 0 ∷ 1 ∷ 1 ∷ 1 ∷ [])

abbrev dry : Given
dry = given (ground rules [] [] []) [] []

abbrev full : Given
full = given (ground rules [] [] []) [] (replicate 315 0)

abbrev fresh : Run
fresh = record { clock = 0; length = 700; outflow = 0; kept = 0; newest = 1; soaked = 0 }

abbrev at : Run
at = record { clock = 2_500; length = 700; outflow = 6; kept = 2; newest = 1; soaked = 4 }

-- hatches 7 and 2 are named; then five steps stand, of which two are kept
abbrev named : Log
named = hatch_named (hatch_named (opened fresh) 7 1 2) 2 0 1

abbrev pub going : Log
going = log_with named at 5 (0 ∷ 35 ∷ 0 ∷ 0 ∷ 0 ∷ 0 ∷ 8 ∷ 0 ∷ 0 ∷ [])

-- room for two records of 44 numbers, and for rates beside them
abbrev pub stood : Log → Evening
stood log = evening (11 ∷ 12 ∷ 13 ∷ 14 ∷ 15 ∷ 16 ∷ []) [] (replicate 88 0) (replicate 18 0) log

abbrev refused : Given → Log → Option Entry → ℕ
refused g log entry = line_refusal meadow g (stood log) entry

-- two slots of rates: the later at 2, the one before it at 1
abbrev slot_rates : List ℕ
slot_rates = 1 ∷ 1 ∷ 1 ∷ 1 ∷ 1 ∷ 1 ∷ 1 ∷ 1 ∷ 1 ∷ 2 ∷ 2 ∷ 2 ∷ 2 ∷ 2 ∷ 2 ∷ 2 ∷ 2 ∷ 2 ∷ []

pub record LogCases : Type 0 where
  -- fields in their order
  pub a_hatch : log_line (bytes_of "hatch\t7\t1\t2\n") 0 ≡ record { entry = Some (Hatch 7 1 2); next = 12 }
  pub a_rate : log_line (bytes_of "60000\t7\t35\n") 0 ≡ record { entry = Some (Rate 60_000 7 35); next = 11 }
  pub a_back : log_line (bytes_of "back\t3\n") 0 ≡ record { entry = Some (Back 3); next = 7 }
  pub no_newline : log_line (bytes_of "back\t3") 0 ≡ record { entry = None; next = 0 }
  pub a_space : log_line (bytes_of "60000 7\t35\n") 0 ≡ record { entry = None; next = 0 }
  -- one row for each hatch, at its own rate, at 0 before its first line
  pub rows : hatch_rows going.hatches going.litres ≡ 0 ∷ 1 ∷ 0 ∷ 604_800_000 ∷ 35 ∷ 1 ∷ 2 ∷ 0 ∷ 604_800_000 ∷ 8 ∷ []
  pub first-rates : hatch_rows named.hatches named.litres ≡ 0 ∷ 1 ∷ 0 ∷ 604_800_000 ∷ 0 ∷ 1 ∷ 2 ∷ 0 ∷ 604_800_000 ∷ 0 ∷ []
  -- "as many records as 16,384 numbers hold, at most 64"
  pub kept_most : kept_records (plan (record { rows = 1; columns = 1 }) []) ≡ 64
  pub kept_few : kept_records (plan (record { rows = 32; columns = 32 }) []) ≡ 2
  pub kept-between : kept_records (plan (record { rows = 10; columns = 10 }) []) ≡ 23
  -- "12 first": hatches
  pub twice : refused dry named (Some (Hatch 7 9 9)) ≡ 12
  pub late : refused dry going (Some (Hatch 3 1 1)) ≡ 12
  pub ten : refused dry named (Some (Hatch 10 1 1)) ≡ 12
  pub none_zero : refused dry named (Some (Hatch 0 1 1)) ≡ 12
  pub closed : refused dry named (Some (Hatch 3 0 2)) ≡ 4
  pub missing_row : refused dry named (Some (Hatch 3 2 1)) ≡ 4
  pub missing_column : refused dry named (Some (Hatch 3 1 3)) ≡ 4
  pub taken : refused dry named (Some (Hatch 3 1 1)) ≡ 0
  pub over_64 : refused full named (Some (Hatch 3 1 1)) ≡ 4
  pub just_64 : refused full (opened fresh) (Some (Hatch 3 1 1)) ≡ 0
  -- rates
  pub not_named : refused dry going (Some (Rate 3_000 3 100_001)) ≡ 12
  pub no_multiple : refused dry going (Some (Rate 3_500 2 100_001)) ≡ 12
  pub below : refused dry going (Some (Rate 2_000 2 100_001)) ≡ 12
  pub above : refused dry going (Some (Rate 604_801_000 2 100_001)) ≡ 12
  pub litres_high : refused dry going (Some (Rate 3_000 2 100_001)) ≡ 4
  pub litres_most : refused dry going (Some (Rate 604_800_000 2 100_000)) ≡ 0
  -- `back`, and a line that cannot be read
  pub too_few : refused dry going (Some (Back 3)) ≡ 10
  pub all_kept : refused dry going (Some (Back 2)) ≡ 0
  pub unread : refused dry going None ≡ 12
  -- "as they stood when the earliest of those steps began (0 changes nothing)"
  pub back_rates : rates_back 2 slot_rates going 2 ≡ 1 ∷ 1 ∷ 1 ∷ 1 ∷ 1 ∷ 1 ∷ 1 ∷ 1 ∷ 1 ∷ []
  pub back_one : rates_back 2 slot_rates going 1 ≡ 2 ∷ 2 ∷ 2 ∷ 2 ∷ 2 ∷ 2 ∷ 2 ∷ 2 ∷ 2 ∷ []
  pub back_none : rates_back 2 [] going 0 ≡ going.litres
