-- The number of a line that is refused before its steps, and whether the inflow table has room.
-- Assumes nothing.
use Rattle.std.specs.Prelude.{◌≡◌, Bool, List, ℕ, ◌+◌, leb, length, Option}
use Rattle.reckon.specs.Tables.{inflow_kind, table_room}
use Rattle.rule.specs.declared.rules.Rules.{Rules}
use Rattle.ledger.specs.Runs.{Plan}
use Rattle.checks.specs.Given.{given, ground}
use Rattle.hatches.specs.Log.{line_refusal, evening, hatch_rows, line_fine, draw_fine}
use Rattle.hatches.specs.declared.lines.Entry.{Entry}
use Rattle.hatches.specs.declared.lines.Entry.TheVariants.{Hatch}
use Rattle.hatches.specs.declared.log.Hatches.{Hatches}
use Rattle.hatches.specs.declared.log.Log.{Log}

-- whatever else a step is given: of that no row speaks
abbrev pub EntryJudged : Plan → Rules → List ℕ → List ℕ → List ℕ → List ℕ → Log → Option Entry → ℕ → Type 0
EntryJudged p r inflow depths records began log entry n =
    (beds roughness rates rain lasts : List ℕ) →
    n ≡ line_refusal p (given (ground r beds roughness rates) rain inflow) (evening depths lasts records began log) entry

-- 12 of a hatch's line, which asks neither the rules nor its square, and 4, which does not ask its number
abbrev pub HatchLineJudged : Log → ℕ → Bool → Type 0
HatchLineJudged log n r = (rules : Rules) (row column : ℕ) → r ≡ line_fine rules log (Hatch n row column)

abbrev pub HatchDrawJudged : Plan → List ℕ → Log → ℕ → ℕ → Bool → Type 0
HatchDrawJudged p inflow log row column r = (n : ℕ) → r ≡ draw_fine p inflow log (Hatch n row column)

-- so many numbers, a row for each hatch, at whatever rates, and so many numbers more fit the table
abbrev pub TableFits : ℕ → Hatches → ℕ → Bool → Type 0
TableFits numbers hs more r = (litres : List ℕ) → r ≡ leb (numbers + length (hatch_rows hs litres) + more) (table_room inflow_kind)
