-- What a caller in another language has after each exported call: the demands of that one call, over the numbers and slices that were lent and
-- that came back. The functions of src/exported.rt make each call and promise it.
-- Assumes nothing.
use Rattle.std.specs.Prelude.{◌≡◌, true, false, List, [], ◌∷◌, ◌++◌, ℕ, ◌%◌, ◌≤◌, ◌<◌, eqb, length, get_or, Float}
use Rattle.reckon.specs.Tests.{◌unless◌}
use Rattle.rule.specs.Bounds.{most_steps, least_steps}
use Rattle.rule.specs.declared.rules.Rules.{Rules}
use Rattle.grid.specs.Squares.{squares}
use Rattle.ledger.specs.Runs.{Plan, World, world, seen_of}
use Rattle.ledger.specs.Flows.{shut}
use Rattle.ledger.specs.Record.{ring_of, room_slots}
use Rattle.ledger.specs.After.{late_refusals}
use Rattle.ledger.specs.TakeBack.{back_refusals}
use Rattle.ledger.specs.Walls.{Untouched}
use Rattle.checks.specs.Given.{Given}
use Rattle.moves.specs.Moves.{step_moves}
use Rattle.checks.specs.Refusals.{step_checks}
use Rattle.checks.specs.Bounds.{bounds_refusals, bounds_number}
use Rattle.checks.specs.Fresh.{fresh_refusals, fresh_run}
use Rattle.flood.specs.Run.{run_to}
use Rattle.sight.specs.Arrows.{arrow_refusals, seen_at}
use Rattle.sight.specs.WetRows.{wet_refusals}
use Rattle.sheet.specs.Sheet.{Rooms}
use Rattle.sheet.specs.declared.reading.Heading.{Heading}
use Rattle.sheet.specs.declared.reading.Sheet.TheVariants.{Read}
use Rattle.programs.specs.Program.{most_printed}
use Rattle.exports.specs.Numbers.{rules_from, run_value_from, run_size, count_size, heading_numbers}
use Rattle.exports.specs.Steps.{both_sized, ran_sized}
use Rattle.exports.specs.Refusals.{last_check, unless_checks}
use Rattle.exports.specs.Bounds.{bounds_sized}
use Rattle.exports.specs.Sights.{arrow_sized, sight_number, speeds_in}
use Rattle.exports.specs.Sheets.{sheet_sized}
use Rattle.demands.specs.Table.{TableSays}
use Rattle.demands.specs.Demand2.{StepGives}
use Rattle.demands.specs.Demand3.{stepping, taking_back, Fresh}
use Rattle.demands.specs.Loader.{SheetSays, sheet_refusals}
use Rattle.calls.specs.Library.{AfterRun, AfterRead, AfterMeadow}
use Rattle.demands.specs.Played.{Played}
use Rattle.demands.specs.WetAre.{WetAre}

module _ (p : Plan) where
  -- ---- a fresh run

  pub record AfterFloodFresh (r : Rules) (before records rules old : List ℕ) (number : ℕ) (lasts run : List ℕ) : Type 0 where
    -- 1 where a slice has not its size, before all else; then the table
    pub exactly_when : TableSays (1 unless both_sized rules old ∷ fresh_refusals p r before records) number
    pub as_it_was : (number ≡ 0 → ⊥) → (lasts ≡ before) × (run ≡ old)
    pub made : number ≡ 0 → run_value_from run ≡ fresh_run r (room_slots p records)
    pub none_left : number ≡ 0 → (i : ℕ) → i < squares p.shape → shut p i ≡ false → get_or lasts i 0 ≡ 0
    pub none_altered : (i : ℕ) → shut p i ≡ true → get_or lasts i 0 ≡ get_or before i 0
    pub begins : number ≡ 0 → (depths : List ℕ) → Fresh p (world depths lasts records (run_value_from run))

  -- ---- a step, by either walk: v is the world that it left, with the run that its slice tells

  pub record AfterFloodStep (g : Given) (w : World) (rules old : List ℕ) (number : ℕ) (v : World) (run : List ℕ) : Type 0 where
    pub exactly_when : TableSays (1 unless both_sized rules old ∷ (step_checks p g (ring_of p w) (seen_of w) ++ late_refusals p (step_moves p g (seen_of w)) w)) number
    pub as_it_was : (number ≡ 0 → ⊥) → (v ≡ w) × (run ≡ old)
    pub gives : number ≡ 0 → StepGives p g w v
    pub none_altered : Untouched p w v
    pub plays : number ≡ 0 → Played p (stepping g) w v

  -- ---- a run to an end, by either walk

  pub record AfterFloodRun (g : Given) (end : ℕ) (w : World) (rules old old_steps : List ℕ) (number : ℕ) (v : World) (run steps : List ℕ) : Type 0 where
    -- where a slice has not its size
    pub not_its_size : (ran_sized p g end w rules old old_steps ≡ true → ⊥) → (number ≡ 1) × ((v ≡ w) × ((run ≡ old) × (steps ≡ old_steps)))
    -- else what the library's own run answers
    pub ran : ran_sized p g end w rules old old_steps ≡ true →
        AfterRun p g end w (record { refused = number; steps = unless_checks number (get_or steps 0 0) 0; run = run_value_from run }) v
    -- refused before its first step, it tells none
    pub none_told : 1 ≤ number → number ≤ last_check → steps ≡ old_steps

  -- ---- a take-back

  pub record AfterFloodBack (w : World) (old : List ℕ) (number : ℕ) (v : World) (run : List ℕ) : Type 0 where
    pub exactly_when : TableSays (1 unless eqb (length old) run_size ∷ back_refusals p w) number
    pub as_it_was : (number ≡ 0 → ⊥) → (v ≡ w) × (run ≡ old)
    pub none_altered : Untouched p w v
    pub plays : number ≡ 0 → Played p taking_back w v

  -- ---- flow arrows and wet rows

  pub record AfterFloodArrow (D : ℕ) (w : World) (row column : ℕ) (run : List ℕ) (old : List Float) (number : ℕ) (speeds : List Float) : Type 0 where
    pub exactly_when : number < 100 → TableSays (1 unless arrow_sized p D w row column run old ∷ arrow_refusals p D w row column) number
    pub as_it_was : (number ≡ 0 → ⊥) → speeds ≡ old
    pub seen : arrow_sized p D w row column run old ≡ true →
        (number ≡ sight_number (seen_at p D w row column)) × (speeds ≡ speeds_in (seen_at p D w row column) old)

  pub record AfterFloodWet (depths : List ℕ) (least : ℕ) (old_rows old_count : List ℕ) (number : ℕ) (rows count : List ℕ) : Type 0 where
    pub exactly_when : TableSays (1 unless eqb (length old_count) count_size ∷ wet_refusals p depths least (length old_rows)) number
    pub as_it_was : (number ≡ 0 → ⊥) → (rows ≡ old_rows) × (count ≡ old_count)
    pub wet : number ≡ 0 → (ones : ℕ) × ((count ≡ ones ∷ []) × WetAre p depths least rows ones)

-- ---- the figures before a run

pub record AfterFloodBounds (clock end : ℕ) (rules old : List ℕ) (number : ℕ) (bounds : List ℕ) : Type 0 where
  pub exactly_when : number < 100 → TableSays (1 unless bounds_sized clock end rules old ∷ bounds_refusals (rules_from rules) clock end) number
  pub as_it_was : (number ≡ 0 → ⊥) → bounds ≡ old
  -- the most and the least, wherever document 02 asks for them
  pub told : bounds_sized clock end rules old ≡ true → bounds_number (rules_from rules) clock end ≡ 0 → clock % (rules_from rules).update ≡ 0 → clock ≤ end →
      (number ≡ 0) × (bounds ≡ most_steps (rules_from rules) clock end ∷ least_steps (rules_from rules) clock end ∷ [])
  pub counted : number ≡ 0 → (p : Plan) (g : Given) (w : World) → g.lie.rules ≡ rules_from rules → w.run.clock ≡ clock →
      ((run_to p g end w).steps ≤ get_or bounds 0 0) × ((run_to p g end w).number ≡ 0 → get_or bounds 1 0 ≤ (run_to p g end w).steps)

-- ---- a sheet, and `meadow`

pub record AfterFloodRead (s : List ℕ) (before : Rooms) (old_heading old_line : List ℕ) (number : ℕ) (after : Rooms) (heading line : List ℕ) : Type 0 where
  pub exactly_when : TableSays (1 unless sheet_sized s before old_heading old_line ∷ sheet_refusals s before) number
  -- 0 where the sheet is read or the number is not 12
  pub line_told : sheet_sized s before old_heading old_line ≡ true → (said : ℕ) × ((line ≡ said ∷ []) × SheetSays s before number said)
  -- but for `line`, which tells the line of the refusal
  pub as_it_was : (number ≡ 0 → ⊥) → (after ≡ before) × (heading ≡ old_heading)
  pub read : number ≡ 0 → (h : Heading) × ((heading ≡ heading_numbers h) × AfterRead s before (Read h) after)

pub record AfterFloodMeadow (s old : List ℕ) (long : ℕ) (out : List ℕ) : Type 0 where
  -- a room too small for what is printed
  pub not_its_size : length old < most_printed → (long ≡ 0) × (out ≡ old)
  pub printed : most_printed ≤ length old → AfterMeadow s old out long
