-- The demands as they concern a caller in another language: the eleven exported functions over the library's own calls; a step and a run are the same relation by either walk.
-- Assumes nothing.
use Rattle.std.specs.Prelude.{◌≡◌, true, false, List, [], ◌∷◌, ◌++◌, ℕ, ◌≤◌, ◌<◌, eqb, length, Float}
use Rattle.reckon.specs.Tests.{◌unless◌}
use Rattle.rule.specs.declared.rules.Rules.{Rules}
use Rattle.ledger.specs.declared.runs.Run.{Run}
use Rattle.ledger.specs.Runs.{Plan, World, seen_of}
use Rattle.ledger.specs.Record.{ring_of, newest_record}
use Rattle.ledger.specs.After.{late_refusals}
use Rattle.ledger.specs.TakeBack.{back_refusals}
use Rattle.checks.specs.Given.{Given}
use Rattle.moves.specs.Moves.{step_moves}
use Rattle.checks.specs.Refusals.{step_checks}
use Rattle.checks.specs.Fresh.{fresh_refusals}
use Rattle.flood.specs.Run.{run_to}
use Rattle.checks.specs.Bounds.{bounds_refusals}
use Rattle.sight.specs.Arrows.{view, arrow_refusals}
use Rattle.sight.specs.WetRows.{wet_refusals}
use Rattle.sheet.specs.Sheet.{Rooms}
use Rattle.exports.specs.Numbers.{rules_from, run_value_from, run_numbers, run_size, count_size}
use Rattle.exports.specs.Steps.{both_sized, ExportsFresh, ExportsStep, ExportsRun, ExportsBack, ran_sized}
use Rattle.exports.specs.Refusals.{last_check}
use Rattle.exports.specs.Bounds.{ExportsBounds, bounds_sized}
use Rattle.exports.specs.Sights.{ExportsArrow, ExportsWet, arrow_sized}
use Rattle.exports.specs.Sheets.{ExportsRead, ExportsMeadow, sheet_sized}
use Rattle.demands.specs.Table.{TableSays}
use Rattle.demands.specs.Loader.{sheet_refusals, AsLong}
use Rattle.demands.specs.Closed.{SameOpen, SameGiven, SameRecord, SameRoom, SameWorld}

-- ---- demand 1: "A refusal gives one number from the table in document 01, exactly when that table says": 1 where a slice lent for rules, a run
-- or an answer has not its size, before all else; then the library's own rows

module _ (p : Plan) where
  pub record ExportsExactlyWhen : Type 0 where
    pub fresh : (r : Rules) (before records rules old : List ℕ) (number : ℕ) (lasts run : List ℕ) → ExportsFresh p r before records rules old number lasts run →
        TableSays (1 unless both_sized rules old ∷ fresh_refusals p r before records) number
    pub step : (g : Given) (w : World) (rules old : List ℕ) (number : ℕ) (depths lasts records run : List ℕ) →
        ExportsStep p g w rules old number depths lasts records run →
        TableSays (1 unless both_sized rules old ∷ (step_checks p g (ring_of p w) (seen_of w) ++ late_refusals p (step_moves p g (seen_of w)) w)) number
    pub take_back : (w : World) (old : List ℕ) (number : ℕ) (depths lasts run : List ℕ) → ExportsBack p w old number depths lasts run →
        TableSays (1 unless eqb (length old) run_size ∷ back_refusals p w) number
    -- a run's own number is that of its checks or of the step that it stopped before
    pub run_unsized : (g : Given) (end : ℕ) (w : World) (rules old old_steps : List ℕ) (number : ℕ) (depths lasts records run steps : List ℕ) →
        ExportsRun p g end w rules old old_steps number depths lasts records run steps → ran_sized p g end w rules old old_steps ≡ false → number ≡ 1
    pub run-sized : (g : Given) (end : ℕ) (w : World) (rules old old_steps : List ℕ) (number : ℕ) (depths lasts records run steps : List ℕ) →
        ExportsRun p g end w rules old old_steps number depths lasts records run steps → ran_sized p g end w rules old old_steps ≡ true →
        number ≡ (run_to p g end w).number
    -- figures that do not hold have a number past every refusal's
    pub step_bounds : (clock end : ℕ) (rules old : List ℕ) (number : ℕ) (bounds : List ℕ) → ExportsBounds clock end rules old number bounds → number < 100 →
        TableSays (1 unless bounds_sized clock end rules old ∷ bounds_refusals (rules_from rules) clock end) number
    -- closed, dry and still have numbers past every refusal's
    pub arrow : (D : ℕ) (w : World) (row column : ℕ) (run : List ℕ) (old : List Float) (number : ℕ) (speeds : List Float) →
        ExportsArrow p D w row column run old number speeds → number < 100 →
        TableSays (1 unless arrow_sized p D w row column run old ∷ arrow_refusals p D w row column) number
    pub wet_rows : (depths : List ℕ) (least : ℕ) (old_rows old_count : List ℕ) (number : ℕ) (rows count : List ℕ) →
        ExportsWet p depths least old_rows old_count number rows count →
        TableSays (1 unless eqb (length old_count) count_size ∷ wet_refusals p depths least (length old_rows)) number
    pub read_sheet : (s : List ℕ) (before : Rooms) (old_heading old_line : List ℕ) (number : ℕ) (after : Rooms) (heading line : List ℕ) →
        ExportsRead s before old_heading old_line number after heading line →
        TableSays (1 unless sheet_sized s before old_heading old_line ∷ sheet_refusals s before) number

  -- ---- "and the run and everything lent stay as they were"

  pub record ExportsLeave : Type 0 where
    pub fresh : (r : Rules) (before records rules old : List ℕ) (number : ℕ) (lasts run : List ℕ) → ExportsFresh p r before records rules old number lasts run →
        (number ≡ 0 → ⊥) → (lasts ≡ before) × (run ≡ old)
    pub step : (g : Given) (w : World) (rules old : List ℕ) (number : ℕ) (depths lasts records run : List ℕ) →
        ExportsStep p g w rules old number depths lasts records run →
        (number ≡ 0 → ⊥) → (depths ≡ w.depths) × ((lasts ≡ w.lasts) × ((records ≡ w.records) × (run ≡ old)))
    pub take_back : (w : World) (old : List ℕ) (number : ℕ) (depths lasts run : List ℕ) → ExportsBack p w old number depths lasts run →
        (number ≡ 0 → ⊥) → (depths ≡ w.depths) × ((lasts ≡ w.lasts) × (run ≡ old))
    -- refused before its first step
    pub run-checks : (g : Given) (end : ℕ) (w : World) (rules old old_steps : List ℕ) (number : ℕ) (depths lasts records run steps : List ℕ) →
        ExportsRun p g end w rules old old_steps number depths lasts records run steps → w.run ≡ run_value_from old → 1 ≤ number → number ≤ last_check →
        (depths ≡ w.depths) × ((lasts ≡ w.lasts) × ((records ≡ w.records) × ((run ≡ old) × (steps ≡ old_steps))))
    -- "the exception to 'as it was'": refused by a later number, "it gives that number with the steps made and leaves the state before that step"
    pub run_steps : (g : Given) (end : ℕ) (w : World) (rules old old_steps : List ℕ) (number : ℕ) (depths lasts records run steps : List ℕ) →
        ExportsRun p g end w rules old old_steps number depths lasts records run steps → last_check < number →
        (depths ≡ (run_to p g end w).world.depths) × ((lasts ≡ (run_to p g end w).world.lasts) × ((records ≡ (run_to p g end w).world.records)
        × ((run ≡ run_numbers (run_to p g end w).world.run) × (steps ≡ (run_to p g end w).steps ∷ []))))
    -- refused, or where the figures do not hold
    pub step_bounds : (clock end : ℕ) (rules old : List ℕ) (number : ℕ) (bounds : List ℕ) → ExportsBounds clock end rules old number bounds →
        (number ≡ 0 → ⊥) → bounds ≡ old
    pub arrow : (D : ℕ) (w : World) (row column : ℕ) (run : List ℕ) (old : List Float) (number : ℕ) (speeds : List Float) →
        ExportsArrow p D w row column run old number speeds → (number ≡ 0 → ⊥) → speeds ≡ old
    pub wet_rows : (depths : List ℕ) (least : ℕ) (old_rows old_count : List ℕ) (number : ℕ) (rows count : List ℕ) →
        ExportsWet p depths least old_rows old_count number rows count → (number ≡ 0 → ⊥) → (rows ≡ old_rows) × (count ≡ old_count)
    -- but for `line`, which tells the line of the refusal
    pub read_sheet : (s : List ℕ) (before : Rooms) (old_heading old_line : List ℕ) (number : ℕ) (after : Rooms) (heading line : List ℕ) →
        ExportsRead s before old_heading old_line number after heading line → (number ≡ 0 → ⊥) → (after ≡ before) × (heading ≡ old_heading)
    -- a room too small for what is printed
    pub meadow : (s old : List ℕ) (long : ℕ) (out : List ℕ) → ExportsMeadow s old long out → long ≡ 0 → out ≡ old

  -- ---- demand 2: "no answer depends on it", where what a closed square holds is lent

  pub record ExportsNoneDepends : Type 0 where
    pub fresh : (r : Rules) (before others records rooms rules old : List ℕ) (number m : ℕ) (lasts lasts' run run' : List ℕ) →
        SameOpen p before others → SameRoom p records rooms → ExportsFresh p r before records rules old number lasts run →
        ExportsFresh p r others rooms rules old m lasts' run' →
        (number ≡ m) × (SameOpen p lasts lasts' × (run ≡ run'))
    pub step : (g h : Given) (w v : World) (rules old : List ℕ) (number m : ℕ) (depths depths' lasts lasts' records records' run run' : List ℕ) →
        SameGiven p g h → SameWorld p w v → ExportsStep p g w rules old number depths lasts records run →
        ExportsStep p h v rules old m depths' lasts' records' run' →
        (number ≡ m) × (SameOpen p depths depths' × (SameOpen p lasts lasts' × (SameRoom p records records' × (run ≡ run'))))
    pub run-to : (g h : Given) (end : ℕ) (w v : World) (rules old old_steps : List ℕ) (number m : ℕ)
        (depths depths' lasts lasts' records records' run run' steps steps' : List ℕ) → SameGiven p g h → SameWorld p w v →
        ExportsRun p g end w rules old old_steps number depths lasts records run steps →
        ExportsRun p h end v rules old old_steps m depths' lasts' records' run' steps' →
        (number ≡ m) × (SameOpen p depths depths' × (SameOpen p lasts lasts' × (SameRoom p records records' × ((run ≡ run') × (steps ≡ steps')))))
    pub take_back : (w v : World) (old : List ℕ) (number m : ℕ) (depths depths' lasts lasts' run run' : List ℕ) → SameWorld p w v →
        ExportsBack p w old number depths lasts run → ExportsBack p v old m depths' lasts' run' →
        (number ≡ m) × (SameOpen p depths depths' × (SameOpen p lasts lasts' × (run ≡ run')))
    pub arrow : (D : ℕ) (depths others room rest : List ℕ) (u : Run) (row column : ℕ) (run : List ℕ) (old : List Float) (number m : ℕ) (speeds speeds' : List Float) →
        SameOpen p depths others → length room ≡ length rest → SameRecord p (newest_record p (view depths room u)) (newest_record p (view others rest u)) →
        ExportsArrow p D (view depths room u) row column run old number speeds → ExportsArrow p D (view others rest u) row column run old m speeds' →
        (number ≡ m) × (speeds ≡ speeds')
    pub wet_rows : (depths others : List ℕ) (least : ℕ) (old_rows old_count : List ℕ) (number m : ℕ) (rows rows' count count' : List ℕ) → SameOpen p depths others →
        ExportsWet p depths least old_rows old_count number rows count → ExportsWet p others least old_rows old_count m rows' count' →
        (number ≡ m) × ((rows ≡ rows') × (count ≡ count'))
    pub read_sheet : (s : List ℕ) (a b : Rooms) (old_heading old_line : List ℕ) (number m : ℕ) (after after' : Rooms) (heading heading' line line' : List ℕ) →
        AsLong a b → ExportsRead s a old_heading old_line number after heading line → ExportsRead s b old_heading old_line m after' heading' line' →
        (number ≡ m) × ((heading ≡ heading') × (line ≡ line'))
