-- The letter's demand 1, "does nothing undefined": the contract of every entry point leaves one outcome for every input, crate by crate. Of a
-- layer function its own crate says so.
-- Assumes nothing.
use Rattle.std.specs.Prelude.{List, ℕ, Float, Option}
use Rattle.reckon.specs.Outcomes.{One}
use Rattle.rule.specs.declared.rules.Rules.{Rules}
use Rattle.ledger.specs.Runs.{Plan, World}
use Rattle.ledger.specs.TakeBack.{TakesBack}
use Rattle.ledger.specs.declared.runs.Run.{Run}
use Rattle.ledger.specs.declared.runs.Answer.{Answer}
use Rattle.checks.specs.Given.{Given}
use Rattle.flood.specs.Step.{Steps}
use Rattle.checks.specs.Refusals.{Checks, ChecksStep}
use Rattle.checks.specs.Bounds.{BoundsSteps}
use Rattle.checks.specs.Fresh.{Freshens}
use Rattle.flood.specs.Run.{RunsTo}
use Rattle.flood.specs.declared.run.Ran.{Ran}
use Rattle.sight.specs.AllArrows.{Sights, SeesAll}
use Rattle.sight.specs.Arrows.{Sees}
use Rattle.sight.specs.WetRows.{WetRowed}
use Rattle.sight.specs.declared.wet_rows.Wet.{Wet}
use Rattle.sheet.specs.Sheet.{Rooms, Reads}
use Rattle.programs.specs.Program.{Prints, meadow_text}
use Rattle.sheet.specs.declared.reading.Sheet.{Sheet}
use Rattle.exports.specs.Steps.{ExportsFresh, ExportsStep, ExportsRun, ExportsBack}
use Rattle.exports.specs.Bounds.{ExportsBounds}
use Rattle.exports.specs.Sights.{ExportsArrow, ExportsWet}
use Rattle.exports.specs.Sheets.{ExportsRead, ExportsMeadow}
use Rattle.hours.specs.Hours.{hours_text}
use Rattle.peaks.specs.Peaks.{RunsPeaking}
use Rattle.peaks.specs.Highest.{highest_text}
use Rattle.holes.specs.Repaired.{PrintsRepair}
use Rattle.survey.specs.Sets.{Set}
use Rattle.survey.specs.Moving.{MovesPart, MovesSet}
use Rattle.survey.specs.declared.moving.Part.{Part}
use Rattle.survey.specs.declared.moving.Moved.{Moved}
use Rattle.display.specs.Watch.{Watches, WatchesHeld}
use Rattle.display.specs.declared.boards.Board.{Board}
use Rattle.display.specs.declared.boards.Boards.{Boards}
use Rattle.display.specs.declared.boards.Shown.{Shown}
use Rattle.display_exports.specs.Boards.{ExportsBoards}
use Rattle.levels.specs.Program.{boards_text}
use Rattle.lists.specs.Names.{ListRead}
use Rattle.lists.specs.Sheets.{File}
use Rattle.lists.specs.Tally as Lists
use Rattle.lists.specs.Tally.{TakesSheet, PutsDrowned}
use Rattle.lists.specs.declared.tally.Tally.{Tally}
use Rattle.hatches.specs.Log.{Evening, evening}
use Rattle.evenings.specs.Taking.{TakesEntry}
use Rattle.evenings.specs.Shown.{TakesLine}
use Rattle.evenings.specs.Program.{Stores, Begins, GoesOn}
use Rattle.hatches.specs.declared.lines.Entry.{Entry}
use Rattle.evenings.specs.declared.taking.EntryTaken.{EntryTaken}
use Rattle.evenings.specs.declared.telling.LineTaken.{LineTaken}
use Rattle.evenings.specs.declared.program.Night.{Night}
use Rattle.desks.specs.Orders.{order}
use Rattle.desks.specs.Command.{command_left, step_left, Leaves}
use Rattle.desks.specs.declared.state.Desk.{Desk}
use Rattle.demands.specs.HatchLog.{stores_with}

pub record LedgerDetermined : Type 0 where
  pub take_back : (p : Plan) (w : World) → One {Out = Answer × (List ℕ × List ℕ)} (λ o. TakesBack p w o.0 o.1.0 o.1.1)

pub record ChecksDetermined : Type 0 where
  pub check : (p : Plan) (g : Given) (end : ℕ) (depths lasts : List ℕ) (numbers : ℕ) (u : Run) → One (Checks p g end depths lasts numbers u)
  pub check_step : (p : Plan) (g : Given) (depths lasts : List ℕ) (numbers : ℕ) (u : Run) → One (ChecksStep p g depths lasts numbers u)
  pub fresh : (p : Plan) (r : Rules) (before records : List ℕ) → One {Out = Answer × List ℕ} (λ o. Freshens p r before records o.0 o.1)
  pub step_bounds : (r : Rules) (clock end : ℕ) → One (BoundsSteps r clock end)

-- by either walk
pub record FloodDetermined : Type 0 where
  pub step : (p : Plan) (g : Given) (w : World) → One {Out = Answer × (List ℕ × (List ℕ × List ℕ))} (λ o. Steps p g w o.0 o.1.0 o.1.1.0 o.1.1.1)
  pub run-to : (p : Plan) (g : Given) (end : ℕ) (w : World) →
      One {Out = Ran × (List ℕ × (List ℕ × List ℕ))} (λ o. RunsTo p g end w o.0 o.1.0 o.1.1.0 o.1.1.1)

-- what `all_arrows` leaves in its three rooms stands together
pub record SightDetermined : Type 0 where
  pub arrow : (p : Plan) (D : ℕ) (w : World) (row column : ℕ) → One (Sees p D w row column)
  pub all_arrows : (p : Plan) (D : ℕ) (w : World) (old : Sights) → One {Out = ℕ × Sights} (λ o. SeesAll p D w old o.0 o.1)
  pub wet_rows : (p : Plan) (depths : List ℕ) (least : ℕ) (old : List ℕ) → One {Out = Wet × List ℕ} (λ o. WetRowed p depths least old o.0 o.1)

-- what `read` leaves in its seven rooms stands together
pub record SheetDetermined : Type 0 where
  pub read : (text : List ℕ) (before : Rooms) → One {Out = Sheet × Rooms} (λ o. Reads text before o.0 o.1)

pub record ProgramsDetermined : Type 0 where
  pub meadow_of : (text old : List ℕ) → One {Out = ℕ × List ℕ} (λ o. Prints (meadow_text text) old o.1 o.0)

pub record SlicesDetermined : Type 0 where
  pub meadow-told : (text old : List ℕ) → One {Out = ℕ × List ℕ} (λ o. Prints (meadow_text text) old o.1 o.0)

pub record HoursDetermined : Type 0 where
  pub hours_of : (text old : List ℕ) → One {Out = ℕ × List ℕ} (λ o. Prints (hours_text text) old o.1 o.0)

pub record PeaksDetermined : Type 0 where
  pub run-peaks : (p : Plan) (g : Given) (end : ℕ) (w : World) (peaks clocks : List ℕ) →
      One {Out = Ran × (List ℕ × (List ℕ × (List ℕ × (List ℕ × List ℕ))))}
      (λ o. RunsPeaking p g end w peaks clocks o.0 o.1.0 o.1.1.0 o.1.1.1.0 o.1.1.1.1.0 o.1.1.1.1.1)
  pub highest_of : (text old : List ℕ) → One {Out = ℕ × List ℕ} (λ o. Prints (highest_text text) old o.1 o.0)

pub record SurveyDetermined : Type 0 where
  pub to_part : (text : List ℕ) (part : Part) (old : List ℕ) → One {Out = Moved × List ℕ} (λ o. MovesPart text part old o.0 o.1)
  pub from_set : (t : Set) (old : List ℕ) → One {Out = Moved × List ℕ} (λ o. MovesSet t old o.0 o.1)

pub record HolesDetermined : Type 0 where
  pub repair_of : (text old : List ℕ) → One {Out = ℕ × List ℕ} (λ o. PrintsRepair text old o.1 o.0)

-- a run with boards, by value and lent
pub record DisplayDetermined : Type 0 where
  pub run_boards : (p : Plan) (g : Given) (end : ℕ) (w : World) (before : Boards) →
      One {Out = Shown × (List ℕ × (List ℕ × List ℕ))} (λ o. WatchesHeld p g end w before o.0 o.1.0 o.1.1.0 o.1.1.1)
  pub run_to_boards : (p : Plan) (g : Given) (end : ℕ) (w : World) (n : ℕ) (before : List Board) →
      One {Out = Ran × (List Board × (List ℕ × (List ℕ × List ℕ)))}
      (λ o. Watches p g end w n before o.0 o.1.1.0 o.1.1.1.0 o.1.1.1.1 o.1.0)

-- what other languages call with boards
pub record DisplayExportsDetermined : Type 0 where
  pub run_to_boards : (p : Plan) (g : Given) (end : ℕ) (w : World) (n : ℕ) (before : List Board) (rules old old_steps : List ℕ) →
      One {Out = ℕ × (List ℕ × (List ℕ × (List ℕ × (List ℕ × (List ℕ × List Board)))))}
      (λ o. ExportsBoards p g end w n before rules old old_steps o.0 o.1.0 o.1.1.0 o.1.1.1.0 o.1.1.1.1.0 o.1.1.1.1.1.0 o.1.1.1.1.1.1)

pub record LevelsDetermined : Type 0 where
  pub boards_of : (sheet boards old : List ℕ) → One {Out = ℕ × List ℕ} (λ o. Prints (boards_text sheet boards) old o.1 o.0)

-- what a list keeps in its five rooms stands together
pub record ListsDetermined : Type 0 where
  pub read_list : (text : List ℕ) → One (ListRead text)
  pub begin_tally : (wet : ℕ) → One (Lists.Begins wet)
  pub take_sheet : (t : Tally) (f : File) (r : Lists.Rooms) → One {Out = Tally × Lists.Rooms} (λ o. TakesSheet t f r o.0 o.1)
  pub put_drowned : (t : Tally) (r : Lists.Rooms) (old : List ℕ) → One {Out = ℕ × List ℕ} (λ o. PutsDrowned t r old o.1 o.0)

-- `take_entry` and `take_line` tell the log's own value beside the rooms
pub record EveningsDetermined : Type 0 where
  pub take_entry : (p : Plan) (g : Given) (entry : Option Entry) (e : Evening) →
      One {Out = EntryTaken × (List ℕ × (List ℕ × (List ℕ × List ℕ)))}
      (λ o. TakesEntry p g entry e o.0.number (evening o.1.0 o.1.1.0 o.1.1.1.0 o.1.1.1.1 o.0.log))
  pub take_line : (p : Plan) (g : Given) (s : List ℕ) (at line : ℕ) (e : Evening) (old : List ℕ) →
      One {Out = LineTaken × (List ℕ × (List ℕ × (List ℕ × (List ℕ × List ℕ))))}
      (λ o. TakesLine p g s at line e o.0 (evening o.1.0 o.1.1.0 o.1.1.1.0 o.1.1.1.1.0 o.0.log) old o.1.1.1.1.1)
  pub begin_log : (sheet log old : List ℕ) → One {Out = Night × (Stores × List ℕ)} (λ o. Begins sheet log o.0 o.1.0 old o.1.1)
  pub go_on : (s : List ℕ) (n : Night) (r : Stores) (old : List ℕ) →
      One {Out = Night × (List ℕ × (List ℕ × (List ℕ × (List ℕ × List ℕ))))}
      (λ o. GoesOn s n r o.0 o.1.0 o.1.1.0 o.1.1.1.0 o.1.1.1.1.0 old o.1.1.1.1.1)

-- what `command` leaves in its ten rooms stands together
pub record DesksDetermined : Type 0 where
  pub command : (d : Desk) (r : Stores) (text line old : List ℕ) →
      One {Out = Desk × (Stores × List ℕ)} (λ o. Leaves (command_left d r text (order line)) o.0 o.1.0 old o.1.1)
  pub make_next : (d : Desk) (r : Stores) (old : List ℕ) →
      One {Out = Desk × (List ℕ × (List ℕ × (List ℕ × (List ℕ × List ℕ))))}
      (λ o. Leaves (step_left d r) o.0 (stores_with r o.1.0 o.1.1.0 o.1.1.1.0 o.1.1.1.1.0) old o.1.1.1.1.1)

-- what other languages call
pub record ExportsDetermined : Type 0 where
  pub fresh : (p : Plan) (r : Rules) (before records rules old : List ℕ) →
      One {Out = ℕ × (List ℕ × List ℕ)} (λ o. ExportsFresh p r before records rules old o.0 o.1.0 o.1.1)
  pub step : (p : Plan) (g : Given) (w : World) (rules old : List ℕ) →
      One {Out = ℕ × (List ℕ × (List ℕ × (List ℕ × List ℕ)))} (λ o. ExportsStep p g w rules old o.0 o.1.0 o.1.1.0 o.1.1.1.0 o.1.1.1.1)
  pub step_wet : (p : Plan) (g : Given) (w : World) (rules old : List ℕ) →
      One {Out = ℕ × (List ℕ × (List ℕ × (List ℕ × List ℕ)))} (λ o. ExportsStep p g w rules old o.0 o.1.0 o.1.1.0 o.1.1.1.0 o.1.1.1.1)
  pub run-to : (p : Plan) (g : Given) (end : ℕ) (w : World) (rules old old_steps : List ℕ) →
      One {Out = ℕ × (List ℕ × (List ℕ × (List ℕ × (List ℕ × List ℕ))))}
      (λ o. ExportsRun p g end w rules old old_steps o.0 o.1.0 o.1.1.0 o.1.1.1.0 o.1.1.1.1.0 o.1.1.1.1.1)
  pub run_to_wet : (p : Plan) (g : Given) (end : ℕ) (w : World) (rules old old_steps : List ℕ) →
      One {Out = ℕ × (List ℕ × (List ℕ × (List ℕ × (List ℕ × List ℕ))))}
      (λ o. ExportsRun p g end w rules old old_steps o.0 o.1.0 o.1.1.0 o.1.1.1.0 o.1.1.1.1.0 o.1.1.1.1.1)
  pub take_back : (p : Plan) (w : World) (old : List ℕ) →
      One {Out = ℕ × (List ℕ × (List ℕ × List ℕ))} (λ o. ExportsBack p w old o.0 o.1.0 o.1.1.0 o.1.1.1)
  pub step_bounds : (clock end : ℕ) (rules old : List ℕ) → One {Out = ℕ × List ℕ} (λ o. ExportsBounds clock end rules old o.0 o.1)
  pub arrow : (p : Plan) (D : ℕ) (w : World) (row column : ℕ) (run : List ℕ) (old : List Float) →
      One {Out = ℕ × List Float} (λ o. ExportsArrow p D w row column run old o.0 o.1)
  pub wet_rows : (p : Plan) (depths : List ℕ) (least : ℕ) (old_rows old_count : List ℕ) →
      One {Out = ℕ × (List ℕ × List ℕ)} (λ o. ExportsWet p depths least old_rows old_count o.0 o.1.0 o.1.1)
  pub read_sheet : (text : List ℕ) (before : Rooms) (old_heading old_line : List ℕ) →
      One {Out = ℕ × (Rooms × (List ℕ × List ℕ))} (λ o. ExportsRead text before old_heading old_line o.0 o.1.0 o.1.1.0 o.1.1.1)
  pub meadow : (text old : List ℕ) → One {Out = ℕ × List ℕ} (λ o. ExportsMeadow text old o.0 o.1)

-- ---- all of it

pub record Determined : Type 0 where
  pub ledger : LedgerDetermined
  pub checks : ChecksDetermined
  pub flood : FloodDetermined
  pub sight : SightDetermined
  pub sheet : SheetDetermined
  pub programs : ProgramsDetermined
  pub slices : SlicesDetermined
  pub hours : HoursDetermined
  pub peaks : PeaksDetermined
  pub survey : SurveyDetermined
  pub holes : HolesDetermined
  pub display : DisplayDetermined
  pub display_exports : DisplayExportsDetermined
  pub levels : LevelsDetermined
  pub lists : ListsDetermined
  pub evenings : EveningsDetermined
  pub desks : DesksDetermined
  pub exports : ExportsDetermined
