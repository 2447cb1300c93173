-- The contract of every entry point leaves one outcome: each is an equation for all that a call gives.
-- Assumes nothing.
use mathlib.Core.Path.{◌≡◌, sym, ap, ap₂, ◌∙◌}
use mathlib.Core.List.{List, ◌++◌}
use lib.ListN.{length, replicate, length-replicate, take-append-drop}
use Prim.Native.Nat.{ℕ}
use Rattle.std.specs.Prelude.{Option}
use Rattle.reckon.specs.Outcomes.{One}
use Rattle.reckon.proofs.OutcomeLaws.{exactly}
use Rattle.rule.specs.declared.rules.Rules.{Rules}
use Rattle.ledger.specs.Runs.{Plan, World}
use Rattle.ledger.specs.TakeBack.{TakesBack}
use Rattle.ledger.specs.declared.runs.Answer.{Answer}
use Rattle.checks.specs.Given.{Given}
use Rattle.flood.specs.Step.{Steps}
use Rattle.checks.specs.Fresh.{Freshens}
use Rattle.flood.specs.Run.{RunsTo}
use Rattle.flood.specs.declared.run.Ran.{Ran}
use Rattle.sight.specs.WetRows.{WetRowed}
use Rattle.sight.specs.declared.wet_rows.Wet.{Wet}
use Rattle.text.proofs.Determined.{written}
use Rattle.sheet.specs.Sheet.{Rooms, Reads, rooms_after}
use Rattle.sheet.specs.declared.reading.Sheet.{Sheet}
use Rattle.exports.specs.Steps.{ExportsStep, ExportsRun}
use Rattle.demands.specs.Determined.{LedgerDetermined, ChecksDetermined, FloodDetermined, SightDetermined, SheetDetermined, ProgramsDetermined, SlicesDetermined, HoursDetermined, PeaksDetermined, SurveyDetermined, HolesDetermined, DisplayDetermined, DisplayExportsDetermined, LevelsDetermined, ListsDetermined, EveningsDetermined, DesksDetermined, ExportsDetermined, Determined}
use Rattle.peaks.specs.Peaks.{RunsPeaking}
use Rattle.display.proofs.Determined as Display
use Rattle.display_exports.proofs.Determined.{exports_boards_one}
use Rattle.lists.specs.Sheets.{File}
use Rattle.lists.specs.Tally as Lists
use Rattle.lists.specs.Tally.{TakesSheet}
use Rattle.lists.specs.declared.tally.Tally.{Tally}
use Rattle.hatches.specs.Log.{Evening, evening}
use Rattle.evenings.specs.Taking.{TakesEntry}
use Rattle.evenings.specs.Shown.{TakesLine}
use Rattle.evenings.specs.Program.{Stores, Holds, Begins, GoesOn}
use Rattle.hatches.specs.declared.lines.Entry.{Entry}
use Rattle.evenings.specs.declared.taking.EntryTaken.{EntryTaken}
use Rattle.evenings.specs.declared.telling.LineTaken.{LineTaken}
use Rattle.evenings.specs.declared.program.Night.{Night}
use Rattle.desks.specs.Orders.{order}
use Rattle.desks.specs.Command.{command_left, step_left, Leaves}
use Rattle.desks.specs.declared.state.Desk.{Desk}
use Rattle.demands.specs.HatchLog.{stores_with}

-- ---- one outcome

-- whatever record room of so many numbers, there is one
room_one : {f : List ℕ → ℕ} {numbers : ℕ} → One (λ r. (records : List ℕ) → length records ≡ numbers → r ≡ f records)
room_one {f} {numbers} a b x y =
    let there = length-replicate {A = ℕ} numbers 0 in
    x (replicate numbers 0) there ∙ sym (y (replicate numbers 0) there)

taken_one : {p : Plan} {w : World} → One {Out = Answer × (List ℕ × List ℕ)} (λ o. TakesBack p w o.0 o.1.0 o.1.1)
taken_one a b x y = λ j. ((x.answer ∙ sym y.answer) j, ((x.depths_are ∙ sym y.depths_are) j, (x.lasts_are ∙ sym y.lasts_are) j))

fresh_one : {p : Plan} {r : Rules} {before records : List ℕ} → One {Out = Answer × List ℕ} (λ o. Freshens p r before records o.0 o.1)
fresh_one a b x y = λ j. ((x.answer ∙ sym y.answer) j, (x.lasts_are ∙ sym y.lasts_are) j)

step_one : {p : Plan} {g : Given} {w : World} → One {Out = Answer × (List ℕ × (List ℕ × List ℕ))} (λ o. Steps p g w o.0 o.1.0 o.1.1.0 o.1.1.1)
step_one a b x y =
    λ j. (
      (x.answer ∙ sym y.answer) j,
      ((x.depths_are ∙ sym y.depths_are) j, ((x.lasts_are ∙ sym y.lasts_are) j, (x.records_are ∙ sym y.records_are) j)),
    )

run_one : {p : Plan} {g : Given} {end : ℕ} {w : World} →
    One {Out = Ran × (List ℕ × (List ℕ × List ℕ))} (λ o. RunsTo p g end w o.0 o.1.0 o.1.1.0 o.1.1.1)
run_one a b x y =
    let e = x.ends ∙ sym y.ends in
    λ j. (record { refused = (e j).number; steps = (e j).steps; run = (e j).world.run }, ((e j).world.depths, ((e j).world.lasts, (e j).world.records)))

peaks_one : {p : Plan} {g : Given} {end : ℕ} {w : World} {peaks clocks : List ℕ} →
    One {Out = Ran × (List ℕ × (List ℕ × (List ℕ × (List ℕ × List ℕ))))}
    (λ o. RunsPeaking p g end w peaks clocks o.0 o.1.0 o.1.1.0 o.1.1.1.0 o.1.1.1.1.0 o.1.1.1.1.1)
peaks_one a b x y =
    let e = x.ends ∙ sym y.ends in
    λ j. (
      record { refused = (e j).number; steps = (e j).steps; run = (e j).world.run },
      (
        (e j).world.depths,
        ((e j).world.lasts, ((e j).world.records, ((x.peaks_are ∙ sym y.peaks_are) j, (x.clocks_are ∙ sym y.clocks_are) j))),
      ),
    )

sheet_one : {t : Tally} {f : File} {r : Lists.Rooms} → One {Out = Tally × Lists.Rooms} (λ o. TakesSheet t f r o.0 o.1)
sheet_one a b x y = λ j. ((x.tally_is ∙ sym y.tally_is) j, (x.rooms_are ∙ sym y.rooms_are) j)

wet_one : {p : Plan} {depths : List ℕ} {least : ℕ} {old : List ℕ} → One {Out = Wet × List ℕ} (λ o. WetRowed p depths least old o.0 o.1)
wet_one a b x y = λ j. ((x.answer ∙ sym y.answer) j, (x.rows_are ∙ sym y.rows_are) j)

read_one : {text : List ℕ} {before : Rooms} → One {Out = Sheet × Rooms} (λ o. Reads text before o.0 o.1)
read_one {text} {before} a b x y =
    let answers = x.answer ∙ sym y.answer in
    let filled = x.rooms_are ∙ (ap (λ (z : Sheet). rooms_after text z before) answers ∙ sym y.rooms_are) in
    λ j. (answers j, filled j)

-- ---- crate by crate

ledger_determined : LedgerDetermined
ledger_determined = record { take_back = λ p w. taken_one }

checks_determined : ChecksDetermined
checks_determined =
    record {
      check = λ p g end depths lasts numbers u. room_one;
      check_step = λ p g depths lasts numbers u. room_one;
      fresh = λ p r before records. fresh_one;
      step_bounds = λ r clock end. exactly;
    }

pub flood_determined : FloodDetermined
flood_determined = record { step = λ p g w. step_one; run-to = λ p g end w. run_one }

sight_determined : SightDetermined
sight_determined =
    record {
      arrow = λ p D w row column. exactly;
      all_arrows = λ p D w old a b x y. (λ j. ((x.number_is ∙ sym y.number_is) j, (x.rooms_are ∙ sym y.rooms_are) j));
      wet_rows = λ p depths least old. wet_one;
    }

sheet_determined : SheetDetermined
sheet_determined = record { read = λ text before. read_one }

programs_determined : ProgramsDetermined
programs_determined = record { meadow_of = λ text old a b x y. written a b x.wrote y.wrote }

slices_determined : SlicesDetermined
slices_determined = record { meadow-told = programs_determined.meadow_of }

hours_determined : HoursDetermined
hours_determined = record { hours_of = λ text old a b x y. written a b x.wrote y.wrote }

peaks_determined : PeaksDetermined
peaks_determined =
    record {
      run-peaks = λ p g end w peaks clocks. peaks_one;
      highest_of = λ text old a b x y. written a b x.wrote y.wrote;
    }

survey_determined : SurveyDetermined
survey_determined =
    record {
      to_part = λ text part old a b x y. λ j. ((x.answer ∙ sym y.answer) j, (x.room ∙ sym y.room) j);
      from_set = λ t old a b x y. λ j. ((x.answer ∙ sym y.answer) j, (x.room ∙ sym y.room) j);
    }

holes_determined : HolesDetermined
holes_determined = record { repair_of = λ text old a b x y. written a b x.wrote y.wrote }

display_determined : DisplayDetermined
display_determined =
    record { run_boards = λ p g end w before. Display.held_one; run_to_boards = λ p g end w n before. Display.watches_one }

display_exports_determined : DisplayExportsDetermined
display_exports_determined = record { run_to_boards = λ p g end w n before rules old old_steps. exports_boards_one }

levels_determined : LevelsDetermined
levels_determined = record { boards_of = λ sheet boards old a b x y. written a b x.wrote y.wrote }

lists_determined : ListsDetermined
lists_determined =
    record {
      read_list = λ text a b x y. x ∙ sym y;
      begin_tally = λ wet a b x y. x ∙ sym y;
      take_sheet = λ t f r. sheet_one;
      put_drowned = λ t r old a b x y. written a b x.wrote y.wrote;
    }

-- a room of which the first numbers and the rest are known
held_one : {n : ℕ} {part old a b : List ℕ} → Holds n part old a → Holds n part old b → a ≡ b
held_one {n} {a = a} {b} x y =
    sym (take-append-drop n a) ∙ (ap₂ (λ (l m : List ℕ). l ++ m) (x.first ∙ sym y.first) (x.rest ∙ sym y.rest) ∙ take-append-drop n b)

entry_one :
    {p : Plan} {g : Given} {entry : Option Entry} {e : Evening} →
    One {Out = EntryTaken × (List ℕ × (List ℕ × (List ℕ × List ℕ)))}
    (λ o. TakesEntry p g entry e o.0.number (evening o.1.0 o.1.1.0 o.1.1.1.0 o.1.1.1.1 o.0.log))
entry_one a b x y =
    let n = x.number_is ∙ sym y.number_is in
    let v = x.evening_is ∙ sym y.evening_is in
    λ j. (record { number = n j; log = (v j).log }, ((v j).depths, ((v j).lasts, ((v j).records, (v j).began))))

line-one :
    {p : Plan} {g : Given} {s : List ℕ} {at line : ℕ} {e : Evening} {old : List ℕ} →
    One {Out = LineTaken × (List ℕ × (List ℕ × (List ℕ × (List ℕ × List ℕ))))}
    (λ o. TakesLine p g s at line e o.0 (evening o.1.0 o.1.1.0 o.1.1.1.0 o.1.1.1.1.0 o.0.log) old o.1.1.1.1.1)
line-one a b x y =
    let n = x.number_is ∙ sym y.number_is in
    let k = x.next_is ∙ sym y.next_is in
    let v = x.evening_is ∙ sym y.evening_is in
    let t = written (a.0.length, a.1.1.1.1.1) (b.0.length, b.1.1.1.1.1) x.prints.wrote y.prints.wrote in
    λ j. (
      record { number = n j; next = k j; length = (t j).0; log = (v j).log },
      ((v j).depths, ((v j).lasts, ((v j).records, ((v j).began, (t j).1)))),
    )

begun_one : {sheet log old : List ℕ} → One {Out = Night × (Stores × List ℕ)} (λ o. Begins sheet log o.0 o.1.0 old o.1.1)
begun_one a b x y =
    let t = written (a.0.length, a.1.1) (b.0.length, b.1.1) x.prints.wrote y.prints.wrote in
    λ j. ((x.begun_is ∙ sym y.begun_is) j, ((x.stores_are ∙ sym y.stores_are) j, (t j).1))

going_one :
    {s : List ℕ} {n : Night} {r : Stores} {old : List ℕ} →
    One {Out = Night × (List ℕ × (List ℕ × (List ℕ × (List ℕ × List ℕ))))}
    (λ o. GoesOn s n r o.0 o.1.0 o.1.1.0 o.1.1.1.0 o.1.1.1.1.0 old o.1.1.1.1.1)
going_one a b x y =
    let t = written (a.0.length, a.1.1.1.1.1) (b.0.length, b.1.1.1.1.1) x.prints.wrote y.prints.wrote in
    λ j. (
      (x.night_is ∙ sym y.night_is) j,
      (
        held_one x.depths_are y.depths_are j,
        (held_one x.lasts_are y.lasts_are j, (held_one x.records_are y.records_are j, (held_one x.began_are y.began_are j, (t j).1))),
      ),
    )

evenings_determined : EveningsDetermined
evenings_determined =
    record {
      take_entry = λ p g entry e. entry_one;
      take_line = λ p g s at line e old. line-one;
      begin_log = λ sheet log old. begun_one;
      go_on = λ s n r old. going_one;
    }

command_one :
    (d : Desk) (r : Stores) (text line old : List ℕ) →
    One {Out = Desk × (Stores × List ℕ)} (λ o. Leaves (command_left d r text (order line)) o.0 o.1.0 old o.1.1)
command_one d r text line old a b x y =
    λ j. (
      (x.desk_is ∙ sym y.desk_is) j,
      ((x.rooms_are ∙ sym y.rooms_are) j, (x.puts.wrote.room ∙ sym y.puts.wrote.room) j),
    )

next_one :
    (d : Desk) (r : Stores) (old : List ℕ) →
    One {Out = Desk × (List ℕ × (List ℕ × (List ℕ × (List ℕ × List ℕ))))}
    (λ o. Leaves (step_left d r) o.0 (stores_with r o.1.0 o.1.1.0 o.1.1.1.0 o.1.1.1.1.0) old o.1.1.1.1.1)
next_one d r old a b x y =
    let v = x.rooms_are ∙ sym y.rooms_are in
    λ j. (
      (x.desk_is ∙ sym y.desk_is) j,
      (
        (v j).sheet.cells.depths,
        ((v j).lasts, ((v j).records, ((v j).began, (x.puts.wrote.room ∙ sym y.puts.wrote.room) j))),
      ),
    )

desks_determined : DesksDetermined
desks_determined = record { command = command_one; make_next = next_one }

exported_step_one :
    {p : Plan} {g : Given} {w : World} {rules old : List ℕ} →
    One {Out = ℕ × (List ℕ × (List ℕ × (List ℕ × List ℕ)))} (λ o. ExportsStep p g w rules old o.0 o.1.0 o.1.1.0 o.1.1.1.0 o.1.1.1.1)
exported_step_one a b x y =
    λ j. (
      (x.number_is ∙ sym y.number_is) j,
      (
        (x.depths_are ∙ sym y.depths_are) j,
        ((x.lasts_are ∙ sym y.lasts_are) j, ((x.records_are ∙ sym y.records_are) j, (x.run_is ∙ sym y.run_is) j)),
      ),
    )

exported_run_one :
    {p : Plan} {g : Given} {end : ℕ} {w : World} {rules old old_steps : List ℕ} →
    One {Out = ℕ × (List ℕ × (List ℕ × (List ℕ × (List ℕ × List ℕ))))}
    (λ o. ExportsRun p g end w rules old old_steps o.0 o.1.0 o.1.1.0 o.1.1.1.0 o.1.1.1.1.0 o.1.1.1.1.1)
exported_run_one a b x y =
    λ j. (
      (x.number_is ∙ sym y.number_is) j,
      (
        (x.depths_are ∙ sym y.depths_are) j,
        (
          (x.lasts_are ∙ sym y.lasts_are) j,
          ((x.records_are ∙ sym y.records_are) j, ((x.run_is ∙ sym y.run_is) j, (x.steps_are ∙ sym y.steps_are) j)),
        ),
      ),
    )

pub exports_determined : ExportsDetermined
exports_determined =
    record {
      fresh =
          λ p r before records rules old a b x y.
          (λ j. ((x.number_is ∙ sym y.number_is) j, ((x.lasts_are ∙ sym y.lasts_are) j, (x.run_is ∙ sym y.run_is) j)));
      step = λ p g w rules old. exported_step_one;
      step_wet = λ p g w rules old. exported_step_one;
      run-to = λ p g end w rules old old_steps. exported_run_one;
      run_to_wet = λ p g end w rules old old_steps. exported_run_one;
      take_back =
          λ p w old a b x y.
          (λ j. (
            (x.number_is ∙ sym y.number_is) j,
            ((x.depths_are ∙ sym y.depths_are) j, ((x.lasts_are ∙ sym y.lasts_are) j, (x.run_is ∙ sym y.run_is) j)),
          ));
      step_bounds = λ clock end rules old a b x y. (λ j. ((x.number_is ∙ sym y.number_is) j, (x.bounds_are ∙ sym y.bounds_are) j));
      arrow = λ p D w row column run old a b x y. (λ j. ((x.number_is ∙ sym y.number_is) j, (x.speeds_are ∙ sym y.speeds_are) j));
      wet_rows =
          λ p depths least old-rows old-count a b x y.
          (λ j. ((x.number_is ∙ sym y.number_is) j, ((x.rows_are ∙ sym y.rows_are) j, (x.count_is ∙ sym y.count_is) j)));
      read_sheet =
          λ text before old-heading old-line a b x y.
          (λ j. (
            (x.number_is ∙ sym y.number_is) j,
            ((x.rooms_are ∙ sym y.rooms_are) j, ((x.heading_is ∙ sym y.heading_is) j, (x.line_is ∙ sym y.line_is) j)),
          ));
      meadow = λ text old a b x y. (λ j. ((x.long_is ∙ sym y.long_is) j, (x.out_is ∙ sym y.out_is) j));
    }

-- ---- all of it

pub determined : Determined
determined =
    record {
      ledger = ledger_determined;
      checks = checks_determined;
      flood = flood_determined;
      sight = sight_determined;
      sheet = sheet_determined;
      programs = programs_determined;
      slices = slices_determined;
      hours = hours_determined;
      peaks = peaks_determined;
      survey = survey_determined;
      holes = holes_determined;
      display = display_determined;
      display_exports = display_exports_determined;
      levels = levels_determined;
      lists = lists_determined;
      evenings = evenings_determined;
      desks = desks_determined;
      exports = exports_determined;
    }
