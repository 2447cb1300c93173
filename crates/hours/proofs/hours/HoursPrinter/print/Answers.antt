-- `hours::hours::Hours` prints what it says: the run of the sheet with its times.
-- Assumes nothing.
use mathlib.Core.Path.{refl, sym, ◌∙◌}
use native.Mathlib.Omega.{arith}
use Rattle.sheet.proofs.JudgeLaws.{taken_long, zeros_are}
use Rattle.programs.specs.Program.{program_squares}
use Rattle.programs.proofs.HeldLaws.{first_part}
use Rattle.hours.proofs.HoursLaws.{hours_printed}
use Rattle.hours.proofs.hours.HoursPrinter.print.Goals as goal

pub run_sheet_wet-ran-requires-clause-times_value : goal.run_sheet_wet-ran-requires-clause-times_value
run_sheet_wet-ran-requires-clause-times_value c = zeros_are _ _ c.squares_of-squares.ensures c.requires.0.few

pub returns : goal.returns
returns c =
    let h = c.requires.0 in
    hours_printed c.args.heading _ h.few c.requires.1
    (first_part c.run_sheet_wet-ran.new.times _
    (c.run_sheet_wet-ran.auto.times ∙ sym (taken_long {size = program_squares} _ (omega (arith, c.squares_of-squares.ensures, h.few)) refl)))
    c.run_sheet_wet-ran.ensures c.put_ran.ensures
