-- `levels::program::Levels` prints what it says: the boards' text, and then the run.
-- Assumes nothing.
use mathlib.Core.Path.{ap, ◌∙◌}
use native.Mathlib.Omega.{arith}
use lib.ListN.{length}
use Rattle.sheet.specs.Sheet.{rooms}
use Rattle.programs.proofs.EndedLaws.{refused_printed}
use Rattle.levels.specs.Lines.{boards_read}
use Rattle.levels.specs.Inner.Put.{SheetShown}
use Rattle.levels.specs.declared.lines.BoardsFound.{BoardsFound}
use Rattle.levels.proofs.LineLaws.{list_long}
use Rattle.levels.proofs.ShownLaws.{sheet_shown, text_refused, text_run}
use Rattle.levels.proofs.program.LevelsPrinter.print.Goals as goal
use Rattle.levels.proofs.program.LevelsPrinter.print.Goals.{After-run_boards-shown}

-- the run that was shown
shown : (c : After-run_boards-shown) → SheetShown c.args.heading (rooms c.args.marks.now c.args.beds.now c.args.roughness.now c.args.rates.now c.args.depths.now c.args.rain.now c.args.inflow.now) c.read_boards-found.result.boards c.run_boards-shown.result
shown c =
    let b = c.requires.0 in
    let text = c.args.self.now.boards.now in
    let long = ap (λ (f : BoardsFound). length f.boards.list) c.read_boards-found.ensures ∙ list_long text (boards_read text) in
    sheet_shown c.args.heading c.read_boards-found.result.boards long _ b.lasts_none b.records_none c.fresh_run-run.ensures c.run_boards-shown.ensures

pub returns-then-found-ne0 : goal.returns-then-found-ne0
returns-then-found-ne0 c =
    text_refused c.args.heading _ _ c.read_boards-found.ensures c.if-found-ne0.true
    (refused_printed c.requires.1 (omega arith) (omega arith) c.put_refused.ensures)

pub put_shown-requires : goal.put_shown-requires
put_shown-requires c = ((shown (goal.at.put_shown-requires c).After-run_boards-shown).all_listed, c.requires.1)

pub returns : goal.returns
returns c =
    text_run c.args.heading _ _ c.read_boards-found.ensures c.if-found-ne0.false
    (shown (goal.at.returns c).After-run_boards-shown) c.put_shown.ensures
