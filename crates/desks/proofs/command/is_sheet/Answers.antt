use Rattle.desks.specs.Command.{is_sheet}
use borrow.Author.Rules.{rules}
use Rattle.desks.proofs.command.is_sheet.Goals as goal

-- src/command.rt:62:1
pub returns-in-Sheet : goal.returns-in-Sheet
unfolding is_sheet
returns-in-Sheet c = search rules

-- src/command.rt:62:1
pub returns-in-Lay : goal.returns-in-Lay
unfolding is_sheet
returns-in-Lay c = search rules

-- src/command.rt:62:1
pub returns-in-Entered : goal.returns-in-Entered
unfolding is_sheet
returns-in-Entered c = search rules

-- src/command.rt:62:1
pub returns-in-Draw : goal.returns-in-Draw
unfolding is_sheet
returns-in-Draw c = search rules

-- src/command.rt:62:1
pub returns-in-Step : goal.returns-in-Step
unfolding is_sheet
returns-in-Step c = search rules

-- src/command.rt:62:1
pub returns-in-Show : goal.returns-in-Show
unfolding is_sheet
returns-in-Show c = search rules

-- src/command.rt:62:1
pub returns-in-Arrows : goal.returns-in-Arrows
unfolding is_sheet
returns-in-Arrows c = search rules

-- src/command.rt:62:1
pub returns-in-Most : goal.returns-in-Most
unfolding is_sheet
returns-in-Most c = search rules

-- src/command.rt:62:1
pub returns-in-Stand : goal.returns-in-Stand
unfolding is_sheet
returns-in-Stand c = search rules

-- src/command.rt:62:1
pub returns-in-NoOrder : goal.returns-in-NoOrder
unfolding is_sheet
returns-in-NoOrder c = search rules
