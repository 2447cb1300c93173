use Rattle.desks.specs.Command.{wanted_by}
use borrow.Author.Rules.{rules}
use Rattle.desks.proofs.command.wanted_by.Goals as goal

-- src/command.rt:44:1
pub returns-in-Sheet : goal.returns-in-Sheet
unfolding wanted_by
returns-in-Sheet c = search rules

-- src/command.rt:44:1
pub returns-in-Lay : goal.returns-in-Lay
unfolding wanted_by
returns-in-Lay c = search rules

-- src/command.rt:44:1
pub returns-in-Entered : goal.returns-in-Entered
unfolding wanted_by
returns-in-Entered c = search rules

-- src/command.rt:44:1
pub returns-in-Draw : goal.returns-in-Draw
unfolding wanted_by
returns-in-Draw c = search rules

-- src/command.rt:44:1
pub returns-in-Step : goal.returns-in-Step
unfolding wanted_by
returns-in-Step c = search rules

-- src/command.rt:44:1
pub returns-in-Show : goal.returns-in-Show
unfolding wanted_by
returns-in-Show c = search rules

-- src/command.rt:44:1
pub returns-in-Arrows : goal.returns-in-Arrows
unfolding wanted_by
returns-in-Arrows c = search rules

-- src/command.rt:44:1
pub returns-in-Most : goal.returns-in-Most
unfolding wanted_by
returns-in-Most c = search rules

-- src/command.rt:44:1
pub returns-in-Stand : goal.returns-in-Stand
unfolding wanted_by
returns-in-Stand c = search rules

-- src/command.rt:44:1
pub returns-in-NoOrder : goal.returns-in-NoOrder
unfolding wanted_by
returns-in-NoOrder c = search rules
