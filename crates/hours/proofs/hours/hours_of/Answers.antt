-- `hours::hours::hours_of` meets its contract: its printer's text is the one that it names.
-- Assumes nothing.
use Rattle.hours.specs.Hours.{hours_text, hours_sheet_text}
use Rattle.hours.proofs.hours.hours_of.Goals as goal

pub returns : goal.returns
unfolding hours_text hours_sheet_text
returns c = c.printed_of.ensures
