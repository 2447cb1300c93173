-- `peaks::highest::highest_of` meets its contract: its printer's text is the one that it names.
-- Assumes nothing.
use Rattle.peaks.specs.Highest.{high_sheet_text, highest_text}
use Rattle.peaks.proofs.highest.highest_of.Goals as goal

pub returns : goal.returns
unfolding highest_text high_sheet_text
returns c = c.printed_of.ensures
