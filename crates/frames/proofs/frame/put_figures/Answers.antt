-- `frames::frame::put_figures` meets its contract: one line.
-- Assumes nothing.
use Rattle.frames.specs.Frame.{figures_text}
use Rattle.frames.proofs.frame.put_figures.Goals as goal

pub put_line-requires : goal.put_line-requires
unfolding figures_text
put_line-requires c = c.requires

pub returns : goal.returns
unfolding figures_text
returns c = c.put_line.ensures
