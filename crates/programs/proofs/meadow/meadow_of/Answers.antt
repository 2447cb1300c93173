-- `programs::meadow::meadow_of` meets its contract: its printer's text is `meadow`'s.
-- Assumes nothing.
use Rattle.programs.proofs.MeadowLaws.{meadow-printed}
use Rattle.programs.proofs.meadow.meadow_of.Goals as goal

pub returns : goal.returns
returns c = meadow-printed c.args.text.now c.printed_of.ensures
