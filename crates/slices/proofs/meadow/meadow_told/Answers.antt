-- `slices::meadow::meadow_told` meets its contract: its printer's text is `meadow`'s.
-- Assumes nothing.
use Rattle.programs.proofs.MeadowLaws.{meadow-printed}
use Rattle.slices.proofs.meadow.meadow_told.Goals as goal

pub returns : goal.returns
returns g c = meadow-printed c.args.text.now c.printed_of.ensures
