-- `panel::main` is safe and ends: there is one root, so what was worked is what the library gives.
-- Assumes nothing.
use Rattle.reckon.proofs.RootLaws.{root_unique}
use Rattle.panel.proofs.main.Goals as goal

pub found-requires : goal.found-requires
found-requires c = root_unique c.worked.ensures c.square_root.ensures

pub found-requires-2 : goal.found-requires-2
found-requires-2 c = root_unique c.worked-2.ensures c.cube_root.ensures
