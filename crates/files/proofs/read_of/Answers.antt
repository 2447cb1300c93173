-- `files::read_of` meets its contract: the whole room is told where a line follows, or the file did not come whole.
-- Assumes nothing.
use mathlib.Core.Path.{refl}
use Rattle.files.proofs.FileLaws.{one_handed}
use Rattle.files.proofs.read_of.Goals as goal

pub returns : goal.returns
returns g c = one_handed _ _ _ c.nth_line-after.ensures c.read_named-came.ensures refl c.handed_last.ensures
