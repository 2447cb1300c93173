-- `files::read_names` meets its contract: what is handed on lies in the room.
-- Assumes nothing.
use mathlib.Core.Path.{refl}
use Rattle.files.proofs.FileLaws.{came_handed}
use Rattle.files.proofs.read_names.Goals as goal

pub returns : goal.returns
returns g c = came_handed c.read_input-came.ensures refl c.handed.ensures
