-- `text::writing::put_byte` meets its contract: one store.
-- Assumes nothing.
use mathlib.Core.Path.{refl}
use Rattle.text.proofs.WritingLaws.{placed_byte}
use Rattle.text.proofs.writing.put_byte.Goals as goal

pub returns : goal.returns
returns c = record { next = refl; room = placed_byte _ _ _ c.requires }
