-- `sight::refusals::depths_fine` meets its contract: the depths in both places ask twice what is asked of them.
-- Assumes nothing.
use mathlib.Core.Path.{◌∙◌}
use Rattle.sight.proofs.RefusalLaws.{depths-alone}
use Rattle.sight.proofs.refusals.depths_fine.Goals as goal

pub returns : goal.returns
returns c = c.waters_fine.ensures ∙ depths-alone _ _
