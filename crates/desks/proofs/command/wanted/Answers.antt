use mathlib.Core.Path.{ap, ◌∙◌}
use Rattle.desks.specs.Command.{wanted_by}
use Rattle.desks.proofs.command.wanted.Goals as goal

-- src/command.rt:80:1
pub returns : goal.returns
returns c = c.wanted_by.ensures ∙ ap wanted_by c.order_of.ensures
