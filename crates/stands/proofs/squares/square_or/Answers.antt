-- `stands::squares::square_or` meets its contract: the line, or zeros.
-- Assumes nothing.
use mathlib.Core.Path.{◌∙◌}
use Rattle.stands.proofs.SquareLaws.{or_zeros}
use Rattle.stands.proofs.squares.square_or.Goals as goal

pub returns : goal.returns
returns c = c.unwrap_or.ensures ∙ or_zeros c.args.line
