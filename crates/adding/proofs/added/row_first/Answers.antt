-- `adding::added::row_first` meets its contract: rows that stand apart stand each for a square of its own.
-- Assumes nothing.
use mathlib.Core.Path.{sym, ◌∙◌}
use Rattle.adding.proofs.OnceLaws.{apart_alone}
use Rattle.adding.proofs.added.row_first.Goals as goal

pub returns-then-apart : goal.returns-then-apart
returns-then-apart c = sym (apart_alone _ _ (sym c.requires.0 ∙ c.if-apart.true) c.requires.1)
