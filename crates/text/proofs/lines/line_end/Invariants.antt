use mathlib.Core.Path.{◌≡◌}
use Rattle.text.specs.Lines.{line_end}
use Rattle.text.proofs.lines.line_end.Given as goal

abbrev pub invariant-loop-end : goal.invariant-loop-end
invariant-loop-end l = line_end l.text l.at ≡ line_end l.text l.end
