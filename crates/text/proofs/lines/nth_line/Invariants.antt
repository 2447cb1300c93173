use mathlib.Core.Path.{◌≡◌}
use Rattle.text.specs.Reading.{line_from}
use Rattle.text.proofs.lines.nth_line.Given as goal

abbrev pub invariant-loop : goal.invariant-loop
invariant-loop l = l.at ≡ line_from l.text 0 l.counter
