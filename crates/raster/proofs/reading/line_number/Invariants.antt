use mathlib.Core.Path.{◌≡◌}
use Rattle.raster.specs.Raster.{line_number}
use Rattle.raster.proofs.reading.line_number.Given as goal

abbrev pub invariant-loop-i : goal.invariant-loop-i
invariant-loop-i l = l.line ≡ line_number l.text l.i
