use mathlib.Core.Path.{◌≡◌}
use mathlib.Core.Bool.{true}
use Rattle.reckon.specs.Tests.{all_below}
use Rattle.reckon.proofs.TableLaws.{row_passes}
use Rattle.reckon.proofs.tables.table_fine.Given as goal

abbrev pub invariant-loop-j : goal.invariant-loop-j
invariant-loop-j l = all_below l.j (row_passes l.kind l.rows) ≡ true
