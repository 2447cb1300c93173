use mathlib.Core.Path.{◌≡◌}
use Rattle.reckon.specs.Lists.{sum_below}
use Rattle.reckon.specs.Tables.{inflow_kind, on_square}
use Rattle.reckon.proofs.TableLaws.{term}
use Rattle.reckon.proofs.tables.inflow_by.Given as goal

abbrev pub invariant-loop-j : goal.invariant-loop-j
invariant-loop-j l = l.sum ≡ sum_below l.j (term inflow_kind (on_square l.rows l.r l.c) l.rows l.t)
