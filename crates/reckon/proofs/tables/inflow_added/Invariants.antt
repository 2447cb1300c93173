use mathlib.Core.Path.{◌≡◌}
use Rattle.reckon.specs.Lists.{sum_below}
use Rattle.reckon.specs.Tables.{inflow_kind, on_square}
use Rattle.reckon.proofs.TableLaws.{term}
use Rattle.reckon.proofs.tables.inflow_added.Given as goal

abbrev pub invariant-loop-j : goal.invariant-loop-j
invariant-loop-j l = record {
  started : l.sums.start ≡ sum_below l.j (term inflow_kind (on_square l.rows l.r l.c) l.rows l.start);
  ended : l.sums.end ≡ sum_below l.j (term inflow_kind (on_square l.rows l.r l.c) l.rows l.end);
}
