use mathlib.Core.Path.{◌≡◌}
use mathlib.Core.Bool.{true}
use Rattle.reckon.specs.Lists.{sum_below}
use Rattle.reckon.specs.Tables.{rain_kind}
use Rattle.reckon.proofs.TableLaws.{term}
use Rattle.reckon.proofs.tables.rain_by.Given as goal

abbrev pub invariant-loop-j : goal.invariant-loop-j
invariant-loop-j l = l.sum ≡ sum_below l.j (term rain_kind (λ i. true) l.rows l.t)
