-- `lists::printing::put_drowned` meets its contract: a tally that no list gives is refused, another is printed.
-- Assumes nothing.
use mathlib.Core.Path.{ap}
use mathlib.Core.Bool.{not}
use native.Mathlib.Omega.{arith}
use Rattle.checks.proofs.CheckLaws.{fails_by, holds_by}
use Rattle.lists.specs.Tally.{rooms}
use Rattle.lists.proofs.PrintLaws.{printed_refused}
use Rattle.lists.proofs.printing.put_drowned.Goals as goal

pub returns-then-not-tally_fine : goal.returns-then-not-tally_fine
returns-then-not-tally_fine c =
    let a = c.args in
    printed_refused _ (rooms a.marks.now a.counts.now a.deepest.now a.places.now a.numbers.now)
    (fails_by c.tally_fine.ensures (ap not c.if-not-tally_fine.true)) (omega arith) c.put_refused.ensures

pub put_tally-requires : goal.put_tally-requires
put_tally-requires c = (
  holds_by c.tally_fine.ensures (ap not c.if-not-tally_fine.false),
  record { marks_long = omega arith; counts_long = omega arith; deepest_long = omega arith; places_long = omega arith; numbers_long = omega arith },
  omega arith,
)
