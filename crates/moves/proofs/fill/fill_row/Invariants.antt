use mathlib.Core.Path.{◌≡◌}
use lib.ListN.{length}
use Rattle.grid.specs.Inner.Visits.{Rests}
use Rattle.ledger.specs.Runs.{plan}
use Rattle.checks.specs.Given.{ground}
use Rattle.moves.specs.Inner.Fill.{FilledColumns}
use Rattle.moves.proofs.fill.fill_row.Given as goal

abbrev pub invariant-loop-rest : goal.invariant-loop-rest
invariant-loop-rest l = (length l.rec ≡ length l.initial.rec)
    × (length l.left ≡ length l.initial.left)
    × Rests l.row.mask l.columns
    (λ k. FilledColumns (plan l.way.shape l.marks) (ground l.way.rules l.beds l.roughness l.rates) l.depths l.lasts l.added l.span.start l.span.duration l.row.first l.row.mask k
    l.initial.rec l.rec l.initial.left l.left l.senders) l.rest

abbrev pub decreases-loop-rest : goal.decreases-loop-rest
decreases-loop-rest l = l.rest
