use mathlib.Core.Path.{◌≡◌}
use lib.ListN.{length}
use Rattle.grid.specs.Inner.Rows.{AtRow}
use Rattle.grid.proofs.MaskLaws.{Rowed}
use Rattle.ledger.specs.Runs.{plan}
use Rattle.ledger.specs.Inner.Walks.{sends}
use Rattle.checks.specs.Given.{ground}
use Rattle.moves.specs.Moves.{leaves_for}
use Rattle.moves.specs.Inner.Fill.{FilledOn, LeftTo}
use Rattle.moves.proofs.fill.fill_rows.Given as goal

abbrev pub invariant-loop-row : goal.invariant-loop-row
invariant-loop-row l = AtRow l.rows l.columns l.row l.first
    × (length l.rec ≡ length l.initial.rec)
    × (length l.left ≡ length l.initial.left)
    × FilledOn (plan l.way.shape l.marks) (ground l.way.rules l.beds l.roughness l.rates) l.depths l.lasts l.added l.span.start l.span.duration 0 l.first l.initial.rec l.rec
    × LeftTo (plan l.way.shape l.marks) (ground l.way.rules l.beds l.roughness l.rates) l.depths l.lasts l.span.duration l.worked l.first l.left
    × Rowed (sends (plan l.way.shape l.marks) (leaves_for (plan l.way.shape l.marks) (ground l.way.rules l.beds l.roughness l.rates) l.depths l.lasts l.span.duration)) l.columns l.initial.senders l.senders l.row
