use Rattle.reckon.specs.Inner.RootSearch.{Place, Raised}
use Rattle.panel.proofs.worked.Given as goal

abbrev pub invariant-loop-place : goal.invariant-loop-place
invariant-loop-place g l = Place l.p l.place × Raised l.p l.n l.place l.root

abbrev pub decreases-loop-place : goal.decreases-loop-place
decreases-loop-place g l = l.place
