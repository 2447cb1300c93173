-- `holes::rounds::note_round` meets its contract: the squares passed that were filled have the number of the round.
-- Assumes nothing.
use mathlib.Core.Path.{ap, ◌∙◌}
use Prim.Native.Nat.{ℕ}
use native.Mathlib.Omega.{arith}
use lib.Dec.{eqb}
use lib.ListN.{get_or}
use Rattle.reckon.specs.Lists.{filled}
use Rattle.reckon.proofs.ListLaws.{filled_none}
use Rattle.holes.proofs.FillLaws.{filled_next}
use Rattle.holes.proofs.rounds.note_round.Goals as goal

pub loop-square-init : goal.loop-square-init
loop-square-init c = filled_none _ _ _

pub loop-square-preserved : goal.loop-square-preserved
loop-square-preserved c = filled_next _ _ _ c.loop-square.square (omega arith) c.loop-square.invariant c.note_square.ensures

pub returns : goal.returns
returns c =
    let a = c.args in
    c.loop-square.invariant
    ∙ ap (λ (k : ℕ). filled k (λ i. eqb (get_or a.beds.now i 0) (get_or a.before.now i 0)) (λ i. a.turn) a.turns.now) (omega arith)
