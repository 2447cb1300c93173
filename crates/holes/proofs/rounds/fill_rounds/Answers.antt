-- `holes::rounds::fill_rounds` meets its contract: so many rounds were made, and the last fills nothing or is as far on as there are squares.
-- Assumes nothing.
use mathlib.Core.Path.{sym, ◌∙◌}
use native.Mathlib.Omega.{arith}
use Rattle.std.proofs.lemmas.Slice.Eq.{bytes_eq-Decides}
use Rattle.holes.proofs.FillLaws.{going_none, going_end, going_more, going_still}
use Rattle.holes.proofs.rounds.fill_rounds.Goals as goal

pub loop-turn-init : goal.loop-turn-init
loop-turn-init c = going_none _ _ _ _

pub returns-then-eq : goal.returns-then-eq
returns-then-eq c =
    let a = c.args in
    going_still a.shape a.marks.now a.beds.now c.requires.beds_seen (omega arith) (omega arith) c.loop-turn.invariant
    c.copy_from_slice.ensures.after c.one_round.ensures ((bytes_eq-Decides _ _).0 (sym c.eq.ensures ∙ c.if-eq.true))

pub loop-turn-preserved : goal.loop-turn-preserved
loop-turn-preserved c =
    let a = c.args in
    going_more a.shape a.marks.now a.beds.now c.requires.beds_seen (omega arith) (omega arith) c.loop-turn.invariant
    c.copy_from_slice.ensures.after c.one_round.ensures c.note_round.ensures

pub returns : goal.returns
returns c =
    let a = c.args in
    let g = c.loop-turn.invariant in
    going_end a.shape a.marks.now a.beds.now (omega (arith, g.few)) g
