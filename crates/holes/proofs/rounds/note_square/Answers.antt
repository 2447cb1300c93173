-- `holes::rounds::note_square` meets its contract: a bed that changed is noted.
-- Assumes nothing.
use mathlib.Core.Path.{sym}
use borrow.Author.Tests.{eq-eqb, ne_eqb}
use Rattle.reckon.proofs.TestLaws.{pick_true, pick_false}
use Rattle.holes.proofs.rounds.note_square.Goals as goal

pub returns-then-beds-square : goal.returns-then-beds-square
returns-then-beds-square c = sym (pick_true _ _ (eq-eqb _ _ c.if-beds-square.true))

pub returns : goal.returns
returns c = sym (pick_false _ _ (ne_eqb _ _ c.if-beds-square.false))
