-- `moves::length::step_length` meets its contract: a length that starts at the longest is the list's.
-- Assumes nothing.
use mathlib.Core.Path.{sym, ◌∙◌, ap}
use Rattle.rule.specs.Length.{held_between}
use Rattle.rule.proofs.LengthLaws.{fresh-held}
use Rattle.moves.proofs.LengthLaws.{length_afresh, length-kept}
use Rattle.moves.proofs.length.step_length.Goals as goal

pub returns-then-is_update : goal.returns-then-is_update
returns-then-is_update c =
    c.held_length.ensures ∙
    (ap (held_between c.args.way.rules) c.least_candidate.ensures ∙ (fresh-held c.args.way.rules _ c.requires.rules.shortest_to ∙ sym (length_afresh c.args.way.rules c.args.clock c.args.held _ (sym c.is_update.ensures ∙ c.if-is_update.true))))

pub returns : goal.returns
returns c =
    sym
    (length-kept c.args.way.rules c.args.clock c.args.held _ (sym c.is_update.ensures ∙ c.if-is_update.false))
