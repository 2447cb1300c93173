-- `lists::merging::merge_square` meets its contract: a closed square stays, another one is counted and takes a deeper peak.
-- Assumes nothing.
use mathlib.Core.Path.{sym, ◌∙◌}
use Rattle.lists.proofs.MergeLaws.{square_closed, square_counted, square_given}
use Rattle.lists.proofs.merging.merge_square.Goals as goal

pub returns-then-is_closed : goal.returns-then-is_closed
returns-then-is_closed c =
    let s = c.args in
    square_closed s.merging s.square s.marks.now s.peaks.now s.counts.now s.deepest.now s.places.now
    (sym c.is_closed.ensures ∙ c.if-is_closed.true)

pub returns-then-not-is_given : goal.returns-then-not-is_given
returns-then-not-is_given c =
    let s = c.args in
    square_counted s.merging s.square s.marks.now s.peaks.now s.counts.now s.deepest.now s.places.now
    (sym c.is_closed.ensures ∙ c.if-is_closed.false) c.count_with.ensures c.is_given.ensures
    (c.if-not-is_given.true)

pub returns : goal.returns
returns c =
    let s = c.args in
    square_given s.merging s.square s.marks.now s.peaks.now s.counts.now s.deepest.now s.places.now
    (sym c.is_closed.ensures ∙ c.if-is_closed.false) c.count_with.ensures c.is_given.ensures
    (c.if-not-is_given.false)
