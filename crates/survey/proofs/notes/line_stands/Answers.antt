-- `survey::notes::line_stands` meets its contract: the line is put into a room of its own and looked for.
-- Assumes nothing.
use mathlib.Core.Path.{sym, ap, ◌∙◌}
use Prim.Native.Nat.{◌+◌, ◌≤◌}
use native.Mathlib.Omega.{arith}
use lib.ListN.{length}
use lib.Seq.{length-take-le}
use Rattle.text.specs.Reading.{word_at}
use Rattle.survey.specs.Sets.{mark_line}
use Rattle.survey.proofs.NoteLaws.{line_short, put_within, put_again}
use Rattle.survey.proofs.notes.line_stands.Goals as goal
use Rattle.survey.proofs.notes.line_stands.Goals.{Start}

-- the room is large enough
short : (start : Start) → 0 + length (mark_line start.args.columns start.args.square start.args.mark) ≤ 64
short start = omega (arith, line_short start.args.columns start.args.square start.args.mark start.ranges.square.fits)

pub put_mark_line-end-requires : goal.put_mark_line-end-requires
put_mark_line-end-requires c = (c.requires.0, c.requires.1, short (goal.at.put_mark_line-end-requires c).Start)

pub slice_bounds-room-end : goal.slice_bounds-room-end
slice_bounds-room-end c = put_within c.put_mark_line-end.ensures (short (goal.at.slice_bounds-room-end c).Start)

pub slice_bounds-word_at-end : goal.slice_bounds-word_at-end
slice_bounds-word_at-end c = sym (length-take-le _ _ (put_within c.put_mark_line-end.ensures (short (goal.at.slice_bounds-word_at-end c).Start)))

pub returns : goal.returns
returns c =
    let a = c.args in
    c.word_at.ensures ∙ ap (word_at a.text.now a.at) (put_again c.put_mark_line-end.ensures)
