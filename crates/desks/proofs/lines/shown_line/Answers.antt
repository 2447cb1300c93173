use Rattle.desks.proofs.AnswerLaws.{shown-told}
use Rattle.desks.proofs.lines.shown_line.Goals as goal

-- src/lines.rt:65:1
pub returns : goal.returns
returns c =
    shown-told _ _ _ _ c.no_series.ensures c.requires.out_long c.put_state-at.ensures
    c.put_ending-length.ensures c.desk_with.ensures
