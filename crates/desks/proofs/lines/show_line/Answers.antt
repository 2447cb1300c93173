use Rattle.desks.proofs.lines.show_line.Goals as goal

-- src/lines.rt:90:5
pub shown_line-requires : goal.shown_line-requires
shown_line-requires c = c.requires

-- src/lines.rt:79:1
pub returns : goal.returns
returns c = c.shown_line.ensures
