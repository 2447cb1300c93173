-- `survey::sets::set_bad` meets its contract: the files are judged in their order up to the first that cannot be read.
-- Assumes nothing.
use mathlib.Core.Path.{refl}
use Rattle.survey.proofs.SetLaws.{first_here, first_later, first-last}
use Rattle.survey.proofs.sets.set_bad.Goals as goal

pub returns-then-note-ne0 : goal.returns-then-note-ne0
returns-then-note-ne0 c = first_here _ refl c.if-note-ne0.true

pub returns-then-first-ne0 : goal.returns-then-first-ne0
returns-then-first-ne0 c = first_later _ refl c.if-note-ne0.false (first_here _ c.grid_bad-first.ensures c.if-first-ne0.true)

pub returns-then-second-ne0 : goal.returns-then-second-ne0
returns-then-second-ne0 c =
    first_later _ refl c.if-note-ne0.false
    (first_later _ c.grid_bad-first.ensures c.if-first-ne0.false (first_here _ c.grid_bad-second.ensures c.if-second-ne0.true))

pub returns-then-third-ne0 : goal.returns-then-third-ne0
returns-then-third-ne0 c =
    first_later _ refl c.if-note-ne0.false
    (first_later _ c.grid_bad-first.ensures c.if-first-ne0.false
    (first_later _ c.grid_bad-second.ensures c.if-second-ne0.false (first_here _ c.grid_bad-third.ensures c.if-third-ne0.true)))

pub returns : goal.returns
returns c =
    first_later _ refl c.if-note-ne0.false
    (first_later _ c.grid_bad-first.ensures c.if-first-ne0.false
    (first_later _ c.grid_bad-second.ensures c.if-second-ne0.false
    (first_later _ c.grid_bad-third.ensures c.if-third-ne0.false (first-last c.grid_bad.ensures))))
