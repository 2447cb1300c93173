-- `survey::sets::grid_agrees` meets its contract: shape and cellsize first, and then the closed squares.
-- Assumes nothing.
use mathlib.Core.Path.{ap, ◌∙◌}
use Rattle.raster.specs.Raster.{head_or}
use Rattle.survey.proofs.SetLaws.{cells_inside, shape_small, rows_differ, columns_differ, sides_differ, agrees_by}
use Rattle.survey.proofs.sets.grid_agrees.Goals as goal

pub returns-then-found-shape : goal.returns-then-found-shape
returns-then-found-shape c = rows_differ c.requires _ _ (c.head_or-head.ensures ∙ ap head_or c.head_of.ensures) c.if-found-shape.true

pub returns-then-found-shape-2 : goal.returns-then-found-shape-2
returns-then-found-shape-2 c = columns_differ c.requires _ _ (c.head_or-head.ensures ∙ ap head_or c.head_of.ensures) c.if-found-shape-2.true

pub returns-then-head-rules : goal.returns-then-head-rules
returns-then-head-rules c = sides_differ c.requires _ _ (c.head_or-head.ensures ∙ ap head_or c.head_of.ensures) c.if-head-rules.true

pub closed_agree-requires : goal.closed_agree-requires
closed_agree-requires c = (cells_inside c.requires, (shape_small c.requires).0, (shape_small c.requires).1)

pub returns : goal.returns
returns c = agrees_by c.requires _ _ (c.head_or-head.ensures ∙ ap head_or c.head_of.ensures) c.if-found-shape.false c.if-found-shape-2.false c.if-head-rules.false c.closed_agree.ensures
