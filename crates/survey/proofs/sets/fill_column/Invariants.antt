use mathlib.Core.Path.{◌≡◌}
use Rattle.raster.specs.Raster.{head_in, value_of, place_from, entry_from}
use Rattle.survey.proofs.SetLaws.{Filling}
use Rattle.survey.proofs.sets.fill_column.Given as goal

abbrev pub invariant-loop-square : goal.invariant-loop-square
invariant-loop-square l = (l.next ≡ place_from l.scale l.grid (head_in l.grid).next l.columns l.square) × Filling
    (λ i. value_of (entry_from l.scale l.grid (head_in l.grid).next l.columns i)) l.initial.room l.square l.room
