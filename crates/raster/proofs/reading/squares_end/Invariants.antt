use Rattle.raster.proofs.SquareLaws.{ReadOn}
use Rattle.grid.specs.Squares.{squares}
use Rattle.raster.proofs.reading.squares_end.Given as goal

abbrev pub invariant-loop-square : goal.invariant-loop-square
invariant-loop-square l = ReadOn l.scale l.text l.at l.columns (squares l.fn.shape) l.square l.next
