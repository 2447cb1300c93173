-- `raster::reading::line_number` meets its contract: the line is that of the position so far.
-- Assumes nothing.
use mathlib.Core.Path.{◌≡◌, sym, ap, ◌∙◌}
use Prim.Native.Nat.{◌+◌}
use native.Mathlib.Omega.{arith}
use Rattle.raster.specs.Raster.{line_number}
use Rattle.raster.proofs.SquareLaws.{line_first, line_more, line_few}
use Rattle.raster.proofs.reading.line_number.Goals as goal

pub loop-i-init : goal.loop-i-init
loop-i-init c = sym (line_first _)

pub overflow_add-line : goal.overflow_add-line
overflow_add-line c =
    let s = c.args.text.now in
    let i = c.loop-i.i in
    omega (arith, c.loop-i.invariant, c.line_ends-line.ensures, line_more s i, line_few s (i + 1), c.well_formed.0.1)

pub loop-i-preserved : goal.loop-i-preserved
loop-i-preserved c = omega (arith, c.loop-i.invariant, c.line_ends-line.ensures, line_more c.args.text.now c.loop-i.i)

pub returns : goal.returns
returns c =
    let e : c.loop-i.i ≡ c.args.at = omega arith in
    c.loop-i.invariant ∙ ap (line_number c.args.text.now) e
