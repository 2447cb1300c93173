-- `checks::bounds::figures_of` meets its contract: a span has no more steps than ms, so that both products fit.
-- Assumes nothing.
use mathlib.Core.Path.{refl}
use native.Mathlib.Omega.{arith}
use Rattle.checks.proofs.BoundsLaws.{figure_to, figures_are}
use Rattle.checks.proofs.bounds.figures_of.Goals as goal

pub overflow_mul-result : goal.overflow_mul-result
overflow_mul-result c = omega (arith, figure_to c.args.rules c.args.clock c.args.end c.requires.0 c.requires.2 refl c.steps_over.ensures (omega arith))

pub overflow_mul-result-2 : goal.overflow_mul-result-2
overflow_mul-result-2 c = omega (arith, figure_to c.args.rules c.args.clock c.args.end c.requires.0 c.requires.2 refl c.steps_over-2.ensures (omega arith))

pub returns : goal.returns
returns c = figures_are _ _ _ refl c.steps_over.ensures c.steps_over-2.ensures
