-- `panel::raised` meets its contract: the two powers are the products.
-- Assumes nothing.
use mathlib.Core.Path.{sym}
use native.Mathlib.Omega.{arith}
use Rattle.reckon.proofs.RootLaws.{square_le, is_cube}
use Rattle.panel.proofs.raised.Goals as goal

pub overflow_mul-result-else-p-eq2 : goal.overflow_mul-result-else-p-eq2
overflow_mul-result-else-p-eq2 c = omega (arith, square_le c.args.x c.requires.0)

pub overflow_mul-result-else-p-eq2-2 : goal.overflow_mul-result-else-p-eq2-2
overflow_mul-result-else-p-eq2-2 c = omega (arith, is_cube c.args.x c.requires.0 c.if-p-eq2.false)

pub returns-else-p-eq2 : goal.returns-else-p-eq2
returns-else-p-eq2 c = sym (is_cube c.args.x c.requires.0 c.if-p-eq2.false)
