-- `hatches::rates::put_row` meets its contract: a hatch's row, or none.
-- Assumes nothing.
use mathlib.Core.Path.{ap}
use native.Mathlib.Omega.{arith}
use lib.ListN.{length}
use Rattle.hatches.proofs.RowLaws.{row_none, row_named, row_put}
use Rattle.hatches.proofs.rates.put_row.Goals as goal

pub returns-then-not-named-hatch : goal.returns-then-not-named-hatch
returns-then-not-named-hatch c = row_none c.args.hatches c.args.litres c.args.hatch (c.if-not-named-hatch.true)

pub copy_into-requires : goal.copy_into-requires
copy_into-requires c = let s = (c) in omega (arith, s.requires.1, ap length (row_named s.args.hatches s.args.litres s.args.hatch (c.if-not-named-hatch.false)))

pub returns : goal.returns
returns c = let s = (c) in row_put s.args.hatches s.args.litres s.args.hatch (c.if-not-named-hatch.false) c.copy_into.ensures
