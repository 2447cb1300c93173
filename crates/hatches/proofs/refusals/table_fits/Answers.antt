-- `hatches::refusals::table_fits` meets its contract.
-- Assumes nothing.
use lib.ListN.{length}
use Rattle.hatches.specs.Log.{hatch_rows}
use mathlib.Core.Path.{sym, ap}
use Prim.Native.Nat.{ℕ, ◌+◌}
use native.Mathlib.Omega.{arith}
use lib.Dec.{leb}
use borrow.Author.Tests.{lt-leb}
use Rattle.reckon.specs.Tables.{inflow_kind, table_room}
use Rattle.hatches.proofs.refusals.table_fits.Goals as goal

pub returns-then-numbers-gt-INFLOW_ROOM : goal.returns-then-numbers-gt-INFLOW_ROOM
returns-then-numbers-gt-INFLOW_ROOM c = λ litres. sym (lt-leb (c.args.numbers + length (hatch_rows c.args.hatches litres) + c.args.more) (table_room inflow_kind) (omega (arith, c.if-numbers-gt-INFLOW_ROOM.true)))

pub returns : goal.returns
returns c = λ litres. ap (λ (n : ℕ). leb (c.args.numbers + n + c.args.more) (table_room inflow_kind)) (sym (c.count_named.ensures.0 litres))
