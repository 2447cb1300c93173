-- `reckon::tables::row_fine` meets its contract: each early return is a test that fails.
-- Assumes nothing.
use mathlib.Core.Path.{sym, ◌∙◌, ap}
use Prim.Native.Nat.{ℕ}
use native.Mathlib.Omega.{arith}
use lib.Dec.{leb}
use Rattle.reckon.proofs.TableLaws.{row_backwards, row_late, row_amount}
use Rattle.reckon.proofs.tables.row_fine.Goals as goal

pub returns-then-to-number : goal.returns-then-to-number
returns-then-to-number c =
    let a = c.args in
    sym (row_backwards a.most a.rows.now a.at (omega arith))

pub returns-then-to-gt-LAST_CLOCK : goal.returns-then-to-gt-LAST_CLOCK
returns-then-to-gt-LAST_CLOCK c =
    let a = c.args in
    sym (row_late a.most a.rows.now a.at (omega arith))

pub returns : goal.returns
returns c =
    let a = c.args in
    ap (λ (x : ℕ). leb x a.most) c.number-2.ensures
    ∙ sym (row_amount a.most a.rows.now a.at (omega arith) (omega arith))
