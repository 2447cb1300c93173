-- `reckon::tables::row_on` meets its contract: the row first, then the column.
-- Assumes nothing.
use mathlib.Core.Path.{sym, ◌∙◌, ap}
use Prim.Native.Nat.{ℕ}
use lib.Dec.{eqb}
use Rattle.reckon.proofs.TableLaws.{other_row, by_column}
use Rattle.reckon.proofs.tables.row_on.Goals as goal

pub returns-then-number-r : goal.returns-then-number-r
returns-then-number-r c =
    let a = c.args in
    sym (other_row a.rows.now a.r a.c a.j (λ e. c.if-number-r.true (c.number.ensures ∙ e)))

pub returns : goal.returns
returns c =
    let a = c.args in
    ap (λ (k : ℕ). eqb k a.c) c.number-2.ensures
    ∙ sym (by_column a.rows.now a.r a.c a.j (sym c.number.ensures ∙ c.if-number-r.false))
