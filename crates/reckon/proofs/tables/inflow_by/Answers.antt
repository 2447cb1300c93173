-- `reckon::tables::inflow_by` meets its contract: the sum so far is that of the rows passed.
-- Assumes nothing.
use mathlib.Core.Path.{sym, ◌∙◌, ap₂}
use Prim.Native.Nat.{ℕ, ◌+◌}
use native.Mathlib.Omega.{arith}
use Rattle.reckon.specs.Tables.{inflow_kind, on_square}
use Rattle.reckon.proofs.ListLaws.{sum_none, sum_more}
use Rattle.reckon.proofs.TableLaws.{term_le, terms_le, inflow_made}
use Rattle.reckon.proofs.tables.inflow_by.Goals as goal

pub loop-j-init : goal.loop-j-init
loop-j-init c = sym (sum_none _)

pub overflow_add-sum : goal.overflow_add-sum
overflow_add-sum c =
    let j = c.loop-j.j in
    let counts = on_square c.args.rows.now c.args.r c.args.c in
    omega (
      arith,
      terms_le inflow_kind counts c.args.rows.now c.requires.fits j (omega arith),
      term_le inflow_kind counts c.args.rows.now c.requires.fits j (omega arith),
      c.requires.fits.few,
    )

pub loop-j-preserved : goal.loop-j-preserved
loop-j-preserved c = ap₂ (λ (x y : ℕ). x + y) c.loop-j.invariant c.inflow_row-sum.ensures ∙ sym (sum_more _ _)

pub returns : goal.returns
returns c =
    let a = c.args in
    inflow_made a.rows.now a.r a.c a.side a.t c.loop-j.invariant (omega arith)
