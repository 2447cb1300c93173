-- `reckon::tables::rain_by` meets its contract: the sum so far is that of the rows passed.
-- Assumes nothing.
use mathlib.Core.Path.{sym, ◌∙◌, ap, ap₂, subst}
use mathlib.Core.Bool.{true}
use Prim.Native.Nat.{ℕ, ◌+◌, ◌/◌, ◌≤◌}
use native.Mathlib.Omega.{arith}
use lib.ListN.{get_or}
use Rattle.reckon.specs.Tables.{rain_kind, table_gives, rain_by}
use Rattle.reckon.proofs.ListLaws.{sum_none, sum_more, sum_whole}
use Rattle.reckon.proofs.TableLaws.{term_le, terms_le, rain_term}
use Rattle.reckon.proofs.tables.rain_by.Goals as goal

pub loop-j-init : goal.loop-j-init
loop-j-init c = sym (sum_none _)

pub row_gives-sum-requires : goal.row_gives-sum-requires
row_gives-sum-requires c =
    let j = c.loop-j.j in
    (omega arith, subst (λ (at : ℕ). get_or c.args.rows.now (at + 2) 0 ≤ 1000000) (omega arith) (c.requires.amounts j (omega arith)), c.requires.clock)

pub overflow_add-sum : goal.overflow_add-sum
overflow_add-sum c =
    let j = c.loop-j.j in
    omega (
      arith,
      terms_le rain_kind (λ i. true) c.args.rows.now c.requires j (omega arith),
      term_le rain_kind (λ i. true) c.args.rows.now c.requires j (omega arith),
      rain_term c.args.rows.now c.args.t j,
      c.requires.few,
    )

pub loop-j-preserved : goal.loop-j-preserved
loop-j-preserved c = ap₂ (λ (x y : ℕ). x + y) c.loop-j.invariant (c.row_gives-sum.ensures ∙ rain_term _ _ _) ∙ sym (sum_more _ _)

pub returns : goal.returns
unfolding rain_by table_gives
returns c = ap (λ (s : ℕ). s / 3600000) (sum_whole _ c.loop-j.invariant (omega arith))
