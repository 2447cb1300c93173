-- Laws of what the tables give: nothing by clock 0, and by a later clock what they gave by an earlier one and between the two.
-- Assumes nothing.
use mathlib.Core.Path.{◌≡◌, sym, ◌∙◌}
use Prim.Native.Nat.{ℕ, ◌+◌, ◌/◌, ◌%◌, ◌≤◌}
use native.Mathlib.Omega.{arith}
use Rattle.reckon.proofs.TableLaws.{rain_mono, inflow_mono, rain_start, inflow_start}
use Rattle.ledger.specs.Runs.{Plan}
use Rattle.ledger.proofs.Account.{open_add, open_ext, open_zero}
use Rattle.checks.specs.Given.{Given}
use Rattle.adding.specs.Added.{added_for}
use Rattle.adding.specs.Account.{tables_give, tables_by, SameTables}

module _ (p : Plan) (g : Given) where
  pub tables_start : tables_by p g 0 ≡ 0
  unfolding tables_by
  tables_start =
      open_zero p _ (λ i l e. omega (arith, rain_start g.rain, inflow_start g.inflow (i / p.shape.columns) (i % p.shape.columns) g.lie.rules.square_side))

  pub tables_go_on : {t u : ℕ} → t ≤ u → tables_by p g t + tables_give p g t u ≡ tables_by p g u
  unfolding tables_by tables_give added_for
  tables_go_on {t} {u} h =
      sym (open_add p _ (added_for p g t u))
      ∙ open_ext p _ _ (λ i l e.
      omega (
        arith,
        rain_mono g.rain h,
        inflow_mono g.inflow (i / p.shape.columns) (i % p.shape.columns) g.lie.rules.square_side h,
      ))

-- only the tables and D tell
pub tables_alike : (p : Plan) (g h : Given) (t u : ℕ) → SameTables g h → tables_give p g t u ≡ tables_give p h t u
unfolding tables_give added_for
tables_alike p g h t u s = rw (s.same_rain, s.same_inflow, s.same_side)
