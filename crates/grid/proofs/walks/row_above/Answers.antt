-- `grid::walks::row_above` meets its contract: there is none above the first.
-- Assumes nothing.
use mathlib.Core.Path.{◌≡◌, refl, ap}
use mathlib.Core.List.{List}
use Prim.Native.Nat.{ℕ, zero, suc, ◌-◌}
use native.Mathlib.Omega.{arith}
use lib.ListN.{get_or}
use Rattle.grid.specs.Walks.{row_above}
use Rattle.grid.proofs.walks.row_above.Goals as goal

none_above : (rows : List ℕ) (row : ℕ) → row ≡ 0 → 0 ≡ row_above rows row
unfolding row_above
none_above rows zero e = refl
none_above rows (suc row) e = absurd (omega arith)

some-above : (rows : List ℕ) (row : ℕ) → (row ≡ 0 → ⊥) → get_or rows (row - 1) 0 ≡ row_above rows row
unfolding row_above
some-above rows zero d = absurd (d refl)
some-above rows (suc row) d = ap (λ (k : ℕ). get_or rows k 0) (let e : suc row - 1 ≡ row = omega arith in e)

pub returns-then-row-eq0 : goal.returns-then-row-eq0
returns-then-row-eq0 c = none_above _ _ c.if-row-eq0.true

pub returns : goal.returns
returns c = some-above _ _ c.if-row-eq0.false
