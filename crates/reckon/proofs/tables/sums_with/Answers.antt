-- `reckon::tables::sums_with` meets its contract: the row is tested once, and where it counts each sum can take what it has given.
-- Assumes nothing.
use mathlib.Core.Path.{sym, ◌∙◌}
use Prim.Native.Nat.{ℕ, ◌*◌, ◌≤◌}
use native.Mathlib.Omega.{arith}
use Rattle.reckon.specs.Ranges.{most_litres, last_clock}
use Rattle.reckon.specs.Tables.{inflow_kind, row_start, row_gives}
use Rattle.reckon.proofs.TestLaws.{pick_true, pick_false}
use Rattle.reckon.proofs.TableLaws.{gives_le}
use Rattle.reckon.proofs.tables.sums_with.Goals as goal
use Rattle.reckon.proofs.tables.sums_with.Goals.{Start}

-- ---- what the row has given by each clock

module _ (s : Start) where
  abbrev gives : ℕ → ℕ
  gives t = row_gives s.args.rows.now (row_start inflow_kind s.args.j) t

  start_small : gives s.args.start ≤ most_litres * last_clock
  start_small =
      gives_le s.args.rows.now (row_start inflow_kind s.args.j) s.args.start most_litres (s.requires.j_in_bounds.1.amounts s.args.j s.requires.j_in_bounds.0) s.requires.j_in_bounds.1.clock

  end-small : gives s.args.end ≤ most_litres * last_clock
  end-small =
      gives_le s.args.rows.now (row_start inflow_kind s.args.j) s.args.end most_litres (s.requires.j_in_bounds.2.amounts s.args.j s.requires.j_in_bounds.0) s.requires.j_in_bounds.2.clock

pub returns-then-not-row_on : goal.returns-then-not-row_on
returns-then-not-row_on c =
    let e = sym c.row_on.ensures ∙ c.if-not-row_on.true in
    (omega (arith, pick_false (gives (goal.at.returns-then-not-row_on c).Start c.args.start) 0 e), omega (arith, pick_false (gives (goal.at.returns-then-not-row_on c).Start c.args.end) 0 e))

pub overflow_add-result : goal.overflow_add-result
overflow_add-result c = omega (arith, start_small (goal.at.overflow_add-result c).Start, c.row_gives.ensures, c.requires.j_in_bounds.0, c.requires.j_in_bounds.1.few, c.requires.start_bound.0)

pub overflow_add-result-2 : goal.overflow_add-result-2
overflow_add-result-2 c = omega (arith, end-small (goal.at.overflow_add-result-2 c).Start, c.row_gives-2.ensures, c.requires.j_in_bounds.0, c.requires.j_in_bounds.2.few, c.requires.start_bound.1)

pub returns : goal.returns
returns c =
    let e = sym c.row_on.ensures ∙ c.if-not-row_on.false in (
      omega (arith, pick_true (gives (goal.at.returns c).Start c.args.start) 0 e, c.row_gives.ensures),
      omega (arith, pick_true (gives (goal.at.returns c).Start c.args.end) 0 e, c.row_gives-2.ensures),
    )
