-- `reckon::tables::inflow_added` meets its contract: the sums so far are those of the rows passed, and what a table has given never falls.
-- Assumes nothing.
use mathlib.Core.Path.{sym, ap₂}
use Prim.Native.Nat.{ℕ, ◌-◌}
use native.Mathlib.Omega.{arith}
use Rattle.reckon.specs.Tables.{inflow_kind, on_square}
use Rattle.reckon.specs.Inner.Fits.{Fits}
use Rattle.reckon.proofs.ListLaws.{sum_none, sum_again}
use Rattle.reckon.proofs.TableLaws.{term, terms_le, inflow_made, inflow_mono}
use Rattle.reckon.proofs.tables.inflow_added.Goals as goal
use Rattle.reckon.proofs.tables.inflow_added.Goals.{Start}

-- ---- the clock of the start is in range too

start_fits : (s : Start) → Fits inflow_kind s.args.rows.now s.args.start
start_fits s = record { few = s.requires.fits.few; amounts = s.requires.fits.amounts; clock = omega (arith, s.requires.fits.clock, s.requires.start_le_end.0) }

pub loop-j-init : goal.loop-j-init
loop-j-init c = record { started = sym (sum_none _); ended = sym (sum_none _) }

pub sums_with-sums-requires : goal.sums_with-sums-requires
sums_with-sums-requires c =
    let rows = c.args.rows.now in
    let counts = on_square rows c.args.r c.args.c in
    let j = c.loop-j.j in record {
      j_in_bounds = (omega arith, start_fits (goal.at.sums_with-sums-requires c).Start, c.requires.fits);
      start_bound = (
        omega (arith, c.loop-j.invariant.started, terms_le inflow_kind counts rows (start_fits (goal.at.sums_with-sums-requires c).Start) j (omega arith)),
        omega (arith, c.loop-j.invariant.ended, terms_le inflow_kind counts rows c.requires.fits j (omega arith)),
      );
    }

pub loop-j-preserved : goal.loop-j-preserved
loop-j-preserved c =
    let a = c.args in
    let row = term inflow_kind (on_square a.rows.now a.r a.c) a.rows.now in record {
      started = sum_again c.loop-j.j (row a.start) c.loop-j.invariant.started c.sums_with-sums.ensures.0;
      ended = sum_again c.loop-j.j (row a.end) c.loop-j.invariant.ended c.sums_with-sums.ensures.1;
    }

-- ---- the two amounts, all rows passed

pub overflow_sub-result : goal.overflow_sub-result
overflow_sub-result c =
    let a = c.args in
    omega (
      arith,
      inflow_made a.rows.now a.r a.c a.side a.start c.loop-j.invariant.started (omega arith),
      inflow_made a.rows.now a.r a.c a.side a.end c.loop-j.invariant.ended (omega arith),
      inflow_mono a.rows.now a.r a.c a.side c.requires.start_le_end.0,
    )

pub returns : goal.returns
returns c =
    let a = c.args in
    ap₂ (λ (x y : ℕ). x - y)
    (inflow_made a.rows.now a.r a.c a.side a.end c.loop-j.invariant.ended (omega arith))
    (inflow_made a.rows.now a.r a.c a.side a.start c.loop-j.invariant.started (omega arith))
