-- `peaks::highest::put_highest` meets its contract: a refused run prints its refusal, another one its peaks and totals.
-- Assumes nothing.
use native.Mathlib.Omega.{arith}
use Prim.Native.Nat.{ℕ, ◌<◌, ◌^◌}
use lib.ListN.{get_or}
use Rattle.ledger.specs.Runs.{Plan, plan}
use Rattle.programs.proofs.EndedLaws.{Words}
use Rattle.peaks.proofs.HighLaws.{highs_fit, high_refused, high_made, totals_follow}
use Rattle.peaks.proofs.highest.put_highest.Goals as goal
use Rattle.peaks.proofs.highest.put_highest.Goals.{After-shared_slice_known-3-1, Start}

abbrev P : Start → Plan
P s = plan s.args.shape s.args.marks.now

words : (c : After-shared_slice_known-3-1) → Words c.args.peaks.now c.args.ran
words c =
    record {
      depths_are = λ i. omega (arith, c.type_inv.peaks i);
      number_is = omega (arith, c.well_formed);
      steps_are = omega (arith, c.well_formed);
      outflow_is = omega (arith, c.well_formed);
      soaked_is = omega (arith, c.well_formed);
      clock_is = omega (arith, c.well_formed);
    }

clocks-small : (c : After-shared_slice_known-3-1) → (i : ℕ) → get_or c.args.clocks.now i 0 < 2 ^ 32
clocks-small c i = omega (arith, c.type_inv.clocks i)

pub returns-then-ran-ne0 : goal.returns-then-ran-ne0
returns-then-ran-ne0 c = high_refused (P (goal.at.returns-then-ran-ne0 c).Start) c.args.peaks.now c.args.clocks.now c.args.ran c.requires.shape_in_range.1 (words (goal.at.returns-then-ran-ne0 c).After-shared_slice_known-3-1) (clocks-small (goal.at.returns-then-ran-ne0 c).After-shared_slice_known-3-1) c.requires.shape_in_range.2 c.if-ran-ne0.true c.put_refused.ensures

pub put_highs-next-requires : goal.put_highs-next-requires
put_highs-next-requires c = record {
  shape_in_range = (c.requires.shape_in_range.0, c.requires.shape_in_bounds.0, c.requires.shape_in_bounds.1, c.requires.shape_in_bounds.2);
  clocks_in_bounds = omega (arith, c.requires.shape_in_range.2, highs_fit (P (goal.at.put_highs-next-requires c).Start) c.args.peaks.now c.args.clocks.now c.args.ran c.requires.shape_in_range.1 (words (goal.at.put_highs-next-requires c).After-shared_slice_known-3-1) (clocks-small (goal.at.put_highs-next-requires c).After-shared_slice_known-3-1));
}

pub put_totals-requires : goal.put_totals-requires
put_totals-requires c = totals_follow (P (goal.at.put_totals-requires c).Start) c.args.peaks.now c.args.clocks.now c.args.ran c.requires.shape_in_range.1 (words (goal.at.put_totals-requires c).After-shared_slice_known-3-1) (clocks-small (goal.at.put_totals-requires c).After-shared_slice_known-3-1) c.requires.shape_in_range.2 c.put_highs-next.ensures

pub returns : goal.returns
returns c =
    let at-if1 = c.if-ran-ne0 in
    let at-put-highs = c.put_highs-next in
    let k = (goal.at.returns c).After-shared_slice_known-3-1 in
    high_made (P (goal.at.returns c).Start) c.args.peaks.now c.args.clocks.now c.args.ran c.requires.shape_in_range.1 (words k) (clocks-small k) c.requires.shape_in_range.2
    at-if1.false at-put-highs.ensures c.put_totals.ensures
