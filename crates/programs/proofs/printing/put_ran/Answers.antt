-- `programs::printing::put_ran` meets its contract: a refused run prints its refusal, another one its world.
-- Assumes nothing.
use native.Mathlib.Omega.{arith}
use Rattle.ledger.specs.Runs.{Plan, plan}
use Rattle.programs.proofs.EndedLaws.{Words, ran-refused, ran_made, made_fits}
use Rattle.programs.proofs.printing.put_ran.Goals as goal
use Rattle.programs.proofs.printing.put_ran.Goals.{After-shared_slice_known-2-1, Start}

abbrev P : Start → Plan
P c = plan c.args.shape c.args.marks.now

words : (c : After-shared_slice_known-2-1) → Words c.args.depths.now c.args.ran
words c =
    record {
      depths_are = λ i. omega (arith, c.type_inv.depths i);
      number_is = omega (arith, c.well_formed);
      steps_are = omega (arith, c.well_formed);
      outflow_is = omega (arith, c.well_formed);
      soaked_is = omega (arith, c.well_formed);
      clock_is = omega (arith, c.well_formed);
    }

pub returns-then-ran-ne0 : goal.returns-then-ran-ne0
returns-then-ran-ne0 c = ran-refused (P (goal.at.returns-then-ran-ne0 c).Start) c.args.depths.now c.args.ran c.requires.shape_in_range.0.few (words (goal.at.returns-then-ran-ne0 c).After-shared_slice_known-2-1) c.if-ran-ne0.true c.put_refused.ensures

pub put_world-requires : goal.put_world-requires
put_world-requires c = record {
  shape_in_range = c.requires.shape_in_range;
  steps_in_bounds = omega (arith, c.requires.shape_in_bounds, made_fits (P (goal.at.put_world-requires c).Start) c.args.depths.now c.args.ran c.requires.shape_in_range.0.few (words (goal.at.put_world-requires c).After-shared_slice_known-2-1));
}

pub returns : goal.returns
returns c = ran_made (P (goal.at.returns c).Start) c.args.depths.now c.args.ran c.requires.shape_in_range.0.few (words (goal.at.returns c).After-shared_slice_known-2-1) c.if-ran-ne0.false c.put_world.ensures
