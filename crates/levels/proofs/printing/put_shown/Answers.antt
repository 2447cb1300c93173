-- `levels::printing::put_shown` meets its contract: a refused run prints its refusal, another one its boards and counts.
-- Assumes nothing.
use native.Mathlib.Omega.{arith}
use Rattle.levels.proofs.ShownLaws.{RanWords, shown-refused, shown_made, counts_follow}
use Rattle.levels.proofs.printing.put_shown.Goals as goal
use Rattle.levels.proofs.printing.put_shown.Goals.{Start}

words : (s : Start) → RanWords s.args.shown
words s =
    record {
      number_is = omega (arith, s.well_formed);
      steps_are = omega (arith, s.well_formed);
      outflow_is = omega (arith, s.well_formed);
      soaked_is = omega (arith, s.well_formed);
      clock_is = omega (arith, s.well_formed);
    }

pub returns-then-ran-ne0 : goal.returns-then-ran-ne0
returns-then-ran-ne0 c = shown-refused c.args.shown (words (goal.at.returns-then-ran-ne0 c).Start) c.requires.1 c.if-ran-ne0.true c.put_refused.ensures

pub put_levels-next-requires : goal.put_levels-next-requires
put_levels-next-requires c = (c.requires.0 c.if-ran-ne0.false, omega (arith, c.requires.1))

pub put_counts-requires : goal.put_counts-requires
put_counts-requires c = counts_follow c.args.shown (words (goal.at.put_counts-requires c).Start) c.requires.1 c.put_levels-next.ensures

pub returns : goal.returns
returns c =
    shown_made c.args.shown (words (goal.at.returns c).Start) c.requires.1 c.put_levels-next.ensures c.if-ran-ne0.false
    c.put_counts.ensures
