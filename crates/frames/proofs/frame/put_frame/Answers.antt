-- `frames::frame::put_frame` meets its contract: the figures, the rates and the rows.
-- Assumes nothing.
use mathlib.Core.List.{List, ◌++◌}
use Prim.Native.Nat.{ℕ, ◌+◌, ◌≤◌}
use lib.ListN.{length}
use Rattle.frames.specs.Frame.{figures_text, rates_text, rows_text, frame_text}
use Rattle.frames.proofs.FrameLaws.{first_fits, second_fits, third_fits, three_written}
use Rattle.frames.proofs.frame.put_frame.Goals as goal
use Rattle.frames.proofs.frame.put_frame.Goals.{Start}

-- the three texts
abbrev F : Start → List ℕ
F s = figures_text s.args.figures

abbrev L : Start → List ℕ
L s = rates_text s.args.litres

abbrev R : Start → List ℕ
R s = rows_text s.args.shape s.args.marks.now s.args.depths.now

fits : (s : Start) → s.args.at + length (F s ++ (L s ++ R s)) ≤ length s.args.out.now
unfolding frame_text
fits s = s.requires.depths_in_bounds

pub put_figures-first-requires : goal.put_figures-first-requires
put_figures-first-requires c = first_fits (F (goal.at.put_figures-first-requires c).Start) (L (goal.at.put_figures-first-requires c).Start) (R (goal.at.put_figures-first-requires c).Start) c.args.at c.args.out.now (fits (goal.at.put_figures-first-requires c).Start)

pub put_rates-second-requires : goal.put_rates-second-requires
put_rates-second-requires c = second_fits (F (goal.at.put_rates-second-requires c).Start) (L (goal.at.put_rates-second-requires c).Start) (R (goal.at.put_rates-second-requires c).Start) c.args.at c.args.out.now (fits (goal.at.put_rates-second-requires c).Start) c.put_figures-first.ensures

pub put_rows-requires : goal.put_rows-requires
put_rows-requires c = record {
  shape_in_range = c.requires.shape_in_range;
  depths_in_bounds = third_fits (F (goal.at.put_rows-requires c).Start) (L (goal.at.put_rows-requires c).Start) (R (goal.at.put_rows-requires c).Start) c.args.at c.args.out.now (fits (goal.at.put_rows-requires c).Start) c.put_figures-first.ensures c.put_rates-second.ensures;
}

pub returns : goal.returns
unfolding frame_text
returns c =
    three_written (F (goal.at.returns c).Start) (L (goal.at.returns c).Start) (R (goal.at.returns c).Start) c.args.at c.args.out.now (fits (goal.at.returns c).Start) c.put_figures-first.ensures
    c.put_rates-second.ensures c.put_rows.ensures
