-- `lists::judging::run_judged` meets its contract: a plan that differs is refused, another one run.
-- Assumes nothing.
use mathlib.Core.Path.{ap, ◌∙◌}
use native.Mathlib.Omega.{arith}
use Prim.Native.Nat.{ℕ}
use lib.ListN.{length, length-replicate}
use Rattle.programs.specs.Program.{program_squares}
use Rattle.lists.proofs.JudgedLaws.{judged_other, judged-run}
use Rattle.lists.proofs.judging.run_judged.Goals as goal

pub is_like_first-requires : goal.is_like_first-requires
is_like_first-requires c =
    let pre = c.requires in
    let h = pre.holds in
    (h.shape, omega (arith, h.few, h.marks_long), omega (arith, h.few, pre.firsts_len.0))

pub returns-then-not-is_like_first : goal.returns-then-not-is_like_first
returns-then-not-is_like_first c = judged_other c.is_like_first.ensures (c.if-not-is_like_first.true) c.refused.ensures

pub run_sheet_peaks-ran-requires : goal.run_sheet_peaks-ran-requires
run_sheet_peaks-ran-requires c =
    let pre = c.requires in
    let long = length-replicate {A = ℕ} program_squares 0 in record {
      holds = pre.holds;
      peaks_len = (ap length pre.firsts_len.1 ∙ long, long);
    }

pub returns : goal.returns
returns c =
    let pre = c.requires in
    judged-run c.is_like_first.ensures (c.if-not-is_like_first.false) pre.firsts_len.1 pre.holds.few c.run_sheet_peaks-ran.ensures.told
