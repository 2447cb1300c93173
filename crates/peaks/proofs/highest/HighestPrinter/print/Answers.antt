-- `peaks::highest::Highest` prints what it says: the run of the sheet with its peaks.
-- Assumes nothing.
use mathlib.Core.Path.{refl, sym, ◌∙◌}
use Prim.Native.Nat.{ℕ}
use native.Mathlib.Omega.{arith}
use lib.ListN.{replicate}
use Rattle.sheet.proofs.JudgeLaws.{taken_long, zeros_are}
use Rattle.programs.specs.Program.{program_squares}
use Rattle.programs.proofs.HeldLaws.{first_part}
use Rattle.peaks.proofs.HighestLaws.{highest_printed}
use Rattle.peaks.proofs.highest.HighestPrinter.print.Goals as goal

pub returns : goal.returns
returns c =
    let b = c.requires.0 in
    let n = c.squares_of-squares.ensures in
    let k = c.squares_of-squares.result in
    let ran = c.run_peaks-ran in
    let none = zeros_are _ _ n b.few in
    let long = sym (taken_long {n = k} {size = program_squares} (replicate {A = ℕ} program_squares 0) (omega (arith, n, b.few)) refl) in
    highest_printed c.args.heading _ b c.fresh_run-run.ensures none none ran.ensures
    (first_part ran.new.peaks _ (ran.auto.peaks ∙ long)) (first_part ran.new.clocks _ (ran.auto.clocks ∙ long)) c.put_highest.ensures
