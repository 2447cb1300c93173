-- `sheet::reading::judge` meets its contract: what is lent is a fresh run's, with a room for one record.
-- Assumes nothing.
use mathlib.Core.Path.{ap}
use Prim.Native.Nat.{ℕ}
use lib.ListN.{replicate, length-replicate}
use Rattle.sheet.proofs.JudgeLaws.{zeros_are, judge_is}
use Rattle.sheet.proofs.reading.judge.Goals as goal
use Rattle.sheet.proofs.reading.judge.Goals.{After-squares_of-squares}

pub returns : goal.returns
returns c =
    let n = c.record_size.result in
    judge_is _ _ _ _ (c.check.ensures (replicate n 0) (length-replicate {A = ℕ} n 0)) c.fresh_run-run.ensures
    (zeros_are _ _ c.squares_of-squares.ensures c.requires.few) (ap (λ (k : ℕ). replicate k 0) c.record_size.ensures)
