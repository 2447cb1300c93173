-- `peaks::raising::raise_one` meets its contract: a square that does not rise is left.
-- Assumes nothing.
use mathlib.Core.Path.{ap}
use mathlib.Core.Bool.{not}
use mathlib.Core.Path.{sym}
use Rattle.checks.proofs.CheckLaws.{fails_by, holds_by}
use Rattle.reckon.proofs.TestLaws.{pick_true, pick_false}
use Rattle.peaks.proofs.raising.raise_one.Goals as goal

pub returns-then-not-rises : goal.returns-then-not-rises
returns-then-not-rises c = record { peaks_are = sym (pick_false _ _ (fails_by c.rises.ensures (ap not c.if-not-rises.true))); clocks_are = sym (pick_false _ _ (fails_by c.rises.ensures (ap not c.if-not-rises.true))) }

pub returns : goal.returns
returns c = record { peaks_are = sym (pick_true _ _ (holds_by c.rises.ensures (ap not c.if-not-rises.false))); clocks_are = sym (pick_true _ _ (holds_by c.rises.ensures (ap not c.if-not-rises.false))) }
