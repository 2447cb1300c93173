-- `ledger::record::last_before` meets its contract: it reads the word at its place.
-- Assumes nothing.
use mathlib.Core.Path.{ap}
use Prim.Native.Nat.{ℕ}
use lib.ListN.{get_or}
use Rattle.ledger.specs.Record.{last_in}
use Rattle.ledger.proofs.record.last_before.Goals as goal

pub returns : goal.returns
unfolding last_in
returns c = ap (λ (k : ℕ). get_or c.args.rec.now k 0) c.word_place-at.ensures
