-- `ledger::record::leaving` meets its contract: it reads the word at its place.
-- Assumes nothing.
use mathlib.Core.Path.{ap, ◌∙◌}
use Prim.Native.Nat.{ℕ}
use lib.ListN.{get_or}
use Rattle.ledger.specs.Record.{leaves_in}
use Rattle.ledger.proofs.record.leaving.Goals as goal

pub returns : goal.returns
unfolding leaves_in
returns c = c.number.ensures ∙ ap (λ (k : ℕ). get_or c.args.rec.now k 0) c.word_place.ensures
