-- `ledger::record::soaked_by` meets its contract: it reads the word at its place.
-- Assumes nothing.
use mathlib.Core.Path.{ap, ◌∙◌}
use Prim.Native.Nat.{ℕ}
use lib.ListN.{get_or}
use Rattle.ledger.specs.Record.{soaked_in}
use Rattle.ledger.proofs.record.soaked_by.Goals as goal

pub returns : goal.returns
unfolding soaked_in
returns c = c.number.ensures ∙ ap (λ (k : ℕ). get_or c.args.rec.now k 0) c.word_place.ensures
