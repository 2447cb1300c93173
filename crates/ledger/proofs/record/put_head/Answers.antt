-- `ledger::record::put_head` meets its contract: two stores in a row are two words placed.
-- Assumes nothing.
use mathlib.Core.List.{[], ◌∷◌}
use Rattle.reckon.proofs.CopyLaws.{stored_placed}
use Rattle.ledger.proofs.record.put_head.Goals as goal

pub returns : goal.returns
returns c = stored_placed c.args.rec.now 0 (c.args.held ∷ c.args.lasts ∷ []) c.requires.head_words_in_bounds
