-- `hatches::rates::rates_in` meets its contract: the slot's nine numbers over nine zeros.
-- Assumes nothing.
use mathlib.Core.Path.{refl}
use Rattle.hatches.proofs.RatesLaws.{slot_copied}
use Rattle.hatches.proofs.rates.rates_in.Goals as goal

pub returns : goal.returns
returns c = slot_copied c.args.began.now c.args.slot c.requires refl refl c.copy_into.ensures
