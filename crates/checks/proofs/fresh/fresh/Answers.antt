-- `checks::fresh::fresh` meets its contract: refused, nothing is written; else the last leaving is cleared and the run is the fresh one.
-- Assumes nothing.
use mathlib.Core.Path.{◌≡◌, sym, ◌∙◌}
use native.Mathlib.Omega.{arith}
use Rattle.ledger.specs.Record.{room_slots}
use Rattle.checks.proofs.FreshLaws.{sizes_marked, sizes_lent, fresh_sizes, fresh-slots, fresh-refused, fresh_done}
use Rattle.checks.proofs.fresh.fresh.Goals as goal

pub returns-then-number-ne0 : goal.returns-then-number-ne0
returns-then-number-ne0 c = fresh-refused _ _ _ _ c.fresh_number-number.ensures c.if-number-ne0.true

pub clear_lasts-requires : goal.clear_lasts-requires
clear_lasts-requires c = sizes_lent _ _ _ _ (fresh_sizes _ _ _ _ (sym c.fresh_number-number.ensures ∙ c.if-number-ne0.false))

pub slots_of-requires : goal.slots_of-requires
slots_of-requires c = (sizes_marked _ _ _ _ (fresh_sizes _ _ _ _ (sym c.fresh_number-number.ensures ∙ c.if-number-ne0.false))).fine

pub fresh_run-requires : goal.fresh_run-requires
unfolding room_slots
fresh_run-requires c =
    let some : (c.slots_of.result ≡ 0 → ⊥) = λ z. fresh-slots _ _ _ _
    (sym c.fresh_number-number.ensures ∙ c.if-number-ne0.false) (sym c.slots_of.ensures ∙ z) in omega arith

pub returns : goal.returns
unfolding room_slots
returns c =
    fresh_done _ _ _ _ c.fresh_number-number.ensures c.if-number-ne0.false c.clear_lasts.ensures
    c.slots_of.ensures c.fresh_run.ensures
