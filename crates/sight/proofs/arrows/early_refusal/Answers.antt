-- `sight::arrows::early_refusal` meets its contract: the first test that fails gives its number.
-- Assumes nothing.
use mathlib.Core.Path.{sym, ap, ◌∙◌}
use Prim.Native.Nat.{ℕ}
use native.Mathlib.Omega.{arith}
use Rattle.ledger.specs.Runs.{run_fine}
use Rattle.sight.proofs.RefusalLaws.{lent}
use Rattle.sight.proofs.ArrowLaws.{early_shared, early_run, early_kept, early_none, slots_are}
use Rattle.sight.proofs.arrows.early_refusal.Goals as goal

pub returns-then-shared-ne0 : goal.returns-then-shared-ne0
returns-then-shared-ne0 c = early_shared _ _ _ _ _ c.asked_fine-asked.ensures c.shared_refusal-shared.ensures c.if-shared-ne0.true

pub record_size-requires : goal.record_size-requires
record_size-requires c = (lent _ _ _ (sym c.shared_refusal-shared.ensures ∙ c.if-shared-ne0.false)).sizes.fine

pub slots_in-requires : goal.slots_in-requires
slots_in-requires c = omega (arith, c.record_size.ensures)

pub returns-then-not-run_fine : goal.returns-then-not-run_fine
returns-then-not-run_fine c =
    let fine =
    c.run_fine.ensures
    ∙ ap (λ (k : ℕ). run_fine k c.args.run)
    (slots_are _ _ c.slots_in.ensures c.record_size.ensures) in
    early_run _ _ _ _ _ c.asked_fine-asked.ensures c.shared_refusal-shared.ensures c.if-shared-ne0.false fine
    (c.if-not-run_fine.true)

pub returns-then-run-eq0 : goal.returns-then-run-eq0
returns-then-run-eq0 c =
    let fine =
    c.run_fine.ensures
    ∙ ap (λ (k : ℕ). run_fine k c.args.run)
    (slots_are _ _ c.slots_in.ensures c.record_size.ensures) in
    early_kept _ _ _ _ _ c.asked_fine-asked.ensures c.shared_refusal-shared.ensures c.if-shared-ne0.false fine
    (c.if-not-run_fine.false) c.if-run-eq0.true

pub returns : goal.returns
returns c =
    let fine =
    c.run_fine.ensures
    ∙ ap (λ (k : ℕ). run_fine k c.args.run)
    (slots_are _ _ c.slots_in.ensures c.record_size.ensures) in
    early_none _ _ _ _ _ c.asked_fine-asked.ensures c.shared_refusal-shared.ensures c.if-shared-ne0.false fine
    (c.if-not-run_fine.false) c.if-run-eq0.false
