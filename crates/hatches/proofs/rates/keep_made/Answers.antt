-- `hatches::rates::keep_made` meets its contract: where no step was made, no rates are kept.
-- Assumes nothing.
use mathlib.Core.Path.{sym, ap}
use Rattle.hatches.specs.Log.{rates_kept}
use Rattle.hatches.proofs.rates.keep_made.Goals as goal

pub returns-then-steps-eq0 : goal.returns-then-steps-eq0
unfolding rates_kept
returns-then-steps-eq0 c = sym (ap (λ (n : Prim.Native.Nat.ℕ). rates_kept c.args.slots n c.args.newest c.args.litres.now c.args.began.now) c.if-steps-eq0.true)
