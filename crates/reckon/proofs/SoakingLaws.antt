-- Laws of what is due to soak: it never falls, and ground with no rate soaks nothing.
-- Assumes nothing.
use mathlib.Core.Path.{◌≡◌}
use Prim.Native.Nat.{ℕ, ◌≤◌}
use native.Mathlib.Nat.{mul-le-mul_left, zero-mul}
use Rattle.reckon.specs.Tables.{hour}
use Rattle.reckon.specs.Soaking.{soak_by, soak_due}
use Rattle.reckon.proofs.QuotientLaws.{div_mono}

pub soak_mono : (rate : ℕ) {t u : ℕ} → t ≤ u → soak_by rate t ≤ soak_by rate u
unfolding soak_by
soak_mono rate h = div_mono hour (mul-le-mul_left rate h)

pub due_none : {rate : ℕ} (start end : ℕ) → rate ≡ 0 → 0 ≡ soak_due rate start end
unfolding soak_due soak_by
due_none start end e = rw (e, zero-mul end, zero-mul start)
