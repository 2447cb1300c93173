-- `seen::speed` is safe and ends: its float is read as bits only where it equals itself.
-- Assumes nothing.
use mathlib.Core.Path.{◌≡◌}
use lib.Dec.{T}
use mathlib.Core.Bool.{false, not, true≢false}
use lib.Ieee.{Float, eq, fin, inf, is_nan, nan, ne}
use Rattle.seen.proofs.speed.Goals as goal

-- a float that is equal to itself is a number
not-nan : (x : Float) → ne x x ≡ false → T (not (is_nan x))
unfolding ne eq is_nan
not-nan nan e = absurd (true≢false e)
not-nan (inf s) e = tt
not-nan (fin s m e) f = tt

-- src/main.rt:64:16
pub float_to_bits-bits : goal.float_to_bits-bits
float_to_bits-bits g c = not-nan c.args.speed c.if-speed.false
