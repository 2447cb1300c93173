-- `reckon::roots::raise_digit` meets its contract: the power of the root always fits, and the loop ends where one more does not.
-- Assumes nothing.
use Prim.Native.Nat.{◌+◌, ◌^◌, ◌≤◌, ◌<◌}
use native.Mathlib.Nat.{le_refl}
use native.Mathlib.Omega.{arith}
use Rattle.reckon.proofs.RootLaws.{le_of_pow}
use Rattle.reckon.proofs.PlaceLaws.{ten_pos, trial_fits}
use Rattle.reckon.proofs.roots.raise_digit.Goals as goal
use Rattle.reckon.proofs.roots.raise_digit.Goals.{At-loop-root, In-loop-root}

-- what is tried fits, and so does its power
trial : (c : At-loop-root) → (c.loop-root.root + c.args.place) ^ c.args.p < 2 ^ 64
trial c = trial_fits c.args.place c.loop-root.root c.requires.0 c.requires.1 c.loop-root.invariant

pub overflow_add-root : goal.overflow_add-root
overflow_add-root c = omega (arith, le_of_pow (c.loop-root.root + c.args.place) c.requires.0.power (le_refl _), trial c)

pub raised-requires : goal.raised-requires
raised-requires c = (c.requires.0.power, trial c)

-- the raised root is at most n
below : (c : In-loop-root) → c.loop-root.root + c.args.place ≤ c.args.n
below c = le_of_pow _ c.requires.0.power (omega arith)

pub overflow_add-root-in-loop-root : goal.overflow_add-root-in-loop-root
overflow_add-root-in-loop-root c = omega (arith, below c)

pub loop-root-smaller : goal.loop-root-smaller
loop-root-smaller c = omega (arith, below c, ten_pos c.requires.1.tens)
