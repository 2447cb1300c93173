-- `panel::raise_digit` meets its contract, as `reckon::roots::raise_digit` does.
-- Assumes nothing.
use mathlib.Core.Path.{sym, ◌∙◌}
use Prim.Native.Nat.{◌+◌}
use native.Mathlib.Nat.{le_refl}
use native.Mathlib.Omega.{arith}
use borrow.Author.Tests.{leb-true}
use Rattle.reckon.proofs.RootLaws.{le_of_pow}
use Rattle.reckon.proofs.PlaceLaws.{ten_pos, trial_fits}
use Rattle.panel.proofs.raise_digit.Goals as goal

pub overflow_add-root : goal.overflow_add-root
overflow_add-root g c =
    let trial = trial_fits c.args.place c.loop-root.root c.requires.0 c.requires.1 c.loop-root.invariant in
    omega (arith, le_of_pow (c.loop-root.root + c.args.place) c.requires.0.power (le_refl _), trial)

pub still_fits-requires : goal.still_fits-requires
still_fits-requires g c = (c.requires.0.power, trial_fits c.args.place c.loop-root.root c.requires.0 c.requires.1 c.loop-root.invariant)

pub overflow_add-root-in-loop-root : goal.overflow_add-root-in-loop-root
overflow_add-root-in-loop-root g c =
    omega (arith, le_of_pow _ c.requires.0.power (leb-true _ _ (sym c.still_fits.ensures ∙ c.loop-root-test.true)))

pub loop-root-smaller : goal.loop-root-smaller
loop-root-smaller g c =
    omega (arith, le_of_pow _ c.requires.0.power (leb-true _ _ (sym c.still_fits.ensures ∙ c.loop-root-test.true)), ten_pos c.requires.1.tens)
