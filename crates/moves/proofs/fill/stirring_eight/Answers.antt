-- `moves::fill::stirring_eight` meets its contract: eight digits, each at its place.
-- Assumes nothing.
use mathlib.Core.Bool.{Bool}
use Prim.Native.Nat.{ℕ, ◌+◌}
use native.Mathlib.Omega.{arith}
use Rattle.moves.specs.Inner.Fill.{stirs}
use Rattle.moves.proofs.WetLaws.{digit_low, eight_bits}
use Rattle.moves.proofs.fill.stirring_eight.Goals as goal
use Rattle.moves.proofs.fill.stirring_eight.Goals.{After-stirring}

abbrev says : After-stirring → ℕ → Bool
says c = let a = c.args in stirs a.depths.now a.lasts.now a.added.now

pub overflow_add-result : goal.overflow_add-result
overflow_add-result c =
    let a = c.args in
    record { fits = omega (arith, c.stirring.ensures, digit_low (says (goal.at.overflow_add-result c).After-stirring a.at), c.stirring-2.ensures, digit_low (says (goal.at.overflow_add-result c).After-stirring (a.at + 1))) }

pub overflow_add-result-2 : goal.overflow_add-result-2
overflow_add-result-2 c =
    let a = c.args in
    record { fits = omega (arith, c.stirring.ensures, digit_low (says (goal.at.overflow_add-result-2 c).After-stirring a.at), c.stirring-2.ensures, digit_low (says (goal.at.overflow_add-result-2 c).After-stirring (a.at + 1)), c.stirring-3.ensures, digit_low (says (goal.at.overflow_add-result-2 c).After-stirring (a.at + 2))) }

pub overflow_add-result-3 : goal.overflow_add-result-3
overflow_add-result-3 c =
    let a = c.args in
    record { fits = omega (arith, c.stirring.ensures, digit_low (says (goal.at.overflow_add-result-3 c).After-stirring a.at), c.stirring-2.ensures, digit_low (says (goal.at.overflow_add-result-3 c).After-stirring (a.at + 1)), c.stirring-3.ensures, digit_low (says (goal.at.overflow_add-result-3 c).After-stirring (a.at + 2)), c.stirring-4.ensures, digit_low (says (goal.at.overflow_add-result-3 c).After-stirring (a.at + 3))) }

pub overflow_add-result-4 : goal.overflow_add-result-4
overflow_add-result-4 c =
    let a = c.args in
    record { fits = omega (arith, c.stirring.ensures, digit_low (says (goal.at.overflow_add-result-4 c).After-stirring a.at), c.stirring-2.ensures, digit_low (says (goal.at.overflow_add-result-4 c).After-stirring (a.at + 1)), c.stirring-3.ensures, digit_low (says (goal.at.overflow_add-result-4 c).After-stirring (a.at + 2)), c.stirring-4.ensures, digit_low (says (goal.at.overflow_add-result-4 c).After-stirring (a.at + 3)), c.stirring-5.ensures, digit_low (says (goal.at.overflow_add-result-4 c).After-stirring (a.at + 4))) }

pub overflow_add-result-5 : goal.overflow_add-result-5
overflow_add-result-5 c =
    let a = c.args in
    record { fits = omega (arith, c.stirring.ensures, digit_low (says (goal.at.overflow_add-result-5 c).After-stirring a.at), c.stirring-2.ensures, digit_low (says (goal.at.overflow_add-result-5 c).After-stirring (a.at + 1)), c.stirring-3.ensures, digit_low (says (goal.at.overflow_add-result-5 c).After-stirring (a.at + 2)), c.stirring-4.ensures, digit_low (says (goal.at.overflow_add-result-5 c).After-stirring (a.at + 3)), c.stirring-5.ensures, digit_low (says (goal.at.overflow_add-result-5 c).After-stirring (a.at + 4)), c.stirring-6.ensures, digit_low (says (goal.at.overflow_add-result-5 c).After-stirring (a.at + 5))) }

pub overflow_add-result-6 : goal.overflow_add-result-6
overflow_add-result-6 c =
    let a = c.args in
    record { fits = omega (arith, c.stirring.ensures, digit_low (says (goal.at.overflow_add-result-6 c).After-stirring a.at), c.stirring-2.ensures, digit_low (says (goal.at.overflow_add-result-6 c).After-stirring (a.at + 1)), c.stirring-3.ensures, digit_low (says (goal.at.overflow_add-result-6 c).After-stirring (a.at + 2)), c.stirring-4.ensures, digit_low (says (goal.at.overflow_add-result-6 c).After-stirring (a.at + 3)), c.stirring-5.ensures, digit_low (says (goal.at.overflow_add-result-6 c).After-stirring (a.at + 4)), c.stirring-6.ensures, digit_low (says (goal.at.overflow_add-result-6 c).After-stirring (a.at + 5)), c.stirring-7.ensures, digit_low (says (goal.at.overflow_add-result-6 c).After-stirring (a.at + 6))) }

pub overflow_add-result-7 : goal.overflow_add-result-7
overflow_add-result-7 c =
    let a = c.args in
    record { fits = omega (arith, c.stirring.ensures, digit_low (says (goal.at.overflow_add-result-7 c).After-stirring a.at), c.stirring-2.ensures, digit_low (says (goal.at.overflow_add-result-7 c).After-stirring (a.at + 1)), c.stirring-3.ensures, digit_low (says (goal.at.overflow_add-result-7 c).After-stirring (a.at + 2)), c.stirring-4.ensures, digit_low (says (goal.at.overflow_add-result-7 c).After-stirring (a.at + 3)), c.stirring-5.ensures, digit_low (says (goal.at.overflow_add-result-7 c).After-stirring (a.at + 4)), c.stirring-6.ensures, digit_low (says (goal.at.overflow_add-result-7 c).After-stirring (a.at + 5)), c.stirring-7.ensures, digit_low (says (goal.at.overflow_add-result-7 c).After-stirring (a.at + 6)), c.stirring-8.ensures, digit_low (says (goal.at.overflow_add-result-7 c).After-stirring (a.at + 7))) }

pub returns : goal.returns
returns c = eight_bits (says (goal.at.returns c).After-stirring) c.args.at c.stirring.ensures c.stirring-2.ensures c.stirring-3.ensures c.stirring-4.ensures c.stirring-5.ensures c.stirring-6.ensures c.stirring-7.ensures c.stirring-8.ensures
