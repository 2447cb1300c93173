-- `holes::repairing::looked_in` meets its contract: each test in its turn.
-- Assumes nothing.
use mathlib.Core.Bool.{true}
use mathlib.Core.Path.{sym, ap, ◌∙◌}
use native.Mathlib.Omega.{arith}
use Rattle.std.proofs.Common.{Some, is_some}
use Rattle.grid.proofs.SquareLaws.{ranges_of_fine}
use Rattle.holes.specs.Holes.{looked_in}
use Rattle.holes.proofs.HoleLaws.{looked_unfound, looked_unfine, looked_many, looked_all}
use Rattle.holes.proofs.repairing.looked_in.Goals as goal

pub returns-in_default : goal.returns-in_default
returns-in_default c = looked_unfound c.args.top (ap is_some c.in_default.is)

pub returns-then-not-shape_fine : goal.returns-then-not-shape_fine
returns-then-not-shape_fine c =
    looked_unfine (Some c.in-Some.top) (sym c.shape_fine.ensures ∙ c.if-not-shape_fine.true) ∙ ap looked_in (sym c.in-Some.is)

pub squares_of-squares-requires : goal.squares_of-squares-requires
squares_of-squares-requires c = ranges_of_fine c.in-Some.top.shape (sym c.shape_fine.ensures ∙ c.if-not-shape_fine.false)

pub returns-then-squares-gt-PROGRAM_SQUARES : goal.returns-then-squares-gt-PROGRAM_SQUARES
returns-then-squares-gt-PROGRAM_SQUARES c =
    looked_many (Some c.in-Some.top) (omega (arith, c.if-squares-gt-PROGRAM_SQUARES.true, c.squares_of-squares.ensures))
    ∙ ap looked_in (sym c.in-Some.is)

pub returns : goal.returns
returns c =
    c.squares_of-squares.ensures
    ∙ (looked_all (Some c.in-Some.top) (λ j. true)
    (sym c.shape_fine.ensures ∙ c.if-not-shape_fine.false)
    (omega (arith, c.if-squares-gt-PROGRAM_SQUARES.false, c.squares_of-squares.ensures))
    ∙ ap looked_in (sym c.in-Some.is))
