-- `peaks::running::peak_rooms_fine` meets its contract: the first test that fails decides.
-- Assumes nothing.
use mathlib.Core.Bool.{not}
use lib.ListN.{length}
use lib.Dec.{eqb}
use mathlib.Core.Path.{sym, ap, ◌∙◌}
use borrow.Author.Tests.{eq-eqb, ne_eqb}
use Rattle.reckon.proofs.TestLaws.{every_fails}
use Rattle.grid.proofs.SquareLaws.{ranges_of_fine}
use Rattle.checks.proofs.CheckLaws.{fails_by, holds_by, every_decided}
use Rattle.peaks.proofs.running.peak_rooms_fine.Goals as goal

pub returns-then-not-shape_fine : goal.returns-then-not-shape_fine
returns-then-not-shape_fine c = sym (every_fails _ 0 (fails_by c.shape_fine.ensures (ap not c.if-not-shape_fine.true)))

pub squares_of-squares-requires : goal.squares_of-squares-requires
squares_of-squares-requires c = ranges_of_fine _ (holds_by c.shape_fine.ensures (ap not c.if-not-shape_fine.false))

pub returns-then-peaks-squares : goal.returns-then-peaks-squares
returns-then-peaks-squares c = sym (every_fails _ 1 (ne_eqb _ _ (λ z. c.if-peaks-squares.true (z ∙ sym c.squares_of-squares.ensures))))

pub returns : goal.returns
returns c =
    every_decided _ 2 _ (ap (eqb (length c.args.clocks.now)) (sym c.squares_of-squares.ensures))
    (λ t. (
      holds_by c.shape_fine.ensures (ap not c.if-not-shape_fine.false),
      (
        eq-eqb _ _ (c.if-peaks-squares.false ∙ c.squares_of-squares.ensures),
        (ap (eqb (length c.args.clocks.now)) (sym c.squares_of-squares.ensures) ∙ t, tt),
      ),
    ))
