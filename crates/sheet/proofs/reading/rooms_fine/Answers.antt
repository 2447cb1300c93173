-- `sheet::reading::rooms_fine` meets its contract: each test decides where those before it hold.
-- Assumes nothing.
use mathlib.Core.Path.{ap}
use mathlib.Core.Bool.{not}
use mathlib.Core.Bool.{true, false}
use mathlib.Core.Path.{◌≡◌, refl, sym}
use Prim.Native.Nat.{ℕ, ◌≤◌, ◌<◌}
use native.Mathlib.Omega.{arith}
use lib.Dec.{leb}
use borrow.Author.Tests.{le-leb, lt-leb}
use Rattle.reckon.proofs.TestLaws.{every_fails}
use Rattle.grid.specs.Squares.{squares}
use Rattle.grid.proofs.SquareLaws.{ranges_of_fine}
use Rattle.checks.proofs.CheckLaws.{fails_by, holds_by, every_decided}
use Rattle.sheet.proofs.reading.rooms_fine.Goals as goal
use Rattle.sheet.proofs.reading.rooms_fine.Goals.{After-squares_of-squares}

-- the squares that are counted, of which grid
abbrev S : After-squares_of-squares → ℕ
S c = squares c.args.shape

-- a room that is too small, and one that is not
small : (c : After-squares_of-squares) (room : ℕ) → room < c.squares_of-squares.result → leb (S c) room ≡ false
small c room l = lt-leb (S c) room (omega (arith, l, c.squares_of-squares.ensures))

enough : (c : After-squares_of-squares) (room : ℕ) → c.squares_of-squares.result ≤ room → leb (S c) room ≡ true
enough c room l = le-leb (S c) room (omega (arith, l, c.squares_of-squares.ensures))

pub returns-then-not-shape_fine : goal.returns-then-not-shape_fine
returns-then-not-shape_fine c = sym (every_fails _ 0 (fails_by c.shape_fine.ensures (ap not c.if-not-shape_fine.true)))

pub returns-then-not-side_fine : goal.returns-then-not-side_fine
returns-then-not-side_fine c = sym (every_fails _ 1 (fails_by c.side_fine.ensures (ap not c.if-not-side_fine.true)))

pub squares_of-squares-requires : goal.squares_of-squares-requires
squares_of-squares-requires c = ranges_of_fine _ (holds_by c.shape_fine.ensures (ap not c.if-not-shape_fine.false))

pub returns-then-lent-squares : goal.returns-then-lent-squares
returns-then-lent-squares c = sym (every_fails _ 2 (small (goal.at.returns-then-lent-squares c).After-squares_of-squares _ c.if-lent-squares.true))

pub returns-then-lent-squares-2 : goal.returns-then-lent-squares-2
returns-then-lent-squares-2 c = sym (every_fails _ 3 (small (goal.at.returns-then-lent-squares-2 c).After-squares_of-squares _ c.if-lent-squares-2.true))

pub returns-then-lent-squares-3 : goal.returns-then-lent-squares-3
returns-then-lent-squares-3 c = sym (every_fails _ 4 (small (goal.at.returns-then-lent-squares-3 c).After-squares_of-squares _ c.if-lent-squares-3.true))

pub returns-then-lent-squares-4 : goal.returns-then-lent-squares-4
returns-then-lent-squares-4 c = sym (every_fails _ 5 (small (goal.at.returns-then-lent-squares-4 c).After-squares_of-squares _ c.if-lent-squares-4.true))

pub returns-then-lent-squares-5 : goal.returns-then-lent-squares-5
returns-then-lent-squares-5 c = sym (every_fails _ 6 (small (goal.at.returns-then-lent-squares-5 c).After-squares_of-squares _ c.if-lent-squares-5.true))

pub returns-then-lent-lt-RAIN_ROOM : goal.returns-then-lent-lt-RAIN_ROOM
returns-then-lent-lt-RAIN_ROOM c = sym (every_fails _ 7 (lt-leb _ _ c.if-lent-lt-RAIN_ROOM.true))

pub returns : goal.returns
returns c =
    every_decided _ 8 _ refl
    (λ t. (
      (holds_by c.shape_fine.ensures (ap not c.if-not-shape_fine.false)),
      (
        (holds_by c.side_fine.ensures (ap not c.if-not-side_fine.false)),
        (
          enough (goal.at.returns c).After-squares_of-squares _ c.if-lent-squares.false,
          (
            enough (goal.at.returns c).After-squares_of-squares _ c.if-lent-squares-2.false,
            (enough (goal.at.returns c).After-squares_of-squares _ c.if-lent-squares-3.false, (enough (goal.at.returns c).After-squares_of-squares _ c.if-lent-squares-4.false, (enough (goal.at.returns c).After-squares_of-squares _ c.if-lent-squares-5.false, (le-leb _ _ c.if-lent-lt-RAIN_ROOM.false, (t, tt))))),
          ),
        ),
      ),
    ))
