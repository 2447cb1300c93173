-- `adding::added::pour_row` meets its contract: the square of a row is on the grid.
-- Assumes nothing.
use mathlib.Core.Path.{◌≡◌, refl, sym, ◌∙◌, ap₂}
use Prim.Native.Nat.{ℕ, ◌+◌, ◌<◌}
use native.Mathlib.Omega.{arith}
use lib.ListN.{set, length-set}
use borrow.Author.Tests.{le-leb, lt-leb}
use Rattle.reckon.specs.Ranges.{most_depth}
use Rattle.reckon.proofs.TestLaws.{not_both}
use Rattle.reckon.proofs.TableLaws.{inflow_le}
use Rattle.grid.specs.Squares.{squares, square_at}
use Rattle.grid.proofs.SquareLaws.{square_within}
use Rattle.adding.proofs.AddedLaws.{row_is_on, amount_made}
use Rattle.adding.specs.Inner.Added.{amount_at, row_square}
use Rattle.adding.proofs.added.pour_row.Goals as goal
use Rattle.adding.proofs.added.pour_row.Goals.{After-poured, After-square_at-square, Start}

-- ---- what is known there

-- the square of the row, and what is added to it
abbrev at : Start → ℕ
at s = row_square s.args.way.shape s.args.way.rules s.args.inflow.now s.args.start s.args.end s.args.rain s.args.j

abbrev amount : Start → ℕ
amount s = amount_at s.args.way.shape s.args.way.rules s.args.inflow.now s.args.start s.args.end s.args.rain (at s)

amount_is : (c : After-poured) → c.args.rain + c.poured.result ≡ amount (goal.at.After-poured c).Start
amount_is c =
    amount_made c.args.way.shape c.args.way.rules c.args.inflow.now c.args.start c.args.end c.args.rain c.args.j
    (c.requires.0.column_in c.args.j c.requires.2) c.number-row.ensures c.number-column.ensures
    c.poured.ensures

within : (c : After-square_at-square) → c.square_at-square.result < squares c.args.way.shape
within c =
    let a = c.requires.0 in
    omega (
      arith,
      c.square_at-square.ensures,
      square_within c.args.way.shape {row = c.number-row.result} {column = c.number-column.result}
          (omega (arith, a.row_in c.args.j c.requires.2)) (omega (arith, a.column_in c.args.j c.requires.2)),
    )

-- ---- the answers

pub poured-requires : goal.poured-requires
poured-requires c =
    let a = c.requires.0 in record {
      apart_value = (c.requires.3, c.requires.2, row_is_on c.args.inflow.now c.args.j c.number-row.ensures c.number-column.ensures);
      fits = (a.table, a.ordered, a.side_from, a.side_to);
    }

pub overflow_add-amount : goal.overflow_add-amount
overflow_add-amount c =
    omega (
      arith,
      inflow_le c.args.inflow.now c.number-row.result c.number-column.result c.args.way.rules.square_side
          c.requires.0.table,
      c.poured.ensures,
    )

pub returns-then-amount : goal.returns-then-amount
returns-then-amount c =
    let e = amount_is (goal.at.returns-then-amount c).After-poured in
    record { fits_is = sym (lt-leb (amount (goal.at.returns-then-amount c).Start) most_depth (omega arith)); stored = λ t. not_both t refl; long = refl }

pub bounds-room-square : goal.bounds-room-square
bounds-room-square c = omega (arith, within c)

pub returns : goal.returns
returns c =
    let e = amount_is (goal.at.returns c).After-poured in
    record {
      fits_is = sym (le-leb (amount (goal.at.returns c).Start) most_depth (omega arith));
      stored =
          λ t. ap₂ (λ (i v : ℕ). set c.args.room.now i v)
          (c.square_at-square.ensures ∙ ap₂ (square_at c.args.way.shape) c.number-row.ensures c.number-column.ensures) e;
      long = length-set c.args.room.now c.square_at-square.result _;
    }
