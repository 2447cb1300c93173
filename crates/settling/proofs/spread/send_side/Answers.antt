-- `settling::spread::send_side` meets its contract: a neighbour on the grid gets the amount, else it leaves the grid.
-- Assumes nothing.
use Rattle.std.proofs.Common.{ℕ, ◌<◌, ◌≤◌, ◌∙◌, arith}
use Rattle.grid.specs.Squares.{squares}
use Rattle.ledger.specs.Runs.{Plan, plan}
use Rattle.ledger.specs.Record.{leaves_in}
use Rattle.ledger.proofs.FlowLaws.{off_inside, off_beyond}
use Rattle.settling.proofs.SpreadLaws.{brought, brought_none}
use Rattle.settling.proofs.spread.send_side.Goals as goal
use Rattle.settling.proofs.spread.send_side.Goals.{After-squares_of}

-- ---- what is known once the side is tested

module _ (c : After-squares_of) where
  abbrev p : Plan
  p = plan c.args.shape c.args.marks.now

  abbrev at : ℕ
  at = c.beside_on-at.result

pub returns-then-squares_of-at : goal.returns-then-squares_of-at
returns-then-squares_of-at c =
    let beyond : squares (p (goal.at.returns-then-squares_of-at c).After-squares_of).shape ≤ at (goal.at.returns-then-squares_of-at c).After-squares_of = omega (arith, c.squares_of.ensures, c.if-squares_of-at.true) in (
      c.leaving-amount.ensures ∙ off_beyond (p (goal.at.returns-then-squares_of-at c).After-squares_of) (leaves_in c.args.rec.now) c.args.square c.args.side c.beside_on-at.ensures beyond,
      brought_none (p (goal.at.returns-then-squares_of-at c).After-squares_of) c.args.rec.now c.args.square c.args.side (omega (arith, beyond, c.beside_on-at.ensures)),
    )

pub returns : goal.returns
returns c =
    let inside : at (goal.at.returns c).After-squares_of < squares (p (goal.at.returns c).After-squares_of).shape = omega (arith, c.squares_of.ensures, c.if-squares_of-at.false) in (
      off_inside (p (goal.at.returns c).After-squares_of) (leaves_in c.args.rec.now) c.args.square c.args.side c.beside_on-at.ensures inside,
      brought (p (goal.at.returns c).After-squares_of) c.args.rec.now c.args.square c.args.side c.beside_on-at.ensures
          (omega (arith, inside, c.requires.sends_few.0.recorded.marks_long, c.requires.space_left.1)) c.leaving-amount.ensures
          (λ o. omega (arith, c.requires.space_left.0 (at (goal.at.returns c).After-squares_of) inside o, c.leaving-amount.ensures, c.requires.sends_few.0.few c.args.side c.requires.sends_few.1))
          c.send_to.ensures,
    )
