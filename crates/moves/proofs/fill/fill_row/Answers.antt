-- `moves::fill::fill_row` meets its contract: of the columns passed the record, the room and the mask tell, and those between two that are
-- worked stand already.
-- Assumes nothing.
use mathlib.Core.Path.{◌≡◌, refl, ◌∙◌}
use mathlib.Core.List.{List}
use Prim.Native.Nat.{ℕ, ◌+◌, ◌≤◌, ◌<◌}
use native.Mathlib.Omega.{arith}
use lib.ListN.{length}
use Rattle.grid.specs.Squares.{squares}
use Rattle.grid.specs.Masks.{bits}
use Rattle.grid.specs.Inner.Visits.{Passes, Visits}
use Rattle.grid.proofs.SquareLaws.{row-column}
use Rattle.grid.proofs.RestLaws.{walk_begins, walk_within, walk_turn, walk_on, walk_over}
use Rattle.ledger.specs.Runs.{Plan, plan}
use Rattle.checks.specs.Given.{Ground, ground}
use Rattle.moves.specs.Inner.Fill.{FilledColumns}
use Rattle.moves.proofs.FillLaws.{fills_still}
use Rattle.moves.proofs.WetLaws.{columns_none, columns_idle, columns_more, senders_fit}
use Rattle.moves.proofs.fill.fill_row.Goals as goal
use Rattle.moves.proofs.fill.fill_row.Goals.{After-lowest_set-column, After-sender_bit-senders, Start}

-- ---- what is known there

abbrev p : Start → Plan
p s = plan s.args.way.shape s.args.marks.now

abbrev o : Start → Ground
o s = ground s.args.way.rules s.args.beds.now s.args.roughness.now s.args.rates.now

-- the columns done so far; one that is not worked stands already
abbrev Done : Start → ℕ → List ℕ → List ℕ → ℕ → Type 0
Done s k rec left senders =
    FilledColumns (p s) (o s) s.args.depths.now s.args.lasts.now s.args.added.now s.args.span.start s.args.span.duration s.args.row.first
    s.args.row.mask k s.args.rec.now rec s.args.left.now left senders

passes :
    (s : Start) (rec left : List ℕ) (senders : ℕ) →
    Passes s.args.row.mask s.args.way.shape.columns (λ k. Done s k rec left senders)
passes s rec left senders k h b f = columns_idle f s.requires.in_row.0.fits h b (s.requires.in_row.1 k h b)

high : (s : Start) → s.args.way.shape.columns ≤ bits
high s = s.requires.fills.flows.lies.sited.fine.columns_high

-- in a turn: the column is one of the row
module _ (c : After-lowest_set-column) where
  abbrev column : ℕ
  column = c.lowest_set-column.result

  within : column < c.args.way.shape.columns
  within = walk_within c.loop-rest.invariant.2 (high (goal.at.After-lowest_set-column c).Start) c.loop-rest-test.true c.lowest_set-column.ensures

  visits :
      Visits c.args.row.mask c.args.way.shape.columns
      (λ k. Done (goal.at.After-lowest_set-column c).Start k c.loop-rest.rec c.loop-rest.left c.loop-rest.senders) column
  visits = walk_turn c.loop-rest.invariant.2 (high (goal.at.After-lowest_set-column c).Start) c.loop-rest-test.true c.lowest_set-column.ensures (passes (goal.at.After-lowest_set-column c).Start _ _ _)

  room_long : length c.loop-rest.left ≡ squares c.args.way.shape
  room_long = c.loop-rest.invariant.1 ∙ c.requires.in_row.2

-- one column more, where the square is worked and its bit is told
module _ (c : After-sender_bit-senders) where
  one_more :
      Done (goal.at.After-sender_bit-senders c).Start (column (goal.at.After-sender_bit-senders c).After-lowest_set-column + 1) c.fill_square-sent.new.rec c.fill_square-sent.new.left
      (c.loop-rest.senders + c.sender_bit-senders.result)
  one_more =
      columns_more (visits (goal.at.After-sender_bit-senders c).After-lowest_set-column).held c.requires.in_row.0.fits (within (goal.at.After-sender_bit-senders c).After-lowest_set-column) (room_long (goal.at.After-sender_bit-senders c).After-lowest_set-column) c.fill_square-sent.ensures
      c.sender_bit-senders.ensures

-- ---- the answers

pub loop-rest-init : goal.loop-rest-init
loop-rest-init c = (refl, refl, walk_begins (high (goal.at.loop-rest-init c).Start) c.within_row-rest.ensures columns_none)

pub overflow_add-square : goal.overflow_add-square
overflow_add-square c = omega (arith, c.requires.in_row.0.fits, c.requires.fills.flows.lies.sited.fine.few, within (goal.at.overflow_add-square c).After-lowest_set-column)

pub fill_square-sent-requires : goal.fill_square-sent-requires
fill_square-sent-requires c = record {
  fills = fills_still c.loop-rest.invariant.0 c.requires.fills;
  on_square = (row-column c.args.way.shape c.requires.fills.flows.lies.sited.fine c.requires.in_row.0 (within (goal.at.fill_square-sent-requires c).After-lowest_set-column), room_long (goal.at.fill_square-sent-requires c).After-lowest_set-column);
}

pub sender_bit-senders-requires : goal.sender_bit-senders-requires
sender_bit-senders-requires c = omega (arith, within (goal.at.sender_bit-senders-requires c).After-lowest_set-column, high (goal.at.sender_bit-senders-requires c).Start)

pub overflow_add-senders : goal.overflow_add-senders
overflow_add-senders c = record { fits = senders_fit (one_more c) c.requires.in_row.0.fits (omega (arith, within (goal.at.overflow_add-senders c).After-lowest_set-column, high (goal.at.overflow_add-senders c).Start)) }

pub loop-rest-preserved : goal.loop-rest-preserved
loop-rest-preserved c = (
  c.fill_square-sent.auto.rec ∙ c.loop-rest.invariant.0,
  c.fill_square-sent.auto.left ∙ c.loop-rest.invariant.1,
  walk_on c.loop-rest.invariant.2 (high (goal.at.loop-rest-preserved c).Start) c.loop-rest-test.true c.lowest_set-column.ensures c.without_lowest-rest.ensures (one_more (goal.at.loop-rest-preserved c).After-sender_bit-senders),
)

pub returns : goal.returns
returns c = walk_over c.loop-rest.invariant.2 (high (goal.at.returns c).Start) c.loop-rest-test.false (passes (goal.at.returns c).Start _ _ _)
