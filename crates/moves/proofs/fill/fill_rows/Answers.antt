-- `moves::fill::fill_rows` meets its contract: row after row, the squares passed are the record's, what left them is kept, and the rows passed
-- are the senders'.
-- Assumes nothing.
use mathlib.Core.Path.{refl, ◌∙◌, subst}
use Prim.Native.Nat.{ℕ}
use native.Mathlib.Omega.{arith}
use lib.ListN.{get_or}
use Rattle.grid.specs.Walks.{bit_of}
use Rattle.grid.proofs.MaskLaws.{rowed_none, rowed_more}
use Rattle.grid.proofs.SquareLaws.{rows_begin, row_here, row_next, rows_end}
use Rattle.grid.proofs.WalkLaws.{by_row}
use Rattle.ledger.specs.Runs.{Plan, plan}
use Rattle.checks.specs.Given.{Ground, ground}
use Rattle.moves.specs.Inner.Fill.{UnstirredAt, LeftTo}
use Rattle.moves.proofs.FillLaws.{fills_still, filled_then, filled_on}
use Rattle.moves.proofs.WetLaws.{left_none, left-row, rows_told}
use Rattle.moves.proofs.fill.fill_rows.Goals as goal
use Rattle.moves.proofs.fill.fill_rows.Goals.{At-loop-row, Start}

-- ---- what is known there

abbrev p : Start → Plan
p s = plan s.args.way.shape s.args.marks.now

abbrev o : Start → Ground
o s = ground s.args.way.rules s.args.beds.now s.args.roughness.now s.args.rates.now

-- ---- the answers

pub loop-row-init : goal.loop-row-init
loop-row-init c = (
  rows_begin _ _,
  refl,
  refl,
  (λ held f. f),
  left_none (p (goal.at.loop-row-init c).Start) (o (goal.at.loop-row-init c).Start) c.args.depths.now c.args.lasts.now c.args.added.now c.args.span.start c.args.span.duration c.args.worked.now c.args.left.now,
  rowed_none _ _ _,
)

pub fill_row-requires : goal.fill_row-requires
unfolding bit_of
fill_row-requires c = record {
  fills = fills_still c.loop-row.invariant.1 c.requires.fills;
  in_row = (
    row_here c.args.way.shape c.loop-row.invariant.0 c.loop-row-test.true,
    by_row c.args.way.shape c.loop-row.row c.loop-row.invariant.0.begins (λ r. get_or c.args.worked.now r 0)
        (UnstirredAt (p (goal.at.fill_row-requires c).Start) c.args.depths.now c.args.lasts.now c.args.added.now) c.loop-row-test.true refl c.requires.unstirred_by.0,
    c.loop-row.invariant.2 ∙ c.requires.unstirred_by.2,
  );
}

pub loop-row-preserved : goal.loop-row-preserved
loop-row-preserved c =
    let inv = c.loop-row.invariant in (
      row_next inv.0 c.loop-row-test.true,
      c.fill_row.auto.rec ∙ inv.1,
      c.fill_row.auto.left ∙ inv.2,
      filled_then refl inv.3 c.fill_row.ensures.filled,
      left-row (p (goal.at.loop-row-preserved c).Start) (o (goal.at.loop-row-preserved c).Start) c.args.depths.now c.args.lasts.now c.args.added.now c.args.span.start c.args.span.duration c.args.worked.now
          c.loop-row.row inv.0.begins refl inv.4 c.fill_row.ensures,
      rowed_more _ _ _ _ inv.5 inv.0.begins (omega (arith, c.requires.unstirred_by.3, c.loop-row-test.true)) c.fill_row.ensures.senders_are,
    )

pub returns : goal.returns
returns c =
    let inv = c.loop-row.invariant in
    let whole = rows_end c.args.way.shape inv.0 c.loop-row-test.false in (
      filled_on whole inv.3,
      subst (λ (k : ℕ). LeftTo (p (goal.at.returns c).Start) (o (goal.at.returns c).Start) c.args.depths.now c.args.lasts.now c.args.span.duration c.args.worked.now k c.loop-row.left) whole inv.4,
      rows_told (p (goal.at.returns c).Start) (o (goal.at.returns c).Start) c.args.depths.now c.args.lasts.now c.args.span.duration c.args.senders.now c.loop-row.row c.requires.unstirred_by.3
          c.loop-row-test.false inv.5,
    )
