-- `moves::fill::work_square` meets its contract: the square sends what the weighing gives and soaks what is due of the rest.
-- Assumes nothing.
use mathlib.Core.Path.{◌≡◌, ◌∙◌}
use mathlib.Core.List.{List}
use Prim.Native.Nat.{ℕ, ◌≤◌, ◌<◌}
use native.Mathlib.Omega.{arith}
use lib.ListN.{get_or}
use Rattle.reckon.specs.Ranges.{most_depth}
use Rattle.reckon.proofs.TestLaws.{not_both}
use Rattle.grid.specs.Squares.{most_squares}
use Rattle.ledger.specs.Runs.{Plan, plan}
use Rattle.ledger.specs.Flows.{gone}
use Rattle.checks.specs.Given.{Ground, ground}
use Rattle.moves.specs.Drops.{drops_of}
use Rattle.moves.specs.Moves.{leaves_for}
use Rattle.moves.proofs.DropLaws.{weighable}
use Rattle.moves.proofs.MoveLaws.{weights}
use Rattle.moves.proofs.FillLaws.{weighed_made, put_wet, words_fit, gone_made, gone_covered, soaked_made, sends_made, left-set}
use Rattle.moves.proofs.fill.work_square.Goals as goal
use Rattle.moves.proofs.fill.work_square.Goals.{After-four_leaving-gone, After-soaks-soaked, After-weigh-leaves, Start}

-- ---- what is known there

abbrev p : Start → Plan
p s = plan s.args.way.shape s.args.marks.now

abbrev o : Start → Ground
o s = ground s.args.way.rules s.args.beds.now s.args.roughness.now s.args.rates.now

-- where the amounts are weighed
module _ (c : After-weigh-leaves) where
  abbrev i : ℕ
  i = c.args.at.square

  abbrev d : List ℕ
  d = c.args.depths.now

  weighed-is : c.weigh-leaves.result ≡ weights (p (goal.at.After-weigh-leaves c).Start) (o (goal.at.After-weigh-leaves c).Start) d c.args.lasts.now c.args.span.duration i
  weighed-is =
      weighed_made c.args.way.rules (get_or c.args.lasts.now i 0) (get_or c.args.roughness.now i 0)
      c.args.span.duration (drops_of (p (goal.at.After-weigh-leaves c).Start) c.args.way.rules c.args.beds.now d i) c.number-depth.ensures
      c.number.ensures c.number-2.ensures c.drops_of-drops.ensures c.weigh-leaves.ensures

  shallow : get_or d i 0 ≤ most_depth
  shallow = c.requires.fills.flows.lies.depths_to i c.requires.on_square.0.inside c.requires.on_square.1

-- where what leaves is summed
module _ (c : After-four_leaving-gone) where
  gone-is : c.four_leaving-gone.result ≡ gone (leaves_for (p (goal.at.After-four_leaving-gone c).Start) (o (goal.at.After-four_leaving-gone c).Start) (d (goal.at.After-four_leaving-gone c).After-weigh-leaves) c.args.lasts.now c.args.span.duration) c.args.at.square
  gone-is =
      c.four_leaving-gone.ensures
      ∙ gone_made (p (goal.at.After-four_leaving-gone c).Start) (o (goal.at.After-four_leaving-gone c).Start) (d (goal.at.After-four_leaving-gone c).After-weigh-leaves) c.args.lasts.now c.args.span.start c.args.span.duration c.args.at.square c.requires.on_square.1 (weighed-is (goal.at.After-four_leaving-gone c).After-weigh-leaves)

  left : c.four_leaving-gone.result ≤ c.number-depth.result
  left =
      omega (
        arith,
        gone-is,
        gone_covered (p (goal.at.After-four_leaving-gone c).Start) (o (goal.at.After-four_leaving-gone c).Start) (d (goal.at.After-four_leaving-gone c).After-weigh-leaves) c.args.lasts.now c.args.span.start c.args.span.duration c.args.at.square c.requires.on_square.1,
        c.number-depth.ensures,
      )

few : (c : After-soaks-soaked) → c.args.at.square < most_squares
few c = omega (arith, c.requires.on_square.0.inside, c.requires.on_square.0.fine.few)

-- ---- the answers

pub weigh-leaves-requires : goal.weigh-leaves-requires
weigh-leaves-requires c =
    let f = c.requires.fills.flows in
    let inside = c.requires.on_square.0.inside in
    weighable (p (goal.at.weigh-leaves-requires c).Start) (o (goal.at.weigh-leaves-requires c).Start) c.args.depths.now f.lies c.args.at.square inside c.requires.on_square.1 c.args.lasts.now
    (f.lasts_to c.args.at.square inside c.requires.on_square.1) c.requires.fills.duration-for c.number-depth.ensures c.number.ensures
    c.number-2.ensures c.drops_of-drops.ensures

pub four_leaving-gone-requires : goal.four_leaving-gone-requires
four_leaving-gone-requires c =
    omega (
      arith,
      gone_made (p (goal.at.four_leaving-gone-requires c).Start) (o (goal.at.four_leaving-gone-requires c).Start) (d c) c.args.lasts.now c.args.span.start c.args.span.duration (i c) c.requires.on_square.1 (weighed-is c),
      gone_covered (p (goal.at.four_leaving-gone-requires c).Start) (o (goal.at.four_leaving-gone-requires c).Start) (d c) c.args.lasts.now c.args.span.start c.args.span.duration (i c) c.requires.on_square.1,
      shallow c,
    )

pub overflow_sub-depth : goal.overflow_sub-depth
overflow_sub-depth c = left (goal.at.overflow_sub-depth c).After-four_leaving-gone

pub put_square-requires : goal.put_square-requires
put_square-requires c = record {
  square_words_in_bounds = omega (arith, c.requires.fills.record_long, c.requires.on_square.0.inside);
  north_bound = words_fit c.args.way.rules c.number.result c.number-2.result c.args.span.duration
      c.drops_of-drops.result {d = c.number-depth.result} (omega (arith, shallow (goal.at.put_square-requires c).After-weigh-leaves, c.number-depth.ensures))
      (omega (arith, c.soaks-soaked.ensures)) c.weigh-leaves.ensures;
}

-- what left fits a word, and the square is one of the room's
pub overflow_cast-left : goal.overflow_cast-left
overflow_cast-left c = omega (arith, left (goal.at.overflow_cast-left c).After-four_leaving-gone, shallow (goal.at.overflow_cast-left c).After-weigh-leaves, c.number-depth.ensures)

pub returns : goal.returns
returns c =
    let lasts = c.args.lasts.now in
    record {
      closed-kept = λ e. not_both e c.requires.on_square.1;
      open_put =
          λ e. put_wet c.args.way.rules (get_or lasts (i (goal.at.returns c).After-weigh-leaves) 0) (get_or c.args.roughness.now (i (goal.at.returns c).After-weigh-leaves) 0) c.args.span.duration
          (drops_of (p (goal.at.returns c).Start) c.args.way.rules c.args.beds.now (d (goal.at.returns c).After-weigh-leaves) (i (goal.at.returns c).After-weigh-leaves)) (get_or (d (goal.at.returns c).After-weigh-leaves) (i (goal.at.returns c).After-weigh-leaves) 0) c.args.rec.now (i (goal.at.returns c).After-weigh-leaves) _ _ (weighed-is (goal.at.returns c).After-weigh-leaves)
          (soaked_made (p (goal.at.returns c).Start) (o (goal.at.returns c).Start) (d (goal.at.returns c).After-weigh-leaves) lasts c.args.span.start c.args.span.duration (i (goal.at.returns c).After-weigh-leaves) e c.number-3.ensures c.number-depth.ensures
          (gone-is (goal.at.returns c).After-four_leaving-gone) c.soaks-soaked.ensures) c.put_square.ensures;
      left_is = left-set (p (goal.at.returns c).Start) c.args.left.now (i (goal.at.returns c).After-weigh-leaves) c.requires.on_square.1 (gone-is (goal.at.returns c).After-four_leaving-gone);
      sent_is = sends_made (p (goal.at.returns c).Start) (o (goal.at.returns c).Start) (d (goal.at.returns c).After-weigh-leaves) lasts c.args.span.start c.args.span.duration (i (goal.at.returns c).After-weigh-leaves) c.requires.on_square.1 (gone-is (goal.at.returns c).After-four_leaving-gone);
    }
