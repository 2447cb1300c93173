-- `adding::added::pour_all` meets its contract: the squares of the rows passed hold what is added.
-- Assumes nothing.
use mathlib.Core.Path.{refl, sym, ◌∙◌}
use native.Mathlib.Omega.{arith}
use Rattle.reckon.proofs.TestLaws.{not_both, all_none, all_more, all_fails}
use Rattle.adding.proofs.AddedLaws.{pour_none, poured_turn}
use Rattle.adding.proofs.added.pour_all.Goals as goal

pub loop-j-init : goal.loop-j-init
loop-j-init c = (c.requires.1, pour_none c.args.way.shape c.args.way.rules c.args.inflow.now c.args.start c.args.end c.args.rain c.args.room.now, all_none _)

pub returns-then-not-pour_row : goal.returns-then-not-pour_row
returns-then-not-pour_row c =
    let e = c.if-not-pour_row.true in record {
      fits_is = sym
          (all_fails _ _ c.loop-j.j (omega arith) (sym c.pour_row.ensures.fits_is ∙ e));
      stored = λ t. not_both t
          refl;
      long = c.pour_row.ensures.long ∙ (c.loop-j.invariant.0 ∙ sym c.requires.1);
    }

pub loop-j-preserved : goal.loop-j-preserved
loop-j-preserved c =
    let t = c.if-not-pour_row.false in
    let j = c.loop-j.j in
    (c.pour_row.ensures.long ∙ c.loop-j.invariant.0, poured_turn c.args.way.shape c.args.way.rules c.args.inflow.now c.args.start c.args.end c.args.rain c.args.room.now j c.requires.1 (c.requires.0.row_in j (omega arith)) (c.requires.0.column_in j (omega arith)) c.loop-j.invariant.1 c.pour_row.ensures t, all_more _ j c.loop-j.invariant.2 (sym c.pour_row.ensures.fits_is ∙ t))
