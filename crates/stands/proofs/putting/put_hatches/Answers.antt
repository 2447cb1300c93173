-- `stands::putting::put_hatches` meets its contract: the lines so far stand at the place.
-- Assumes nothing.
use native.Mathlib.Omega.{arith}
use Rattle.hatches.specs.Log.{most_hatches}
use Rattle.stands.specs.Texts.{hatch_text, hatches_text}
use Rattle.stands.specs.Inner.Putting.{most_hatch}
use Rattle.stands.proofs.PutLaws.{lines_none, lines_more, lines_all}
use Rattle.stands.proofs.putting.put_hatches.Goals as goal

pub loop-hatch-init : goal.loop-hatch-init
loop-hatch-init c = lines_none _ _ _ _

pub loop-hatch-preserved : goal.loop-hatch-preserved
loop-hatch-preserved c =
    lines_more most_hatch (hatch_text c.args.hatches c.args.litres) c.args.at c.args.out.now most_hatches c.requires
    c.loop-hatch.invariant (omega arith) c.put_hatch-next.ensures

pub returns : goal.returns
unfolding hatches_text
returns c = lines_all most_hatch (hatch_text c.args.hatches c.args.litres) c.args.at c.args.out.now most_hatches c.requires c.loop-hatch.invariant (omega arith)
