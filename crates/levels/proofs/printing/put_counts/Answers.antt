-- `levels::printing::put_counts` meets its contract: the two lines, one after the other.
-- Assumes nothing.
use Rattle.levels.proofs.LevelLaws.{steps_fit, clock_fits, counts-written}
use Rattle.levels.proofs.printing.put_counts.Goals as goal

pub put_line-next-requires : goal.put_line-next-requires
put_line-next-requires c = steps_fit c.args.steps c.args.clock c.args.at c.args.out.now c.requires

pub put_line-requires : goal.put_line-requires
put_line-requires c = clock_fits c.args.steps c.args.clock c.args.at c.args.out.now c.requires c.put_line-next.ensures

pub returns : goal.returns
returns c =
    counts-written c.args.steps c.args.clock c.args.at c.args.out.now c.requires
    c.put_line-next.ensures c.put_line.ensures
