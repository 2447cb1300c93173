-- `adding::added::poured` meets its contract: where the rows stand apart, the sum over all rows is that row's alone.
-- Assumes nothing.
use mathlib.Core.Path.{sym, ◌∙◌}
use Rattle.adding.proofs.AddedLaws.{part_fits, part_added}
use Rattle.adding.proofs.added.poured.Goals as goal

pub inflow_added-requires-2 : goal.inflow_added-requires-2
inflow_added-requires-2 c = record {
  fits = part_fits c.args.inflow.now c.args.j c.requires.apart_value.1 c.requires.fits.0;
  start_le_end = (c.requires.fits.1, c.requires.fits.2, c.requires.fits.3);
}

pub returns : goal.returns
returns c =
    c.inflow_added-2.ensures
    ∙ part_added c.args.inflow.now c.args.j c.requires.apart_value.1 c.args.row c.args.column c.requires.apart_value.2
    (sym c.requires.apart_value.0 ∙ c.if-not-apart.false) c.args.side c.args.start c.args.end
