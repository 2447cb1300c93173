-- `adding::added::poured_once` meets its contract: the square of the first row for it is counted, and not again.
-- Assumes nothing.
use mathlib.Core.Path.{sym, ◌∙◌}
use Rattle.adding.proofs.AddedLaws.{row_is_on}
use Rattle.adding.proofs.OnceLaws.{once_not, once_is}
use Rattle.adding.proofs.added.poured_once.Goals as goal

pub returns-then-not-row_first : goal.returns-then-not-row_first
returns-then-not-row_first c = once_not _ _ _ _ _ (sym c.row_first.ensures ∙ c.if-not-row_first.true)

pub poured-requires : goal.poured-requires
poured-requires c = record {
  apart_value = (c.requires.apart_value.0, c.requires.apart_value.1, row_is_on c.args.inflow.now c.args.j c.number-row.ensures c.number-column.ensures);
  fits = c.requires.fits;
}

pub returns : goal.returns
returns c =
    once_is _ _ _ _ _ (sym c.row_first.ensures ∙ c.if-not-row_first.false) c.number-row.ensures c.number-column.ensures
    c.poured.ensures
