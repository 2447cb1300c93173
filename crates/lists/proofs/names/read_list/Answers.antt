-- `lists::names::read_list` meets its contract: too many bytes, then the first line.
-- Assumes nothing.
use mathlib.Core.Path.{sym, ◌∙◌}
use borrow.Author.Tests.{le-leb, lt-leb}
use Rattle.reckon.proofs.TestLaws.{pick_true, pick_false}
use Rattle.lists.specs.Names.{list_refused, list_after, listed}
use Rattle.lists.proofs.NameLaws.{by_number}
use Rattle.lists.proofs.names.read_list.Goals as goal

pub returns-then-text-gt-MOST_TEXT : goal.returns-then-text-gt-MOST_TEXT
unfolding listed
returns-then-text-gt-MOST_TEXT c = c.refused.ensures ∙ sym (pick_false _ _ (lt-leb _ _ c.if-text-gt-MOST_TEXT.true))

pub returns-in-None : goal.returns-in-None
unfolding listed
returns-in-None c =
    by_number (list_refused 1) (list_after c.args.text.now)
    (sym c.number_at.ensures ∙ c.in-None.is) c.refused-in-None.ensures
    ∙ sym (pick_true _ _ (le-leb _ _ c.if-text-gt-MOST_TEXT.false))

pub returns-in-Some : goal.returns-in-Some
unfolding listed
returns-in-Some c =
    by_number (list_refused 1) (list_after c.args.text.now)
    (sym c.number_at.ensures ∙ c.in-Some.is) c.list_after.ensures
    ∙ sym (pick_true _ _ (le-leb _ _ c.if-text-gt-MOST_TEXT.false))
