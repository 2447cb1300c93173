-- `lists::names::list_number` meets its contract: 5 before 16.
-- Assumes nothing.
use mathlib.Core.Path.{sym, ◌∙◌}
use mathlib.Core.List.{[]}
use borrow.Author.Tests.{le-leb, lt-leb}
use Rattle.reckon.proofs.TestLaws.{refusal_here, refusal_later, passed_refusal}
use Rattle.lists.specs.Names.{list_number}
use Rattle.lists.proofs.names.list_number.Goals as goal

pub returns-then-wet-gt-MOST_DEPTH : goal.returns-then-wet-gt-MOST_DEPTH
unfolding list_number
returns-then-wet-gt-MOST_DEPTH c = sym (refusal_here 5 _ (lt-leb _ _ c.if-wet-gt-MOST_DEPTH.true))

pub returns-then-names-gt-MOST_SHEETS : goal.returns-then-names-gt-MOST_SHEETS
unfolding list_number
returns-then-names-gt-MOST_SHEETS c = sym (refusal_later 5 _ (le-leb _ _ c.if-wet-gt-MOST_DEPTH.false) ∙ refusal_here 16 [] (lt-leb _ _ c.if-names-gt-MOST_SHEETS.true))

pub returns : goal.returns
unfolding list_number
returns c = sym (passed_refusal _ (le-leb _ _ c.if-wet-gt-MOST_DEPTH.false, (le-leb _ _ c.if-names-gt-MOST_SHEETS.false, tt)))
