use mathlib.Core.Path.{ap}
use mathlib.Core.Bool.{not}
use mathlib.Core.Path.{sym, ◌∙◌}
use Rattle.reckon.proofs.TestLaws.{refusal_here, refusal_later, passed_refusal}
use Rattle.checks.proofs.CheckLaws.{fails_by, holds_by}
use borrow.Author.Tests.{le-leb, lt-leb}
use Rattle.trying.specs.Lines.{try_refusals}
use Rattle.trying.proofs.LineLaws.{table_fits_as}
use Rattle.trying.proofs.lines.try_number.Goals as goal

-- src/lines.rt:136:9
pub returns-then-not-table_fits : goal.returns-then-not-table_fits
unfolding try_refusals
returns-then-not-table_fits c = λ t e. sym (refusal_here 4 _ (fails_by (table_fits_as t c.args.log e c.table_fits.ensures) (ap not c.if-not-table_fits.true)))

-- src/lines.rt:139:9
pub returns-then-not-standing_fine : goal.returns-then-not-standing_fine
unfolding try_refusals
returns-then-not-standing_fine c =
    λ t e. sym
    (refusal_later 4 _
    (holds_by (table_fits_as t c.args.log e c.table_fits.ensures)
    (ap not c.if-not-table_fits.false))
    ∙ refusal_here 6 _ (fails_by c.standing_fine.ensures (ap not c.if-not-standing_fine.true)))

-- src/lines.rt:142:9
pub returns-then-account-gt-MOST_GIVEN : goal.returns-then-account-gt-MOST_GIVEN
unfolding try_refusals
returns-then-account-gt-MOST_GIVEN c =
    λ t e. sym
    (refusal_later 4 _ (holds_by (table_fits_as t c.args.log e c.table_fits.ensures) (ap not c.if-not-table_fits.false))
    ∙ (refusal_later 6 _ (holds_by c.standing_fine.ensures (ap not c.if-not-standing_fine.false))
    ∙ refusal_here 6 _ (lt-leb _ _ c.if-account-gt-MOST_GIVEN.true)))

-- src/lines.rt:132:1
pub returns : goal.returns
unfolding try_refusals
returns c =
    λ t e. sym
    (passed_refusal _ (
      holds_by (table_fits_as t c.args.log e c.table_fits.ensures) (ap not c.if-not-table_fits.false),
      (holds_by c.standing_fine.ensures (ap not c.if-not-standing_fine.false), (le-leb _ _ c.if-account-gt-MOST_GIVEN.false, tt)),
    ))
