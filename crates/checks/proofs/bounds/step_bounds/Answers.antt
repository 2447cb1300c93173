-- `checks::bounds::step_bounds` meets its contract: refused, or a case of its own, or both figures.
-- Assumes nothing.
use mathlib.Core.Path.{ap}
use mathlib.Core.Bool.{not}
use Rattle.checks.proofs.CheckLaws.{fails_by, holds_by}
use Rattle.checks.proofs.BoundsLaws.{bounds_refused, bounds_none, bounds-told, bounds_rules, bounds_end, whole_spans}
use Rattle.checks.proofs.bounds.step_bounds.Goals as goal

pub returns-then-number-ne0 : goal.returns-then-number-ne0
returns-then-number-ne0 c = bounds_refused _ _ _ c.bounds_number-number.ensures c.if-number-ne0.true

pub spans_whole-requires : goal.spans_whole-requires
spans_whole-requires c = (bounds_rules _ _ _ c.bounds_number-number.ensures c.if-number-ne0.false).update_from

pub returns-then-not-spans_whole : goal.returns-then-not-spans_whole
returns-then-not-spans_whole c =
    bounds_none _ _ _ c.bounds_number-number.ensures c.if-number-ne0.false
    (fails_by c.spans_whole.ensures (ap not c.if-not-spans_whole.true))

pub figures_of-requires : goal.figures_of-requires
figures_of-requires c =
    let e = c.bounds_number-number.ensures in
    let z = c.if-number-ne0.false in (
      bounds_rules _ _ _ e z,
      (whole_spans _ _ _ (holds_by c.spans_whole.ensures (ap not c.if-not-spans_whole.false))).1,
      bounds_end _ _ _ e z,
    )

pub returns : goal.returns
returns c =
    bounds-told _ _ _ c.bounds_number-number.ensures c.if-number-ne0.false
    (holds_by c.spans_whole.ensures (ap not c.if-not-spans_whole.false)) c.figures_of.ensures
