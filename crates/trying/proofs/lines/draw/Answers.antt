use mathlib.Core.Bool.{not}
use mathlib.Core.Path.{ap, ◌∙◌}
use native.Mathlib.Omega.{arith}
use borrow.Author.Tests.{le-leb, lt-leb}
use Rattle.reckon.proofs.TestLaws.{refusal_here, refusal_later, passed_refusal}
use Rattle.checks.proofs.CheckLaws.{fails_by, holds_by}
use Rattle.trying.specs.Lines.{draw_tried, log_at}
use Rattle.trying.proofs.LineLaws.{unless-refused, unless_none, named_number}
use Rattle.trying.proofs.lines.draw.Goals as goal

-- src/lines.rt:121:9
pub returns-then-not-is_named : goal.returns-then-not-is_named
unfolding draw_tried
returns-then-not-is_named c = unless-refused _ _ _ _ c.refused.ensures (refusal_here 12 _ (fails_by c.is_named.ensures (ap not c.if-not-is_named.true))) (λ z. omega arith)

-- src/lines.rt:124:9
pub returns-then-litres-gt-MOST_LITRES : goal.returns-then-litres-gt-MOST_LITRES
unfolding draw_tried
returns-then-litres-gt-MOST_LITRES c = unless-refused _ _ _ _ c.refused-then-litres-gt-MOST_LITRES.ensures (refusal_later 12 _ (holds_by c.is_named.ensures (ap not c.if-not-is_named.false)) ∙ refusal_here 4 _ (lt-leb _ _ c.if-litres-gt-MOST_LITRES.true)) (λ z. omega arith)

-- src/lines.rt:127:9
pub rates_with-after-requires : goal.rates_with-after-requires
rates_with-after-requires c = named_number c.args.log.hatches c.args.number (holds_by c.is_named.ensures (ap not c.if-not-is_named.false))

-- src/lines.rt:117:1
pub returns : goal.returns
unfolding draw_tried
returns c =
    unless_none _ _ _ _ (c.log_at.ensures ∙ ap (log_at c.args.log) c.rates_with-after.ensures)
    (passed_refusal _
    (holds_by c.is_named.ensures (ap not c.if-not-is_named.false), (le-leb _ _ c.if-litres-gt-MOST_LITRES.false, tt)))
