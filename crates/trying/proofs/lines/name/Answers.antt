use mathlib.Core.Path.{ap}
use mathlib.Core.Bool.{not}
use mathlib.Core.Path.{◌∙◌}
use native.Mathlib.Omega.{arith}
use Rattle.reckon.proofs.TestLaws.{refusal_here, refusal_later, passed_refusal}
use Rattle.checks.proofs.CheckLaws.{fails_by, holds_by}
use Rattle.hatches.proofs.RefusalLaws.{hatch_number}
use Rattle.trying.specs.Lines.{name_tried}
use Rattle.trying.proofs.LineLaws.{unless-refused, unless_none}
use Rattle.trying.proofs.lines.name.Goals as goal

-- src/lines.rt:91:9
pub returns-then-not-hatch_line_fine : goal.returns-then-not-hatch_line_fine
unfolding name_tried
returns-then-not-hatch_line_fine c =
    let a = c.args in
    unless-refused _ _ _ _ c.refused.ensures
    (refusal_here 12 _ (fails_by (c.hatch_line_fine.ensures a.rules a.row a.column) (ap not c.if-not-hatch_line_fine.true)))
    (λ z. omega arith)

-- src/lines.rt:94:9
pub returns-then-not-hatch_draw_fine : goal.returns-then-not-hatch_draw_fine
unfolding name_tried
returns-then-not-hatch_draw_fine c =
    let a = c.args in
    unless-refused _ _ _ _ c.refused-then-not-hatch_draw_fine.ensures
    (refusal_later 12 _
    (holds_by (c.hatch_line_fine.ensures a.rules a.row a.column)
    (ap not c.if-not-hatch_line_fine.false))
    ∙ refusal_here 4 _ (fails_by (c.hatch_draw_fine.ensures a.number) (ap not c.if-not-hatch_draw_fine.true))) (λ z. omega arith)

-- src/lines.rt:98:14
pub name_hatch-requires : goal.name_hatch-requires
name_hatch-requires c =
    let a = c.args in
    hatch_number a.rules a.log a.number a.row a.column
    (holds_by (c.hatch_line_fine.ensures a.rules a.row a.column) (ap not c.if-not-hatch_line_fine.false))

-- src/lines.rt:76:1
pub returns : goal.returns
unfolding name_tried
returns c =
    let a = c.args in
    unless_none _ _ _ _ c.name_hatch.ensures
    (passed_refusal _ (
      holds_by (c.hatch_line_fine.ensures a.rules a.row a.column)
          (ap not c.if-not-hatch_line_fine.false),
      (holds_by (c.hatch_draw_fine.ensures a.number) (ap not c.if-not-hatch_draw_fine.false), tt),
    ))
