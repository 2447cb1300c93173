-- `text::lines::line_end` meets its contract: no byte passed is a newline.
-- Assumes nothing.
use mathlib.Core.Path.{◌≡◌, sym, ◌∙◌}
use native.Mathlib.Omega.{arith}
use lib.ListN.{length}
use Rattle.text.proofs.EndLaws.{end-last, end_here, end_on}
use Rattle.text.proofs.lines.line_end.Goals as goal

pub returns-then-text-end-eq-NEWLINE : goal.returns-then-text-end-eq-NEWLINE
returns-then-text-end-eq-NEWLINE c =
    sym (c.loop-end.invariant ∙ end_here _ _ (omega arith) c.if-text-end-eq-NEWLINE.true)

pub loop-end-preserved : goal.loop-end-preserved
loop-end-preserved c = c.loop-end.invariant ∙ end_on _ _ (omega arith) c.if-text-end-eq-NEWLINE.false

pub returns : goal.returns
returns c =
    let l = c.loop-end in
    let e : l.end ≡ length c.args.text.now = omega arith in
    sym (l.invariant ∙ (end-last _ _ (omega arith) ∙ e))
