-- `text::lines::nth_line` meets its contract: after so many turns the position is the start of that line.
-- Assumes nothing.
use mathlib.Core.Path.{◌≡◌, refl, sym, ap, ◌∙◌}
use native.Mathlib.Omega.{arith}
use Rattle.text.specs.Reading.{next_line, line_from}
use Rattle.text.specs.Lines.{line_at}
use Rattle.text.proofs.LineLaws.{line_next}
use Rattle.text.proofs.EndLaws.{start-within}
use Rattle.text.proofs.lines.nth_line.Goals as goal

pub loop-init : goal.loop-init
unfolding line_from
loop-init c = refl

pub next_line-at-requires : goal.next_line-at-requires
next_line-at-requires c = omega (arith, start-within c.args.text.now c.loop.counter)

pub loop-preserved : goal.loop-preserved
loop-preserved c =
    let s = c.args.text.now in
    let l = c.loop in
    c.next_line-at.ensures ∙ (ap (next_line s) l.invariant ∙ sym (line_next s 0 l.counter))

pub line_at-requires : goal.line_at-requires
line_at-requires c = omega (arith, start-within c.args.text.now c.loop.counter)

pub returns : goal.returns
returns c =
    let a = c.args in
    let l = c.loop in
    let e : l.counter ≡ a.k = omega arith in
    c.line_at.ensures ∙ ap (line_at a.text.now) (l.invariant ∙ ap (line_from a.text.now 0) e)
