-- `holes::repairing::mark_holes` meets its contract: the squares passed have no bed where there is a hole, and the position is that of the next line.
-- Assumes nothing.
use mathlib.Core.Path.{sym, ap, ◌∙◌}
use mathlib.Core.Bool.{Bool, not}
use Prim.Native.Nat.{ℕ}
use native.Mathlib.Omega.{arith}
use lib.ListN.{set}
use Rattle.reckon.specs.Tests.{pick}
use Rattle.reckon.specs.Lists.{filled}
use Rattle.reckon.proofs.ListLaws.{filled_none}
use Rattle.holes.specs.Rounds.{no_bed}
use Rattle.holes.specs.Holes.{is_hole}
use Rattle.holes.proofs.HoleLaws.{start_zero}
use Rattle.holes.proofs.FillLaws.{filled_next}
use Rattle.holes.proofs.PutLaws.{columns_some, line_in, line_on, hole_as}
use Rattle.holes.proofs.repairing.mark_holes.Goals as goal

pub loop-square-init : goal.loop-square-init
loop-square-init c = (c.cells_at-start.ensures ∙ sym (start_zero _), filled_none _ _ _)

pub nonzero_div-square : goal.nonzero_div-square
nonzero_div-square c = omega (arith, columns_some c.requires.0 c.loop-square-test.true)

pub nonzero_rem-square : goal.nonzero_rem-square
nonzero_rem-square c = omega (arith, columns_some c.requires.0 c.loop-square-test.true)

pub next_line-start-requires : goal.next_line-start-requires
next_line-start-requires c = line_in c.requires.0 c.loop-square.square c.loop-square.invariant.0

pub loop-square-preserved : goal.loop-square-preserved
loop-square-preserved c =
    let l = c.loop-square in (
      line_on c.requires.0 l.square l.invariant.0 c.next_line-start.ensures,
      filled_next _ _ _ l.square (omega (arith, c.loop-square-test.true, c.requires.1)) l.invariant.1
          (c.mark_hole.ensures
          ∙ ap (λ (b : Bool). pick (not b) l.beds (set l.beds l.square no_bed)) (sym (hole_as c.requires.0 l.square l.invariant.0))),
    )

pub returns : goal.returns
returns c =
    c.loop-square.invariant.1
    ∙ ap (λ (k : ℕ). filled k (λ i. not (is_hole c.args.text.now i)) (λ i. no_bed) c.args.beds.now) (omega (arith, c.loop-square.invariant.0, c.loop-square-test.false))
