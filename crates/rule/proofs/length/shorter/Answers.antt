-- `rule::length::shorter` meets its contract: the gentlest drop that counts decides.
-- Assumes nothing.
use mathlib.Core.Path.{◌≡◌, sym, ◌∙◌, ap}
use Prim.Native.Nat.{ℕ, min}
use native.Mathlib.Omega.{arith}
use Rattle.rule.specs.Length.{candidate}
use Rattle.rule.proofs.LengthLaws.{gentlest, gentlest_le, gentlest_made, shorter_dry, shorter_none, shorter_some}
use Rattle.rule.proofs.length.shorter.Goals as goal
use Rattle.rule.proofs.length.shorter.Goals.{After-least_drop-gentlest}

pub returns-then-depth-eq0 : goal.returns-then-depth-eq0
returns-then-depth-eq0 c =
    let a = c.args in
    sym (shorter_dry a.rules a.depth a.roughness a.best a.drops c.if-depth-eq0.true)

-- what the code calls gentlest is it
least_is :
    (c : After-least_drop-gentlest) →
    c.least_drop-gentlest.result
    ≡ gentlest c.args.rules c.args.drops
least_is c =
    let a = c.args in
    gentlest_made a.rules a.drops c.counting-north.ensures c.counting-east.ensures
    c.counting-south.ensures c.counting-west.ensures c.least_drop-gentlest.ensures

pub returns-then-gentlest-eq0 : goal.returns-then-gentlest-eq0
returns-then-gentlest-eq0 c =
    let a = c.args in
    sym (shorter_none a.rules a.depth a.roughness a.best a.drops c.if-depth-eq0.false c.requires.drops (sym (least_is (goal.at.returns-then-gentlest-eq0 c).After-least_drop-gentlest) ∙ c.if-gentlest-eq0.true))

pub side_candidate-requires : goal.side_candidate-requires
side_candidate-requires c = (c.requires.square, omega arith, omega (arith, gentlest_le c.args.rules c.requires.drops, least_is (goal.at.side_candidate-requires c).After-least_drop-gentlest))

pub returns : goal.returns
returns c =
    let a = c.args in
    c.lesser.ensures
    ∙ (ap (λ (x : ℕ). min a.best x)
    (c.side_candidate.ensures ∙ ap (candidate a.rules a.depth a.roughness) (least_is (goal.at.returns c).After-least_drop-gentlest))
    ∙ sym
    (shorter_some a.rules a.depth a.roughness a.best a.drops c.if-depth-eq0.false c.requires.drops
    (λ e. c.if-gentlest-eq0.false (least_is (goal.at.returns c).After-least_drop-gentlest ∙ e))))
