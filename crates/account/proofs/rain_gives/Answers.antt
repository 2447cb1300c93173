-- `account::rain_gives` meets its contract: as much on each square not closed.
-- Assumes nothing.
use mathlib.Core.Path.{sym, ap, ◌∙◌}
use Prim.Native.Nat.{ℕ, ◌*◌}
use native.Mathlib.Nat.{zero-mul, mul-le-mul}
use native.Mathlib.Omega.{arith}
use Rattle.ledger.specs.Runs.{plan}
use Rattle.account.specs.Inner.Given.{open_squares}
use Rattle.account.proofs.GivenLaws.{open_few}
use Rattle.account.proofs.rain_gives.Goals as goal

pub returns-then-fallen-eq0 : goal.returns-then-fallen-eq0
returns-then-fallen-eq0 c =
    let count : ℕ = open_squares (plan c.args.shape c.args.marks.now) in
    sym (ap (λ (n : ℕ). n * count) c.if-fallen-eq0.true ∙ zero-mul count)

pub overflow_mul-result : goal.overflow_mul-result
overflow_mul-result c =
    let most = mul-le-mul c.requires.2 (open_few (plan c.args.shape c.args.marks.now)) in
    let is = ap (λ (n : ℕ). c.args.fallen * n) c.open_squares.ensures in
    omega (arith, most, is, c.requires.0.few)

pub returns : goal.returns
returns c = ap (λ (n : ℕ). c.args.fallen * n) c.open_squares.ensures
