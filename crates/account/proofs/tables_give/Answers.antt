-- `account::tables_give` meets its contract: the rain on so many squares, and what the inflow rows count for.
-- Assumes nothing.
use mathlib.Core.Path.{◌≡◌, sym, ap, ap₂, ◌∙◌}
use Prim.Native.Nat.{ℕ, ◌+◌, ◌*◌}
use native.Mathlib.Omega.{arith}
use Rattle.ledger.specs.Runs.{Plan, plan}
use Rattle.checks.specs.Given.{Given}
use Rattle.adding.specs.Account.{tables_give}
use Rattle.adding.specs.Inner.Added.{tables}
use Rattle.account.specs.Inner.Given.{open_squares}
use Rattle.account.proofs.GivenLaws.{rain_asked, inflow_asked, fallen_small, gives_is, tables_most}
use Rattle.account.proofs.tables_give.Goals as goal
use Rattle.account.proofs.tables_give.Goals.{After-rain_gives, Start}

-- ---- the start, and the plan and the tables that were lent

abbrev on : Start → Plan
on s = plan s.args.way.shape s.args.marks.now

abbrev by : Start → Given
by s = tables s.args.way.rules s.args.rain.now s.args.inflow.now

pub rain_added-fallen-requires : goal.rain_added-fallen-requires
rain_added-fallen-requires c = record {
  fits = rain_asked _ _ _ _ c.requires.between;
  start_le_end = c.requires.between.ordered;
}

pub inflow_gives-poured-requires : goal.inflow_gives-poured-requires
inflow_gives-poured-requires c =
    let asked = c.requires.between in
    (c.requires.apart_value, inflow_asked _ _ _ _ asked, asked.ordered, asked.waters.rules.side_from, asked.waters.rules.side_to)

pub rain_gives-requires : goal.rain_gives-requires
rain_gives-requires c =
    let asked = c.requires.between in
    (asked.waters.fine, asked.waters.marks_long, omega (arith, c.rain_added-fallen.ensures, fallen_small _ _ _ _ asked))

gives : (c : After-rain_gives) →
    c.rain_gives.result + c.inflow_gives-poured.result ≡ tables_give (on (goal.at.After-rain_gives c).Start) (by (goal.at.After-rain_gives c).Start) c.args.start c.args.end
gives c =
    ap₂ ◌+◌
    (c.rain_gives.ensures ∙ ap (λ (n : ℕ). n * open_squares (on (goal.at.After-rain_gives c).Start)) c.rain_added-fallen.ensures)
    c.inflow_gives-poured.ensures
    ∙ sym (gives_is (on (goal.at.After-rain_gives c).Start) (by (goal.at.After-rain_gives c).Start) c.args.start c.args.end c.requires.between)

pub overflow_add-result : goal.overflow_add-result
overflow_add-result c = omega (arith, gives c, tables_most (on (goal.at.overflow_add-result c).Start) (by (goal.at.overflow_add-result c).Start) c.args.start c.args.end c.requires.between)

pub returns : goal.returns
returns c = gives c
