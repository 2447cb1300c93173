-- The cases of the account, by computation.
-- Assumes nothing.
use mathlib.Core.Path.{refl}
use Rattle.reckon.specs.Tests.{pick}
use Rattle.reckon.specs.Lists.{sum_below}
use Rattle.reckon.specs.Tables.{row_gives, table_gives, rain_by, on_square, inflow_by}
use Rattle.grid.specs.Marks.{closed}
use Rattle.ledger.specs.Account.{over_open, water}
use Rattle.adding.specs.Added.{added_for}
use Rattle.adding.specs.Account.{tables_give}
use Rattle.account.specs.Worked.{AccountCases}

pub account_cases : AccountCases
unfolding pick sum_below closed over_open water row_gives table_gives rain_by on_square inflow_by added_for tables_give
account_cases = record { on_the_ground = refl; between = refl; before_rain = refl }
