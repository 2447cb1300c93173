-- `sheet::reading::judge_body` meets its contract: one row too many shows as well as all of them.
-- Assumes nothing.
use native.Mathlib.Omega.{arith}
use Rattle.reckon.specs.Tables.{rain_kind, inflow_kind}
use Rattle.sheet.proofs.ReadLaws.{plain_rain, plain_inflow}
use Rattle.sheet.proofs.JudgeLaws.{table_taken, body_judged}
use Rattle.sheet.proofs.reading.judge_body.Goals as goal
use Rattle.sheet.proofs.reading.judge_body.Goals.{After-inflow-2-1}

pub fill_rows-requires-clause-width_le_most_fields : goal.fill_rows-requires-clause-width_le_most_fields
fill_rows-requires-clause-width_le_most_fields c = (omega arith, plain_rain)

pub fill_rows-requires-2-clause-width_le_most_fields : goal.fill_rows-requires-2-clause-width_le_most_fields
fill_rows-requires-2-clause-width_le_most_fields c = (omega arith, plain_inflow)

pub returns : goal.returns
returns c =
    body_judged _ c.requires.shape_in_range.1 c.requires.shape_in_range.2 c.requires.depths_value c.min-rain_rows.ensures c.min-inflow_rows.ensures
    (table_taken _ _ _ rain_kind.width (omega arith) _ _ c.fill_rows.ensures)
    (table_taken _ _ _ inflow_kind.width (omega arith) _ _ c.fill_rows-2.ensures) c.judge.ensures
