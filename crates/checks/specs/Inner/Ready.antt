-- What the inner functions ask: the ranges that rows 1 to 6 check, as facts (`ready`).
-- Assumes nothing.
use Rattle.std.specs.Prelude.{◌≡◌, true, false, List, ℕ, ◌≤◌, ◌<◌, length, get_or}
use Rattle.reckon.specs.Ranges.{most_depth, most_length, last_clock, most_outflow, most_soak_rate, most_soaked}
use Rattle.reckon.specs.Tables.{rain_kind, inflow_kind, table_fine}
use Rattle.grid.specs.Squares.{squares, ShapeInRange}
use Rattle.grid.specs.Marks.{inflow_squares_fine}
use Rattle.rule.specs.Inner.InRange.{RulesInRange, GroundInRange}
use Rattle.ledger.specs.Runs.{Plan, Seen}
use Rattle.ledger.specs.Flows.{shut}
use Rattle.checks.specs.Given.{Ground, Given}

-- marks, beds and depths are lent whole
pub record GroundLent (p : Plan) (beds depths : List ℕ) : Type 0 where
  pub fine : ShapeInRange p.shape
  pub marks_long : length p.marks ≡ squares p.shape
  pub beds_long : length beds ≡ squares p.shape
  pub depths_long : length depths ≡ squares p.shape

-- and roughness; of squares not closed all are in range, and so are the rules
pub record MeadowInRange (p : Plan) (o : Ground) (depths : List ℕ) : Type 0 where
  pub sited : GroundLent p o.beds depths
  pub roughness_long : length o.roughness ≡ squares p.shape
  pub rules : RulesInRange o.rules
  pub grounds : (i : ℕ) → i < squares p.shape → shut p i ≡ false → GroundInRange (get_or o.beds i 0) (get_or o.roughness i 0)
  pub depths_to : (i : ℕ) → i < squares p.shape → shut p i ≡ false → get_or depths i 0 ≤ most_depth

-- the last leaving and the soak rates too
pub record WaterInRange (p : Plan) (o : Ground) (depths lasts : List ℕ) : Type 0 where
  pub lies : MeadowInRange p o depths
  pub lasts_long : length lasts ≡ squares p.shape
  pub lasts_to : (i : ℕ) → i < squares p.shape → shut p i ≡ false → get_or lasts i 0 ≤ most_depth
  pub rates_long : length o.rates ≡ squares p.shape
  pub rates_to : (i : ℕ) → i < squares p.shape → shut p i ≡ false → get_or o.rates i 0 ≤ most_soak_rate

-- the tables are fine
pub record TablesInRange (p : Plan) (g : Given) : Type 0 where
  pub fine : ShapeInRange p.shape
  pub marks_long : length p.marks ≡ squares p.shape
  pub rules : RulesInRange g.lie.rules
  pub rain : table_fine rain_kind g.rain ≡ true
  pub inflow : table_fine inflow_kind g.inflow ≡ true
  pub inflow_squares : inflow_squares_fine p.shape p.marks g.inflow ≡ true

pub record Ready (p : Plan) (g : Given) (v : Seen) : Type 0 where
  pub flows : WaterInRange p g.lie v.depths v.lasts
  pub waters : TablesInRange p g
  pub clock_to : v.clock ≤ last_clock
  pub length_from : 1 ≤ v.length
  pub length_to : v.length ≤ most_length
  pub outflow_to : v.outflow ≤ most_outflow
  pub soaked_to : v.soaked ≤ most_soaked
