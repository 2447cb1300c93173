-- Ranges as facts: what the functions of one square ask, and what the tests of the rules and of the ground leave known.
-- No definition and no answer of the document names these.
-- Assumes nothing.
use Rattle.std.specs.Prelude.{ℕ, ◌≤◌, List, get_or}
use Rattle.reckon.specs.Ranges.{most_side, most_bed, most_depth, most_roughness, most_tolerance, most_length, most_update, most_edge, most_edition}
use Rattle.rule.specs.declared.rules.Rules.{Rules}

-- ---- what a call whose tests pass may rely on (`rules_are`, `ground_is`)

pub record RulesInRange (r : Rules) : Type 0 where
  pub side_from : 1 ≤ r.square_side
  pub side_to : r.square_side ≤ most_side
  pub tolerance_to : r.tolerance ≤ most_tolerance
  pub shortest_from : 1 ≤ r.shortest
  pub shortest_to : r.shortest ≤ r.longest
  pub longest_to : r.longest ≤ most_length
  pub update_from : 1 ≤ r.update
  pub update_to : r.update ≤ most_update
  pub edge_to : r.edge ≤ most_edge
  pub edition_from : 1 ≤ r.edition
  pub edition_to : r.edition ≤ most_edition

pub record GroundInRange (bed k : ℕ) : Type 0 where
  pub bed_to : bed ≤ most_bed
  pub roughness_from : 1 ≤ k
  pub roughness_to : k ≤ most_roughness

-- ---- what the drop off the grid asks

pub record EdgeInRange (r : Rules) : Type 0 where
  pub side_to : r.square_side ≤ most_side
  pub edge_to : r.edge ≤ most_edge

-- ---- what the weighing and the step length ask

-- no level is above the highest bed with the greatest depth on it
abbrev pub most_drop : ℕ
most_drop = 1_100_000_000

-- no slope is above that of such a drop between squares of 1 m
abbrev pub most_slope : ℕ
most_slope = 331_662

pub record DropsInRange (v : List ℕ) : Type 0 where
  pub north : get_or v 0 0 ≤ most_drop
  pub east : get_or v 1 0 ≤ most_drop
  pub south : get_or v 2 0 ≤ most_drop
  pub west : get_or v 3 0 ≤ most_drop

-- side, depth and roughness, as a speed or a candidate asks them
pub record SquareInRange (r : Rules) (d k : ℕ) : Type 0 where
  pub side_from : 1 ≤ r.square_side
  pub side_to : r.square_side ≤ most_side
  pub depth_to : d ≤ most_depth
  pub roughness_from : 1 ≤ k
  pub roughness_to : k ≤ most_roughness

pub record Weighable (r : Rules) (d p k ms : ℕ) (v : List ℕ) : Type 0 where
  pub square : SquareInRange r d k
  pub last_to : p ≤ most_depth
  pub lasts_to : ms ≤ most_length
  pub drops : DropsInRange v

pub record Candidacy (r : Rules) (d k : ℕ) (v : List ℕ) : Type 0 where
  pub square : SquareInRange r d k
  pub tolerance_to : r.tolerance ≤ most_tolerance
  pub drops : DropsInRange v
