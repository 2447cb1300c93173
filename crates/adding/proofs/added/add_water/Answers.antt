-- `adding::added::add_water` meets its contract: rain first, then the rows.
-- Assumes nothing.
use mathlib.Core.Path.{◌∙◌}
use Rattle.ledger.specs.Runs.{Plan, plan}
use Rattle.adding.proofs.AddedLaws.{rain_asked, pours, rain_too_much, wetted}
use Rattle.adding.proofs.added.add_water.Goals as goal
use Rattle.adding.proofs.added.add_water.Goals.{Start}

-- ---- what is known there

abbrev p : Start → Plan
p s = plan s.args.way.shape s.args.marks.now

-- ---- the answers

pub rain_added-fallen-requires : goal.rain_added-fallen-requires
rain_added-fallen-requires c = let h = rain_asked (p (goal.at.rain_added-fallen-requires c).Start) c.args.way.rules c.args.rain.now c.args.inflow.now c.args.start c.args.end c.requires.between in record { fits = h.0; start_le_end = h.1 }

pub returns-then-not-rain_all : goal.returns-then-not-rain_all
returns-then-not-rain_all c =
    rain_too_much (p (goal.at.returns-then-not-rain_all c).Start) c.args.way.rules c.args.rain.now c.args.inflow.now c.args.start c.args.end c.requires.between c.rain_added-fallen.ensures
    (c.if-not-rain_all.true) c.rain_all.ensures

pub pour_all-requires : goal.pour_all-requires
pour_all-requires c = (
  pours (p (goal.at.pour_all-requires c).Start) c.args.way.rules c.args.rain.now c.args.inflow.now c.args.start c.args.end c.requires.between c.rain_added-fallen.ensures,
  c.rain_all.ensures.long ∙ c.requires.room_len,
  c.requires.apart_value,
)

pub returns : goal.returns
returns c =
    wetted (p (goal.at.returns c).Start) c.args.way.rules c.args.rain.now c.args.inflow.now c.args.start c.args.end c.requires.between c.rain_added-fallen.ensures
    c.requires.room_len (c.if-not-rain_all.false) c.rain_all.ensures c.pour_all.ensures
