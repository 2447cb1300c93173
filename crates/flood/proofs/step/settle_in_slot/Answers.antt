-- `flood::step::settle_in_slot` meets its contract: what the filled slot tells is what settling asks.
-- Assumes nothing.
use mathlib.Core.Path.{◌≡◌, ◌∙◌}
use native.Mathlib.Omega.{arith}
use lib.ListN.{length}
use Rattle.ledger.specs.Runs.{Plan, World, plan, world}
use Rattle.checks.specs.Given.{Ground, ground}
use Rattle.flood.proofs.StepLaws.{next_long, lasted_told, room_added, told, stored_asks, slot_settled}
use Rattle.flood.proofs.step.settle_in_slot.Goals as goal
use Rattle.flood.proofs.step.settle_in_slot.Goals.{After-fill_slot, Start}

-- ---- what is known there

abbrev p : Start → Plan
p s = plan s.args.way.shape s.args.marks.now

abbrev o : Start → Ground
o s = ground s.args.way.rules s.args.beds.now s.args.roughness.now s.args.rates.now

abbrev w : Start → World
w s = world s.args.depths.now s.args.lasts.now s.args.records.now s.args.run

-- the rooms are as long as they were
kept-left : (c : After-fill_slot) → length c.fill_slot.new.left ≡ length c.args.left.now
kept-left c = c.fill_slot.auto.left

kept-worked : (c : After-fill_slot) → length c.fill_slot.new.worked ≡ length c.args.worked.now
kept-worked c = c.fill_slot.auto.worked

kept-senders : (c : After-fill_slot) → length c.fill_slot.new.senders ≡ length c.args.senders.now
kept-senders c = c.fill_slot.auto.senders

pub fill_slot-requires : goal.fill_slot-requires
fill_slot-requires c =
    let decides = c.requires.0 in
    let asked = decides.settles in record {
      fills = record {
        flows = decides.flows;
        added_long = c.requires.1.room_long;
        duration-for = decides.duration_to;
        end_to = omega (arith, asked.clock_to, lasted_told (p (goal.at.fill_slot-requires c).Start) (o (goal.at.fill_slot-requires c).Start) (w (goal.at.fill_slot-requires c).Start) c.args.room.now c.args.decided.duration);
        record_long = next_long (p (goal.at.fill_slot-requires c).Start) (w (goal.at.fill_slot-requires c).Start) asked.newest_in;
      };
      newest_bound = (asked.newest_in, decides.length_to, c.requires.1);
    }

pub settle-requires : goal.settle-requires
settle-requires c =
    let decides = c.requires.0 in
    let rooms = c.requires.1 in
    let told-there =
    told (p (goal.at.settle-requires c).Start) (o (goal.at.settle-requires c).Start) (w (goal.at.settle-requires c).Start) c.args.room.now c.args.decided.duration decides.settles.fine c.args.way.walk
    c.fill_slot.ensures.worked_are (kept-left (goal.at.settle-requires c).After-fill_slot ∙ rooms.left_long) (kept-worked (goal.at.settle-requires c).After-fill_slot ∙ rooms.worked_long) (kept-senders (goal.at.settle-requires c).After-fill_slot ∙ rooms.senders_long)
    c.fill_slot.ensures.senders_are c.fill_slot.ensures.left-kept in
    let asks =
    stored_asks decides.settles c.fill_slot.ensures.stored told-there
    (room_added (p (goal.at.settle-requires c).Start) (o (goal.at.settle-requires c).Start) (w (goal.at.settle-requires c).Start) c.args.room.now c.args.decided.duration rooms.room_long) decides.sure_is in
    record { settles = asks.0; walk_tells = asks.1.0; room_added = asks.1.1.0; run_value = asks.1.1.1 }

pub returns : goal.returns
returns c = slot_settled c.requires.0.settles c.fill_slot.ensures.stored c.settle.ensures
