-- `flood::step::fill_slot` meets its contract: the slot after the newest lies in the room, and what is filled there is the record.
-- Assumes nothing.
use Prim.Native.Nat.{◌+◌, ◌≤◌}
use native.Mathlib.Omega.{arith}
use lib.ListN.{length}
use Rattle.ledger.specs.Runs.{Plan, World, plan, world}
use Rattle.ledger.proofs.ReadBack.{record_long}
use Rattle.flood.proofs.StepLaws.{newest_in, place_is, part_ends, slot_written}
use Rattle.flood.proofs.step.fill_slot.Goals as goal
use Rattle.flood.proofs.step.fill_slot.Goals.{After-record_size, Start}

-- ---- what is known there

abbrev p : Start → Plan
p s = plan s.args.way.shape s.args.marks.now

abbrev w : Start → World
w s = world s.args.depths.now s.args.lasts.now s.args.records.now s.args.run

ends : (c : After-record_size) → c.next_place-at.result + c.record_size.result ≤ length c.args.records.now
ends c =
    part_ends (p (goal.at.After-record_size c).Start) (w (goal.at.After-record_size c).Start) c.record_size.ensures (place_is (p (goal.at.After-record_size c).Start) (w (goal.at.After-record_size c).Start) c.next_place-at.ensures) c.requires.newest_bound.0

pub next_place-at-requires : goal.next_place-at-requires
next_place-at-requires c = (c.requires.fills.flows.lies.sited.fine, newest_in (p (goal.at.next_place-at-requires c).Start) (w (goal.at.next_place-at-requires c).Start) c.requires.newest_bound.0)

pub overflow_add-stop : goal.overflow_add-stop
overflow_add-stop c = omega (arith, ends c, c.well_formed.1.1.1.1.1.1.1.1)

pub offset_bounds-records-at : goal.offset_bounds-records-at
offset_bounds-records-at c = omega (arith, ends c, c.well_formed.1.1.1.1.1.1.1.1)

pub slice_bounds-fill-end : goal.slice_bounds-fill-end
slice_bounds-fill-end c = ends c

pub returns : goal.returns
returns c = record {
  stored =
      slot_written (p (goal.at.returns c).Start) (w (goal.at.returns c).Start) c.record_size.ensures (place_is (p (goal.at.returns c).Start) (w (goal.at.returns c).Start) c.next_place-at.ensures) c.fill.ensures.0
      (record_long (p (goal.at.returns c).Start) _ _ _ _ _ _);
  worked_are = c.fill.ensures.1;
  senders_are = c.fill.ensures.2;
  left-kept = c.fill.ensures.3;
}
