-- `settling::settle::settle` meets its contract: the slot after the newest lies in the room, the number is that of the first row that applies,
-- and else the parts written make the world after, in which the record stored again changes nothing.
-- Assumes nothing.
use Rattle.std.proofs.Common.{◌≡◌, ℕ, ◌+◌, ◌-◌, ◌≤◌, true, List, length, take, drop, sym, ap, ◌∙◌, subst, arith}
use Rattle.trials.specs.Ring.{slot_start}
use Rattle.ledger.specs.Runs.{Plan, World, plan, world}
use Rattle.ledger.specs.Record.{room_slots}
use Rattle.settling.specs.Inner.Settle.{Settles, WalkTells, RoomAdded, next_record, settle_number}
use Rattle.ledger.proofs.RecordLaws.{slots_of}
use Rattle.settling.proofs.ReachLaws.{fits_are, room_beyond, same_beyond, lasts_written, depths-written}
use Rattle.settling.proofs.SettleLaws.{settles_spreads, late_is, settles_refused, settles_made, outflow_by, soaked_by, written_is, next_fits}
use Rattle.settling.proofs.SureLaws.{off_lost, soaked_lost, next_is, next-stored, settles_by}
use Rattle.settling.proofs.settle.settle.Goals as goal
use Rattle.settling.proofs.settle.settle.Goals.{After-late_number-refused, After-record_size-size, After-slot_after-slot, After-slot_start-at, After-slots_in-slots}

-- ---- what is known there

abbrev ground : After-record_size-size → Plan
ground c = plan c.args.shape c.args.marks.now

abbrev before : After-record_size-size → World
before c = world c.args.depths.now c.args.lasts.now c.args.records.now c.args.run

slots_are : (c : After-slots_in-slots) → c.slots_in-slots.result ≡ room_slots (ground (goal.at.After-slots_in-slots c).After-record_size-size) (before (goal.at.After-slots_in-slots c).After-record_size-size).records
slots_are c = slots_of (ground (goal.at.After-slots_in-slots c).After-record_size-size) (before (goal.at.After-slots_in-slots c).After-record_size-size).records c.record_size-size.ensures c.slots_in-slots.ensures

slot_fits :
    (c : After-slot_after-slot) → slot_start c.record_size-size.result c.slot_after-slot.result + c.record_size-size.result ≤ length (before (goal.at.After-slot_after-slot c).After-record_size-size).records
slot_fits c =
    next_fits (ground (goal.at.After-slot_after-slot c).After-record_size-size) (before (goal.at.After-slot_after-slot c).After-record_size-size).records c.record_size-size.ensures c.slots_in-slots.ensures c.requires.settles.newest_in
    c.slot_after-slot.ensures

-- the record, where it is lent from
module _ (c : After-slot_start-at) where
  abbrev p : Plan
  p = ground (goal.at.After-slot_start-at c).After-record_size-size

  abbrev w : World
  w = before (goal.at.After-slot_start-at c).After-record_size-size

  abbrev rec : List ℕ
  rec = let at = c.slot_start-at.result in let size = c.record_size-size.result in take (at + size - at) (drop at w.records)

  rec-is : rec ≡ next_record p w
  rec-is = next_is p w c.record_size-size.ensures c.slots_in-slots.ensures c.slot_after-slot.ensures c.slot_start-at.ensures

  asks : Settles p rec c.args.held w
  asks = subst (λ (r : List ℕ). Settles p r c.args.held w) (sym rec-is) c.requires.settles

  tells : WalkTells p rec w.depths w.lasts c.args.left.now c.args.worked.now c.args.senders.now
  tells = subst (λ (r : List ℕ). WalkTells p r w.depths w.lasts c.args.left.now c.args.worked.now c.args.senders.now) (sym rec-is) c.requires.walk_tells

  adds : RoomAdded p rec c.args.room.now
  adds = subst (λ (r : List ℕ). RoomAdded p r c.args.room.now) (sym rec-is) c.requires.room_added

  none : c.args.sure ≡ true → settle_number p rec c.args.held w ≡ 0
  none = subst (λ (r : List ℕ). c.args.sure ≡ true → settle_number p r c.args.held w ≡ 0) (sym rec-is) c.requires.run_value

-- the number is the record's
number_is :
    (c : After-late_number-refused) → c.late_number-refused.result ≡ settle_number (p (goal.at.After-late_number-refused c).After-slot_start-at) (rec (goal.at.After-late_number-refused c).After-slot_start-at) c.args.held (w (goal.at.After-late_number-refused c).After-slot_start-at)
number_is c =
    late_is (p (goal.at.After-late_number-refused c).After-slot_start-at) (rec (goal.at.After-late_number-refused c).After-slot_start-at) c.args.held (w (goal.at.After-late_number-refused c).After-slot_start-at) c.late_number-refused.ensures (none (goal.at.After-late_number-refused c).After-slot_start-at) (fits_are c.spread-lost.ensures.room_is)
    (outflow_by (p (goal.at.After-late_number-refused c).After-slot_start-at) (rec (goal.at.After-late_number-refused c).After-slot_start-at) c.args.held (w (goal.at.After-late_number-refused c).After-slot_start-at) c.spread-lost.ensures.off_is)
    (soaked_by (p (goal.at.After-late_number-refused c).After-slot_start-at) (rec (goal.at.After-late_number-refused c).After-slot_start-at) c.args.held (w (goal.at.After-late_number-refused c).After-slot_start-at) c.spread-lost.ensures.soaked_is)

pub slot_after-slot-requires : goal.slot_after-slot-requires
slot_after-slot-requires c = omega (arith, slots_are c, c.requires.settles.newest_in)

pub slot_start-at-requires : goal.slot_start-at-requires
slot_start-at-requires c = omega (arith, slot_fits c)

pub overflow_add-end : goal.overflow_add-end
overflow_add-end c = omega (arith, slot_fits (goal.at.overflow_add-end c).After-slot_after-slot, c.slot_start-at.ensures)

pub offset_bounds-records-at : goal.offset_bounds-records-at
offset_bounds-records-at c = omega (arith, slot_fits (goal.at.offset_bounds-records-at c).After-slot_after-slot, c.slot_start-at.ensures)

pub slice_bounds-rec-end : goal.slice_bounds-rec-end
slice_bounds-rec-end c = omega (arith, slot_fits (goal.at.slice_bounds-rec-end c).After-slot_after-slot, c.slot_start-at.ensures)

pub spread-lost-requires : goal.spread-lost-requires
spread-lost-requires c =
    let told = tells (goal.at.spread-lost-requires c).After-slot_start-at in record {
      spreads = (settles_spreads (asks (goal.at.spread-lost-requires c).After-slot_start-at), adds (goal.at.spread-lost-requires c).After-slot_start-at, told.left_long ∙ sym (asks (goal.at.spread-lost-requires c).After-slot_start-at).marks_long);
      worked_len = (told.worked_long, told.idle, told.left_is);
    }

pub overflow_add-outflow : goal.overflow_add-outflow
overflow_add-outflow c = omega (arith, c.spread-lost.ensures.off_is, off_lost (asks (goal.at.overflow_add-outflow c).After-slot_start-at), (asks (goal.at.overflow_add-outflow c).After-slot_start-at).outflow_to)

pub overflow_add-soaked : goal.overflow_add-soaked
overflow_add-soaked c = omega (arith, c.spread-lost.ensures.soaked_is, soaked_lost (asks (goal.at.overflow_add-soaked c).After-slot_start-at), (asks (goal.at.overflow_add-soaked c).After-slot_start-at).soaked_to)

pub late_number-refused-requires : goal.late_number-refused-requires
late_number-refused-requires c =
    let told = tells (goal.at.late_number-refused-requires c).After-slot_start-at in
    let ask = asks (goal.at.late_number-refused-requires c).After-slot_start-at in record {
      shape_in_range = (ask.fine, ask.marks_long, c.spread-lost.ensures.room_is.long);
      worked_len = (told.worked_long, told.senders_long, room_beyond told ask.fine ask.marks_long c.spread-lost.ensures.room_is);
    }

pub returns-then-refused-ne0 : goal.returns-then-refused-ne0
returns-then-refused-ne0 c = settles_by (rec-is (goal.at.returns-then-refused-ne0 c).After-slot_start-at) (settles_refused (p (goal.at.returns-then-refused-ne0 c).After-slot_start-at) (rec (goal.at.returns-then-refused-ne0 c).After-slot_start-at) c.args.held (w (goal.at.returns-then-refused-ne0 c).After-slot_start-at) (number_is (goal.at.returns-then-refused-ne0 c).After-late_number-refused) c.if-refused-ne0.true)

pub write_water-requires : goal.write_water-requires
write_water-requires c =
    let told = tells (goal.at.write_water-requires c).After-slot_start-at in
    let ask = asks (goal.at.write_water-requires c).After-slot_start-at in record {
      shape_in_range = (ask.fine, ask.marks_long, told.left_long, c.spread-lost.ensures.room_is.long, ask.lasts_long, ask.depths_long);
      worked_len = (told.worked_long, told.senders_long, same_beyond told ask.fine ask.marks_long c.spread-lost.ensures.room_is);
    }

pub overflow_add-after : goal.overflow_add-after
overflow_add-after c = omega (arith, c.lasted.ensures, (asks (goal.at.overflow_add-after c).After-slot_start-at).clock_to)

pub returns : goal.returns
returns c =
    let told = tells (goal.at.returns c).After-slot_start-at in
    let ask = asks (goal.at.returns c).After-slot_start-at in
    settles_by (rec-is (goal.at.returns c).After-slot_start-at)
    (settles_made (p (goal.at.returns c).After-slot_start-at) (rec (goal.at.returns c).After-slot_start-at) c.args.held (w (goal.at.returns c).After-slot_start-at) (number_is (goal.at.returns c).After-late_number-refused) c.if-refused-ne0.false
    (written_is (p (goal.at.returns c).After-slot_start-at) (rec (goal.at.returns c).After-slot_start-at) c.args.held (w (goal.at.returns c).After-slot_start-at) (slots_are (goal.at.returns c).After-slots_in-slots) c.slot_after-slot.ensures
    (depths-written c.spread-lost.ensures.room_is c.write_water.ensures.1)
    (lasts_written told c.write_water.ensures.0)
    (c.slot_start-at.ensures ∙ ap (λ (k : ℕ). slot_start k c.slot_after-slot.result) c.record_size-size.ensures)
    (next-stored (p (goal.at.returns c).After-slot_start-at) (w (goal.at.returns c).After-slot_start-at) c.record_size-size.ensures c.slots_in-slots.ensures c.slot_after-slot.ensures c.slot_start-at.ensures (slot_fits (goal.at.returns c).After-slot_after-slot))
    (ap (λ (k : ℕ). c.args.run.clock + k) c.lasted.ensures) (outflow_by (p (goal.at.returns c).After-slot_start-at) (rec (goal.at.returns c).After-slot_start-at) c.args.held (w (goal.at.returns c).After-slot_start-at) c.spread-lost.ensures.off_is)
    c.kept_after.ensures (soaked_by (p (goal.at.returns c).After-slot_start-at) (rec (goal.at.returns c).After-slot_start-at) c.args.held (w (goal.at.returns c).After-slot_start-at) c.spread-lost.ensures.soaked_is)))
