-- `sight::all_arrows::all_arrows` meets its contract: refused for its rooms, before its record is read, or by what the record holds; else every
-- square is seen by it.
-- Assumes nothing.
use mathlib.Core.Path.{refl}
use native.Mathlib.Omega.{arith}
use Rattle.sight.proofs.ArrowLaws.{opened, timed, record_within, record_is, record_long, laid}
use Rattle.sight.proofs.AllArrowsLaws.{all_rooms, all_refused, all_late, all_seen, rooms_long}
use Rattle.sight.proofs.all_arrows.all_arrows.Goals as goal

-- ---- the places, each by the one before it

-- ---- the answers

pub returns-then-not-rooms_fine : goal.returns-then-not-rooms_fine
returns-then-not-rooms_fine c = all_rooms _ _ _ _ c.rooms_fine.ensures (c.if-not-rooms_fine.true)

pub returns-then-refused-ne0 : goal.returns-then-refused-ne0
returns-then-refused-ne0 c = all_refused _ _ _ _ c.rooms_fine.ensures (c.if-not-rooms_fine.false) c.early_refusal-refused.ensures c.if-refused-ne0.true

pub record_size-size-requires : goal.record_size-size-requires
record_size-size-requires c = (opened _ _ _ _ _ c.early_refusal-refused.ensures c.if-refused-ne0.false).shared.sizes.fine

pub slot_start-at-requires : goal.slot_start-at-requires
slot_start-at-requires c =
    omega (
      arith,
      record_within (opened _ _ _ _ _ c.early_refusal-refused.ensures c.if-refused-ne0.false) c.record_size-size.ensures refl,
      c.well_formed,
    )

pub overflow_add-end : goal.overflow_add-end
overflow_add-end c =
    omega (
      arith,
      record_within (opened _ _ _ _ _ c.early_refusal-refused.ensures c.if-refused-ne0.false) c.record_size-size.ensures
          c.slot_start-at.ensures,
      c.well_formed,
    )

pub offset_bounds-records-at : goal.offset_bounds-records-at
offset_bounds-records-at c =
    omega (
      arith,
      record_within (opened _ _ _ _ _ c.early_refusal-refused.ensures c.if-refused-ne0.false) c.record_size-size.ensures
          c.slot_start-at.ensures,
      c.well_formed,
    )

pub slice_bounds-rec-end : goal.slice_bounds-rec-end
slice_bounds-rec-end c =
    record_within (opened _ _ _ _ _ c.early_refusal-refused.ensures c.if-refused-ne0.false) c.record_size-size.ensures
    c.slot_start-at.ensures

pub times_fine-requires : goal.times_fine-requires
times_fine-requires c =
    omega (
      arith,
      record_long (opened _ _ _ _ _ c.early_refusal-refused.ensures c.if-refused-ne0.false) c.record_size-size.ensures
          c.slot_start-at.ensures,
    )

pub returns-then-not-times_fine : goal.returns-then-not-times_fine
returns-then-not-times_fine c =
    let rec = record_is (opened _ _ _ _ _ c.early_refusal-refused.ensures c.if-refused-ne0.false) c.record_size-size.ensures
    c.slot_start-at.ensures in
    all_late _ _ _ _ c.rooms_fine.ensures (c.if-not-rooms_fine.false) c.early_refusal-refused.ensures
    c.if-refused-ne0.false rec c.times_fine.ensures (c.if-not-times_fine.true)

pub see_all-requires : goal.see_all-requires
see_all-requires c =
    let left = opened _ _ _ _ _ c.early_refusal-refused.ensures c.if-refused-ne0.false in
    let rec = record_is left c.record_size-size.ensures c.slot_start-at.ensures in
    let times = timed _ _ _ _ _ c.early_refusal-refused.ensures c.if-refused-ne0.false rec c.times_fine.ensures
    (c.if-not-times_fine.false) left.side_to in record {
      sight_lent = laid left c.record_size-size.ensures c.slot_start-at.ensures;
      timed = (times, rooms_long c.rooms_fine.ensures (c.if-not-rooms_fine.false) left.shared.sizes.marks_long);
    }

pub returns : goal.returns
returns c =
    let left = opened _ _ _ _ _ c.early_refusal-refused.ensures c.if-refused-ne0.false in
    let rec = record_is left c.record_size-size.ensures c.slot_start-at.ensures in
    all_seen _ _ _ _ c.rooms_fine.ensures (c.if-not-rooms_fine.false) c.early_refusal-refused.ensures
    c.if-refused-ne0.false rec c.times_fine.ensures (c.if-not-times_fine.false) left.shared.sizes.fine
    c.see_all.ensures
