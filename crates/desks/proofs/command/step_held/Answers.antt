-- `desks::command::step_held` meets its contract: each room is lent as far as it belongs to the sheet, and put back.
-- Assumes nothing.
use mathlib.Core.Path.{sym, ◌∙◌}
use Prim.Native.Nat.{◌≤◌}
use native.Mathlib.Omega.{arith}
use lib.ListN.{length}
use Rattle.desks.proofs.RoomLaws.{part_long, work_lent, ready_fine, lends, held_passes, held-step}
use Rattle.desks.proofs.command.step_held.Goals as goal
use Rattle.desks.proofs.command.step_held.Goals.{After-sizes_of-sizes}

-- ---- the places, each by one after it

-- ---- each room is long enough

marks-fit : (c : After-sizes_of-sizes) → c.sizes_of-sizes.result.squares ≤ length c.args.marks.now
marks-fit c = omega (arith, c.requires.desk_value.1.marks_long, c.sizes_of-sizes.ensures.squares_fit)

beds-fit : (c : After-sizes_of-sizes) → c.sizes_of-sizes.result.squares ≤ length c.args.beds.now
beds-fit c = omega (arith, c.requires.desk_value.2.beds_long, c.sizes_of-sizes.ensures.squares_fit)

roughness-fit : (c : After-sizes_of-sizes) → c.sizes_of-sizes.result.squares ≤ length c.args.roughness.now
roughness-fit c = omega (arith, c.requires.desk_value.2.roughness_long, c.sizes_of-sizes.ensures.squares_fit)

rates-fit : (c : After-sizes_of-sizes) → c.sizes_of-sizes.result.squares ≤ length c.args.rates.now
rates-fit c = omega (arith, c.requires.desk_value.2.rates_long, c.sizes_of-sizes.ensures.squares_fit)

rain-fit : (c : After-sizes_of-sizes) → c.sizes_of-sizes.result.rain ≤ length c.args.rain.now
rain-fit c = omega (arith, c.requires.desk_value.2.rain_long, c.sizes_of-sizes.ensures.rain_fits)

inflow-fit : (c : After-sizes_of-sizes) → c.sizes_of-sizes.result.inflow ≤ length c.args.inflow.now
inflow-fit c = omega (arith, c.requires.desk_value.1.inflow_long, c.sizes_of-sizes.ensures.inflow_fits)

depths-fit : (c : After-sizes_of-sizes) → c.sizes_of-sizes.result.squares ≤ length c.args.depths.now
depths-fit c = omega (arith, c.requires.desk_value.1.depths_long, c.sizes_of-sizes.ensures.squares_fit)

lasts_fit : (c : After-sizes_of-sizes) → c.sizes_of-sizes.result.squares ≤ length c.args.lasts.now
lasts_fit c = omega (arith, c.requires.desk_value.1.lasts_long, c.sizes_of-sizes.ensures.squares_fit)

records_fit : (c : After-sizes_of-sizes) → c.sizes_of-sizes.result.records ≤ length c.args.records.now
records_fit c = omega (arith, c.requires.desk_value.1.records_long, c.sizes_of-sizes.ensures.records_fit)

began_fit : (c : After-sizes_of-sizes) → c.sizes_of-sizes.result.began ≤ length c.args.began.now
began_fit c = omega (arith, c.requires.desk_value.1.began_long, c.sizes_of-sizes.ensures.began_fits)

left-fit : (c : After-sizes_of-sizes) → c.sizes_of-sizes.result.squares ≤ length c.args.left.now
left-fit c = omega (arith, c.requires.work_long.left_long, c.sizes_of-sizes.ensures.squares_fit)

worked_fit : (c : After-sizes_of-sizes) → c.args.desk.heading.shape.rows ≤ length c.args.worked.now
worked_fit c = omega (arith, c.requires.work_long.worked_long, c.sizes_of-sizes.ensures.fine.rows_high)

senders_fit : (c : After-sizes_of-sizes) → c.args.desk.heading.shape.rows ≤ length c.args.senders.now
senders_fit c = omega (arith, c.requires.work_long.senders_long, c.sizes_of-sizes.ensures.fine.rows_high)

room-fit : (c : After-sizes_of-sizes) → c.sizes_of-sizes.result.squares ≤ length c.args.room.now
room-fit c = omega (arith, c.requires.work_long.room_long, c.sizes_of-sizes.ensures.squares_fit)

-- ---- the answers

pub sizes_of-sizes-requires : goal.sizes_of-sizes-requires
sizes_of-sizes-requires c = ready_fine c.args.desk c.requires.desk_value.0

pub slice_bounds-next_step-end : goal.slice_bounds-next_step-end
slice_bounds-next_step-end c = part_long _ _ (marks-fit (goal.at.slice_bounds-next_step-end c).After-sizes_of-sizes)

pub slice_bounds-next_step-end-2 : goal.slice_bounds-next_step-end-2
slice_bounds-next_step-end-2 c = part_long _ _ (beds-fit (goal.at.slice_bounds-next_step-end-2 c).After-sizes_of-sizes)

pub slice_bounds-next_step-end-3 : goal.slice_bounds-next_step-end-3
slice_bounds-next_step-end-3 c = part_long _ _ (roughness-fit (goal.at.slice_bounds-next_step-end-3 c).After-sizes_of-sizes)

pub slice_bounds-next_step-end-4 : goal.slice_bounds-next_step-end-4
slice_bounds-next_step-end-4 c = part_long _ _ (rates-fit (goal.at.slice_bounds-next_step-end-4 c).After-sizes_of-sizes)

pub slice_bounds-next_step-end-5 : goal.slice_bounds-next_step-end-5
slice_bounds-next_step-end-5 c = part_long _ _ (rain-fit (goal.at.slice_bounds-next_step-end-5 c).After-sizes_of-sizes)

pub slice_bounds-next_step-end-6 : goal.slice_bounds-next_step-end-6
slice_bounds-next_step-end-6 c = part_long _ _ (inflow-fit (goal.at.slice_bounds-next_step-end-6 c).After-sizes_of-sizes)

pub slice_bounds-next_step-end-7 : goal.slice_bounds-next_step-end-7
slice_bounds-next_step-end-7 c = depths-fit (goal.at.slice_bounds-next_step-end-7 c).After-sizes_of-sizes

pub slice_bounds-next_step-end-8 : goal.slice_bounds-next_step-end-8
slice_bounds-next_step-end-8 c = part_long _ _ (depths-fit (goal.at.slice_bounds-next_step-end-8 c).After-sizes_of-sizes)

pub slice_bounds-next_step-end-9 : goal.slice_bounds-next_step-end-9
slice_bounds-next_step-end-9 c = lasts_fit (goal.at.slice_bounds-next_step-end-9 c).After-sizes_of-sizes

pub slice_bounds-next_step-end-10 : goal.slice_bounds-next_step-end-10
slice_bounds-next_step-end-10 c = part_long _ _ (lasts_fit (goal.at.slice_bounds-next_step-end-10 c).After-sizes_of-sizes)

pub slice_bounds-next_step-end-11 : goal.slice_bounds-next_step-end-11
slice_bounds-next_step-end-11 c = records_fit (goal.at.slice_bounds-next_step-end-11 c).After-sizes_of-sizes

pub slice_bounds-next_step-end-12 : goal.slice_bounds-next_step-end-12
slice_bounds-next_step-end-12 c = part_long _ _ (records_fit (goal.at.slice_bounds-next_step-end-12 c).After-sizes_of-sizes)

pub slice_bounds-next_step-end-13 : goal.slice_bounds-next_step-end-13
slice_bounds-next_step-end-13 c = began_fit (goal.at.slice_bounds-next_step-end-13 c).After-sizes_of-sizes

pub slice_bounds-next_step-end-14 : goal.slice_bounds-next_step-end-14
slice_bounds-next_step-end-14 c = part_long _ _ (began_fit (goal.at.slice_bounds-next_step-end-14 c).After-sizes_of-sizes)

pub slice_bounds-next_step-end-15 : goal.slice_bounds-next_step-end-15
slice_bounds-next_step-end-15 c = left-fit (goal.at.slice_bounds-next_step-end-15 c).After-sizes_of-sizes

pub slice_bounds-next_step-end-16 : goal.slice_bounds-next_step-end-16
slice_bounds-next_step-end-16 c = part_long _ _ (left-fit (goal.at.slice_bounds-next_step-end-16 c).After-sizes_of-sizes)

pub slice_bounds-next_step-end-17 : goal.slice_bounds-next_step-end-17
slice_bounds-next_step-end-17 c = worked_fit (goal.at.slice_bounds-next_step-end-17 c).After-sizes_of-sizes

pub slice_bounds-next_step-end-18 : goal.slice_bounds-next_step-end-18
slice_bounds-next_step-end-18 c = part_long _ _ (worked_fit (goal.at.slice_bounds-next_step-end-18 c).After-sizes_of-sizes)

pub slice_bounds-next_step-end-19 : goal.slice_bounds-next_step-end-19
slice_bounds-next_step-end-19 c = senders_fit (goal.at.slice_bounds-next_step-end-19 c).After-sizes_of-sizes

pub slice_bounds-next_step-end-20 : goal.slice_bounds-next_step-end-20
slice_bounds-next_step-end-20 c = part_long _ _ (senders_fit (goal.at.slice_bounds-next_step-end-20 c).After-sizes_of-sizes)

pub slice_bounds-next_step-end-21 : goal.slice_bounds-next_step-end-21
slice_bounds-next_step-end-21 c = room-fit (goal.at.slice_bounds-next_step-end-21 c).After-sizes_of-sizes

pub slice_bounds-next_step-end-22 : goal.slice_bounds-next_step-end-22
slice_bounds-next_step-end-22 c = part_long _ _ (room-fit (goal.at.slice_bounds-next_step-end-22 c).After-sizes_of-sizes)

pub next_step-requires : goal.next_step-requires
next_step-requires c = record {
  rooms_lent = work_lent c.args.desk.heading c.sizes_of-sizes.ensures c.requires.work_long;
  lends = (
    lends c.args.desk.heading c.sizes_of-sizes.ensures c.requires.desk_value.1,
    λ y.
        held_passes c.args.desk c.sizes_of-sizes.ensures c.args.marks.now c.args.beds.now c.args.roughness.now c.args.rates.now
        c.args.depths.now c.args.rain.now c.args.inflow.now c.args.lasts.now c.args.records.now c.args.began.now
        (c.requires.desk_value.3 y),
  );
}

pub returns : goal.returns
returns c =
    let kept = c.next_step.auto in
    held-step c.args.desk c.sizes_of-sizes.ensures c.args.marks.now c.args.beds.now c.args.roughness.now c.args.rates.now
    c.args.depths.now c.args.rain.now c.args.inflow.now c.args.lasts.now c.args.records.now c.args.began.now
    (kept.depths ∙ sym (part_long _ _ (depths-fit (goal.at.returns c).After-sizes_of-sizes))) (kept.lasts ∙ sym (part_long _ _ (lasts_fit (goal.at.returns c).After-sizes_of-sizes))) (kept.records ∙ sym (part_long _ _ (records_fit (goal.at.returns c).After-sizes_of-sizes)))
    (kept.began ∙ sym (part_long _ _ (began_fit (goal.at.returns c).After-sizes_of-sizes))) c.next_step.ensures
