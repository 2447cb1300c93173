-- `evenings::program::take_held` meets its contract: a line taken out of rooms that fit.
-- Assumes nothing.
use mathlib.Core.Path.{sym, ◌∙◌}
use native.Mathlib.Omega.{arith}
use Rattle.sheet.specs.Sheet.{rooms}
use Rattle.evenings.specs.Program.{Stores, stores}
use Rattle.evenings.proofs.NightLaws.{left_at, fine_is, fits_fine, held_fit, part_long, night_taken}
use Rattle.evenings.proofs.program.take_held.Goals as goal
use Rattle.evenings.proofs.program.take_held.Goals.{Start}

-- what the rooms hold
abbrev R : Start → Stores
R s =
    stores (rooms s.args.marks.now s.args.beds.now s.args.roughness.now s.args.rates.now s.args.depths.now s.args.rain.now s.args.inflow.now)
    s.args.lasts.now s.args.records.now s.args.began.now

pub sizes_of-sizes-requires : goal.sizes_of-sizes-requires
sizes_of-sizes-requires c = fits_fine c.args.night (R (goal.at.sizes_of-sizes-requires c).Start) c.requires.1

pub slice_bounds-take_line-end : goal.slice_bounds-take_line-end
slice_bounds-take_line-end c = part_long _ c.args.marks.now (held_fit c.args.night (R (goal.at.slice_bounds-take_line-end c).Start) c.sizes_of-sizes.ensures c.requires.1).marks

pub slice_bounds-take_line-end-2 : goal.slice_bounds-take_line-end-2
slice_bounds-take_line-end-2 c = part_long _ c.args.beds.now (held_fit c.args.night (R (goal.at.slice_bounds-take_line-end-2 c).Start) c.sizes_of-sizes.ensures c.requires.1).beds

pub slice_bounds-take_line-end-3 : goal.slice_bounds-take_line-end-3
slice_bounds-take_line-end-3 c = part_long _ c.args.roughness.now (held_fit c.args.night (R (goal.at.slice_bounds-take_line-end-3 c).Start) c.sizes_of-sizes.ensures c.requires.1).roughness

pub slice_bounds-take_line-end-4 : goal.slice_bounds-take_line-end-4
slice_bounds-take_line-end-4 c = part_long _ c.args.rates.now (held_fit c.args.night (R (goal.at.slice_bounds-take_line-end-4 c).Start) c.sizes_of-sizes.ensures c.requires.1).rates

pub slice_bounds-take_line-end-5 : goal.slice_bounds-take_line-end-5
slice_bounds-take_line-end-5 c = part_long _ c.args.rain.now (held_fit c.args.night (R (goal.at.slice_bounds-take_line-end-5 c).Start) c.sizes_of-sizes.ensures c.requires.1).rain

pub slice_bounds-take_line-end-6 : goal.slice_bounds-take_line-end-6
slice_bounds-take_line-end-6 c = part_long _ c.args.inflow.now (held_fit c.args.night (R (goal.at.slice_bounds-take_line-end-6 c).Start) c.sizes_of-sizes.ensures c.requires.1).inflow

pub slice_bounds-take_line-end-7 : goal.slice_bounds-take_line-end-7
slice_bounds-take_line-end-7 c = (held_fit c.args.night (R (goal.at.slice_bounds-take_line-end-7 c).Start) c.sizes_of-sizes.ensures c.requires.1).depths

pub slice_bounds-take_line-end-8 : goal.slice_bounds-take_line-end-8
slice_bounds-take_line-end-8 c = part_long _ c.args.depths.now (held_fit c.args.night (R (goal.at.slice_bounds-take_line-end-8 c).Start) c.sizes_of-sizes.ensures c.requires.1).depths

pub slice_bounds-take_line-end-9 : goal.slice_bounds-take_line-end-9
slice_bounds-take_line-end-9 c = (held_fit c.args.night (R (goal.at.slice_bounds-take_line-end-9 c).Start) c.sizes_of-sizes.ensures c.requires.1).lasts

pub slice_bounds-take_line-end-10 : goal.slice_bounds-take_line-end-10
slice_bounds-take_line-end-10 c = part_long _ c.args.lasts.now (held_fit c.args.night (R (goal.at.slice_bounds-take_line-end-10 c).Start) c.sizes_of-sizes.ensures c.requires.1).lasts

pub slice_bounds-take_line-end-11 : goal.slice_bounds-take_line-end-11
slice_bounds-take_line-end-11 c = (held_fit c.args.night (R (goal.at.slice_bounds-take_line-end-11 c).Start) c.sizes_of-sizes.ensures c.requires.1).records

pub slice_bounds-take_line-end-12 : goal.slice_bounds-take_line-end-12
slice_bounds-take_line-end-12 c = part_long _ c.args.records.now (held_fit c.args.night (R (goal.at.slice_bounds-take_line-end-12 c).Start) c.sizes_of-sizes.ensures c.requires.1).records

pub slice_bounds-take_line-end-13 : goal.slice_bounds-take_line-end-13
slice_bounds-take_line-end-13 c = (held_fit c.args.night (R (goal.at.slice_bounds-take_line-end-13 c).Start) c.sizes_of-sizes.ensures c.requires.1).began

pub slice_bounds-take_line-end-14 : goal.slice_bounds-take_line-end-14
slice_bounds-take_line-end-14 c = part_long _ c.args.began.now (held_fit c.args.night (R (goal.at.slice_bounds-take_line-end-14 c).Start) c.sizes_of-sizes.ensures c.requires.1).began

pub next_night-requires : goal.next_night-requires
next_night-requires c = omega (arith, (fine_is c.args.night (fits_fine c.args.night (R (goal.at.next_night-requires c).Start) c.requires.1)).line, left_at c.args.text.now c.args.night c.requires.0)

pub returns : goal.returns
returns c =
    let f = held_fit c.args.night (R (goal.at.returns c).Start) c.sizes_of-sizes.ensures c.requires.1 in
    night_taken c.args.text.now c.args.night (R (goal.at.returns c).Start) c.sizes_of-sizes.ensures f c.requires.0 c.requires.1
    (c.take_line-taken.auto.depths ∙ sym (part_long _ c.args.depths.now f.depths))
    (c.take_line-taken.auto.lasts ∙ sym (part_long _ c.args.lasts.now f.lasts))
    (c.take_line-taken.auto.records ∙ sym (part_long _ c.args.records.now f.records))
    (c.take_line-taken.auto.began ∙ sym (part_long _ c.args.began.now f.began))
    c.take_line-taken.ensures c.next_night.ensures
