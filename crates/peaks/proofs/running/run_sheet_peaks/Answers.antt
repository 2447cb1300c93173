-- `peaks::running::run_sheet_peaks` meets its contract: the parts that belong to the sheet lie in their rooms, and their run starts from nothing.
-- Assumes nothing.
use mathlib.Core.Path.{◌≡◌, refl, sym, ap, ◌∙◌}
use mathlib.Core.List.{List, ◌++◌}
use Prim.Native.Nat.{ℕ, ◌+◌, ◌*◌}
use native.Mathlib.Omega.{arith}
use lib.ListN.{length, take, drop, length-append}
use Rattle.std.proofs.lemmas.List.{take-append-drop}
use Rattle.ledger.specs.Record.{head_words, square_words}
use Rattle.sheet.specs.Sheet.{Rooms, rooms}
use Rattle.sheet.proofs.JudgeLaws.{taken_long, zeros_are}
use Rattle.programs.specs.Program.{program_squares}
use Rattle.programs.proofs.HeldLaws.{part_long, parts_pass, record-in, parts_at}
use Rattle.peaks.proofs.RunPeakLaws.{from_nothing, sheet-peaks}
use Rattle.peaks.proofs.running.run_sheet_peaks.Goals as goal
use Rattle.peaks.proofs.running.run_sheet_peaks.Goals.{Start}

-- what the rooms hold
abbrev held : Start → Rooms
held c = rooms c.args.marks.now c.args.beds.now c.args.roughness.now c.args.rates.now c.args.depths.now c.args.rain.now c.args.inflow.now

-- a room is as long as before once its first part has been written anew
kept : (n : ℕ) (room part : List ℕ) → length part ≡ length (take n room) → length (part ++ drop n room) ≡ length room
kept n room part e =
    omega (arith, e, length-append part (drop n room), length-append (take n room) (drop n room), ap length (take-append-drop n room))

pub squares_of-squares-requires : goal.squares_of-squares-requires
squares_of-squares-requires c = c.requires.holds.shape

pub record_size-size-requires : goal.record_size-size-requires
record_size-size-requires c = c.requires.holds.shape

pub overflow_mul-rain_end : goal.overflow_mul-rain_end
overflow_mul-rain_end c = omega (arith, c.requires.holds.rain_few)

pub overflow_mul-inflow_end : goal.overflow_mul-inflow_end
overflow_mul-inflow_end c = omega (arith, c.requires.holds.inflow_few)

pub slice_bounds-run_peaks-end : goal.slice_bounds-run_peaks-end
slice_bounds-run_peaks-end c = part_long _ (omega (arith, c.requires.holds.marks_long, c.squares_of-squares.ensures, c.requires.holds.few))

pub slice_bounds-run_peaks-end-2 : goal.slice_bounds-run_peaks-end-2
slice_bounds-run_peaks-end-2 c =
    let at-squares-of = c.squares_of-squares in
    part_long _ (omega (arith, c.requires.holds.beds_long, at-squares-of.ensures, c.requires.holds.few))

pub slice_bounds-run_peaks-end-3 : goal.slice_bounds-run_peaks-end-3
slice_bounds-run_peaks-end-3 c =
    let at-squares-of = c.squares_of-squares in
    part_long _ (omega (arith, c.requires.holds.roughness_long, at-squares-of.ensures, c.requires.holds.few))

pub slice_bounds-run_peaks-end-4 : goal.slice_bounds-run_peaks-end-4
slice_bounds-run_peaks-end-4 c =
    let at-squares-of = c.squares_of-squares in
    part_long _ (omega (arith, c.requires.holds.rates_long, at-squares-of.ensures, c.requires.holds.few))

pub slice_bounds-run_peaks-end-5 : goal.slice_bounds-run_peaks-end-5
slice_bounds-run_peaks-end-5 c = part_long _ (omega (arith, c.requires.holds.rain_few, c.requires.holds.rain_long))

pub slice_bounds-run_peaks-end-6 : goal.slice_bounds-run_peaks-end-6
slice_bounds-run_peaks-end-6 c = part_long _ (omega (arith, c.requires.holds.inflow_few, c.requires.holds.inflow_long))

pub slice_bounds-run_peaks-end-7 : goal.slice_bounds-run_peaks-end-7
slice_bounds-run_peaks-end-7 c =
    let at-squares-of = c.squares_of-squares in
    omega (arith, c.requires.holds.depths_long, at-squares-of.ensures, c.requires.holds.few)

pub slice_bounds-run_peaks-end-8 : goal.slice_bounds-run_peaks-end-8
slice_bounds-run_peaks-end-8 c =
    let at-squares-of = c.squares_of-squares in
    part_long _ (omega (arith, c.requires.holds.depths_long, at-squares-of.ensures, c.requires.holds.few))

pub slice_bounds-lasts-end : goal.slice_bounds-lasts-end
slice_bounds-lasts-end c =
    let at-squares-of = c.squares_of-squares in
    omega (arith, at-squares-of.ensures, c.requires.holds.few)

pub slice_bounds-run_peaks-end-9 : goal.slice_bounds-run_peaks-end-9
slice_bounds-run_peaks-end-9 c =
    let at-squares-of = c.squares_of-squares in
    taken_long {size = program_squares} _ (omega (arith, at-squares-of.ensures, c.requires.holds.few)) refl

pub slice_bounds-records-end : goal.slice_bounds-records-end
slice_bounds-records-end c =
    let at-record-size = c.record_size-size in
    omega (arith, at-record-size.ensures, c.requires.holds.few)

pub slice_bounds-run_peaks-end-10 : goal.slice_bounds-run_peaks-end-10
slice_bounds-run_peaks-end-10 c =
    let at-record-size = c.record_size-size in
    taken_long {size = head_words + square_words * program_squares} _ (omega (arith, at-record-size.ensures, c.requires.holds.few)) refl

pub slice_bounds-run_peaks-end-11 : goal.slice_bounds-run_peaks-end-11
slice_bounds-run_peaks-end-11 c =
    let at-squares-of = c.squares_of-squares in
    omega (arith, c.requires.peaks_len.0, at-squares-of.ensures, c.requires.holds.few)

pub slice_bounds-run_peaks-end-12 : goal.slice_bounds-run_peaks-end-12
slice_bounds-run_peaks-end-12 c =
    let at-squares-of = c.squares_of-squares in
    part_long _ (omega (arith, c.requires.peaks_len.0, at-squares-of.ensures, c.requires.holds.few))

pub slice_bounds-run_peaks-end-13 : goal.slice_bounds-run_peaks-end-13
slice_bounds-run_peaks-end-13 c =
    let at-squares-of = c.squares_of-squares in
    omega (arith, c.requires.peaks_len.1, at-squares-of.ensures, c.requires.holds.few)

pub slice_bounds-run_peaks-end-14 : goal.slice_bounds-run_peaks-end-14
slice_bounds-run_peaks-end-14 c =
    let at-squares-of =
    c.squares_of-squares in
    part_long _ (omega (arith, c.requires.peaks_len.1, at-squares-of.ensures, c.requires.holds.few))

pub returns : goal.returns
returns c =
    let at-fresh-run =
    c.fresh_run-run in
    let at-squares-of =
    c.squares_of-squares in
    let at-record-size =
    c.record_size-size in
    let at-run-peaks = c.run_peaks in
    let s = (goal.at.returns c).Start in
    let h = s.requires.holds in
    let n = at-squares-of.ensures in
    let m = at-record-size.ensures in
    let long : (room : List ℕ) → length room ≡ program_squares → length (take at-squares-of.result room) ≡ at-squares-of.result = λ room e. sym (part_long room (omega (arith, e, n, h.few))) in
    sheet-peaks s.args.heading (held s) h s.args.peaks.now s.args.clocks.now s.requires.peaks_len.0 s.requires.peaks_len.1 n
    (from_nothing s.args.heading (parts_at at-squares-of.result s.args.heading (held s)) _ _ h.shape (long _ s.requires.peaks_len.0 ∙ n)
    (long _ s.requires.peaks_len.1 ∙ n) (parts_pass {held = held s} h n) (zeros_are _ _ n h.few) (zeros_are _ _ m (record-in h))
    at-fresh-run.ensures at-run-peaks.ensures)
    (kept _ _ _ c.run_peaks.auto.peaks) (kept _ _ _ c.run_peaks.auto.clocks)
