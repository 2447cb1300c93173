-- `flood::run::run_kept` meets its contract: where the loop has come to, the run from there is the whole run, and each step so far is kept.
-- Assumes nothing.
use mathlib.Core.Path.{refl, sym, ◌∙◌}
use Prim.Native.Nat.{ℕ, ◌≤◌}
use native.Mathlib.Omega.{arith}
use lib.ListN.{length-replicate}
use Rattle.grid.specs.Squares.{most_along, most_squares}
use Rattle.flood.proofs.StepLaws.{passed_fine, part, refilled}
use Rattle.flood.proofs.KeptLaws.{keeping_starts, keeping_ends, keeping_refused, keeping_on, further, lies, clock_low}
use Rattle.flood.proofs.run.run_kept.Given.{Over}
use Rattle.flood.proofs.run.run_kept.Goals as goal
use Rattle.flood.proofs.run.run_kept.Goals.{In-loop-at}

squares_fit : (g : Over) (c : In-loop-at g) → c.squares_of-squares.result ≤ most_squares
squares_fit g c = omega (arith, c.squares_of-squares.ensures, (passed_fine c.requires.passes).few)

rows_fit : (g : Over) (c : In-loop-at g) → c.args.way.shape.rows ≤ most_along
rows_fit g c = (passed_fine c.requires.passes).rows_high

pub squares_of-squares-requires : goal.squares_of-squares-requires
squares_of-squares-requires g c = passed_fine c.requires.passes

pub loop-at-init : goal.loop-at-init
loop-at-init g c = (
  keeping_starts c.requires.passes.checked c.requires.kept_fits,
  refl,
  refl,
  refl,
  length-replicate {A = ℕ} most_squares 0,
  length-replicate {A = ℕ} most_along 0,
  length-replicate {A = ℕ} most_along 0,
  length-replicate {A = ℕ} most_squares 0,
)

pub slice_bounds-left-end : goal.slice_bounds-left-end
slice_bounds-left-end g c = omega (arith, squares_fit g (goal.at.slice_bounds-left-end g c).In-loop-at, c.loop-at.invariant.4)

pub slice_bounds-step_on-end : goal.slice_bounds-step_on-end
slice_bounds-step_on-end g c = sym (part c.loop-at.left c.loop-at.invariant.4 (squares_fit g (goal.at.slice_bounds-step_on-end g c).In-loop-at))

pub slice_bounds-worked-end : goal.slice_bounds-worked-end
slice_bounds-worked-end g c = omega (arith, rows_fit g (goal.at.slice_bounds-worked-end g c).In-loop-at, c.loop-at.invariant.5)

pub slice_bounds-step_on-end-in-loop-at : goal.slice_bounds-step_on-end-in-loop-at
slice_bounds-step_on-end-in-loop-at g c = sym (part c.loop-at.worked c.loop-at.invariant.5 (rows_fit g (goal.at.slice_bounds-step_on-end-in-loop-at g c).In-loop-at))

pub slice_bounds-senders-end : goal.slice_bounds-senders-end
slice_bounds-senders-end g c = omega (arith, rows_fit g (goal.at.slice_bounds-senders-end g c).In-loop-at, c.loop-at.invariant.6)

pub slice_bounds-step_on-end-in-loop-at-2 : goal.slice_bounds-step_on-end-in-loop-at-2
slice_bounds-step_on-end-in-loop-at-2 g c = sym (part c.loop-at.senders c.loop-at.invariant.6 (rows_fit g (goal.at.slice_bounds-step_on-end-in-loop-at-2 g c).In-loop-at))

pub slice_bounds-room-end : goal.slice_bounds-room-end
slice_bounds-room-end g c = omega (arith, squares_fit g (goal.at.slice_bounds-room-end g c).In-loop-at, c.loop-at.invariant.7)

pub slice_bounds-step_on-end-in-loop-at-3 : goal.slice_bounds-step_on-end-in-loop-at-3
slice_bounds-step_on-end-in-loop-at-3 g c = sym (part c.loop-at.room c.loop-at.invariant.7 (squares_fit g (goal.at.slice_bounds-step_on-end-in-loop-at-3 g c).In-loop-at))

pub step_on-made-requires : goal.step_on-made-requires
step_on-made-requires g c =
    let inv = c.loop-at.invariant in
    let many = c.squares_of-squares.ensures in
    let at = (goal.at.step_on-made-requires g c).In-loop-at in
    record {
      passes = record { checked = inv.0.running.valid };
      rooms_lent = (
        record {
          left_long = part c.loop-at.left inv.4 (squares_fit g at) ∙ many;
          worked_long = part c.loop-at.worked inv.5 (rows_fit g at);
          senders_long = part c.loop-at.senders inv.6 (rows_fit g at);
          room_long = part c.loop-at.room inv.7 (squares_fit g at) ∙ many;
        },
        c.requires.apart_value.0,
      );
    }

pub returns-then-refused-ne0 : goal.returns-then-refused-ne0
returns-then-refused-ne0 g c = keeping_refused c.loop-at.invariant.0 c.loop-at-test.true c.step_on-made.ensures c.if-refused-ne0.true

pub keep-requires : goal.keep-requires
keep-requires g c =
    let r = c.loop-at.invariant.0 in
    let test = c.loop-at-test.true in
    let made = c.step_on-made.ensures in
    let z = c.if-refused-ne0.false in
    record {
      lies = lies r test made z;
      fits = (r.fits_now, further r test made z, clock_low r test made z);
    }

pub overflow_add-steps : goal.overflow_add-steps
overflow_add-steps g c = omega (arith, c.loop-at.invariant.0.running.few, c.requires.apart_value.1, c.loop-at-test.true)

pub loop-at-smaller : goal.loop-at-smaller
loop-at-smaller g c =
    omega (arith, further c.loop-at.invariant.0 c.loop-at-test.true c.step_on-made.ensures c.if-refused-ne0.false, c.loop-at-test.true)

pub loop-at-preserved : goal.loop-at-preserved
loop-at-preserved g c =
    let inv = c.loop-at.invariant in
    let at = (goal.at.loop-at-preserved g c).In-loop-at in
    let last = c.step_on-made.new in
    let long = c.step_on-made.auto in (
      keeping_on inv.0 c.loop-at-test.true c.step_on-made.ensures c.if-refused-ne0.false c.keep.ensures.keeps c.keep.ensures.fits,
      long.depths ∙ inv.1,
      long.lasts ∙ inv.2,
      long.records ∙ inv.3,
      refilled last.left c.loop-at.left long.left inv.4 (squares_fit g at),
      refilled last.worked c.loop-at.worked long.worked inv.5 (rows_fit g at),
      refilled last.senders c.loop-at.senders long.senders inv.6 (rows_fit g at),
      refilled last.room c.loop-at.room long.room inv.7 (squares_fit g at),
    )

pub shape_of-depths : goal.shape_of-depths
shape_of-depths g c = c.loop-at.invariant.1

pub shape_of-lasts : goal.shape_of-lasts
shape_of-lasts g c = c.loop-at.invariant.2

pub shape_of-records : goal.shape_of-records
shape_of-records g c = c.loop-at.invariant.3

pub returns : goal.returns
returns g c = keeping_ends c.loop-at.invariant.0 c.loop-at-test.false
