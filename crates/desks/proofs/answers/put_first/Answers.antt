use native.Mathlib.Omega.{arith}
use lib.ListN.{get_or}
use mir.Syntax.{w32}
use mir.Val.{Fits}
use Rattle.frames.proofs.FrameLaws.{FrameWords, frame_short}
use borrow.Author.Rules.{rules}
use Rattle.desks.proofs.answers.put_first.Goals as goal

-- src/answers.rt:50:5
pub put_frame-requires : goal.put_frame-requires
put_frame-requires c =
    let a = c.args in
    let w : FrameWords a.figures a.litres a.depths.now =
    record {
      steps_are = omega (arith, c.well_formed);
      clock_is = omega (arith, c.well_formed);
      length_is = omega (arith, c.well_formed);
      outflow_is = omega (arith, c.well_formed);
      soaked_is = omega (arith, c.well_formed);
      kept_are = omega (arith, c.well_formed);
      room_is = omega (arith, c.well_formed);
      ground_is = omega (arith, c.well_formed);
      start_is = omega (arith, c.well_formed);
      given_is = omega (arith, c.well_formed);
      litres_are = λ i. let f : Fits w32 (get_or a.litres i 0) = search rules in omega (arith, f);
      depths_are = λ i. omega (arith, c.type_inv.depths i);
    } in record {
      shape_in_range = (c.requires.fine, omega (arith, c.requires.marks_long), omega (arith, c.requires.depths_long));
      depths_in_bounds = omega (arith, frame_short a.figures a.litres a.shape a.marks.now a.depths.now c.requires.fine w, c.requires.out_long);
    }

-- src/answers.rt:39:1
pub returns : goal.returns
returns c =
    let a = c.args in
    let w : FrameWords a.figures a.litres a.depths.now =
    record {
      steps_are = omega (arith, c.well_formed);
      clock_is = omega (arith, c.well_formed);
      length_is = omega (arith, c.well_formed);
      outflow_is = omega (arith, c.well_formed);
      soaked_is = omega (arith, c.well_formed);
      kept_are = omega (arith, c.well_formed);
      room_is = omega (arith, c.well_formed);
      ground_is = omega (arith, c.well_formed);
      start_is = omega (arith, c.well_formed);
      given_is = omega (arith, c.well_formed);
      litres_are = λ i. let f : Fits w32 (get_or a.litres i 0) = search rules in omega (arith, f);
      depths_are = λ i. omega (arith, c.type_inv.depths i);
    } in
    record { wrote = c.put_frame.ensures; short = frame_short a.figures a.litres a.shape a.marks.now a.depths.now c.requires.fine w }
