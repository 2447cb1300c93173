use native.Mathlib.Omega.{arith}
use Rattle.ledger.specs.Runs.{plan}
use Rattle.stands.specs.Texts.{most_stand}
use Rattle.desks.proofs.OtherLaws.{ending_fits, text_told, stand-told}
use Rattle.desks.proofs.lines.stand_line.Goals as goal

-- src/lines.rt:397:9
pub put_stand-at-requires : goal.put_stand-at-requires
put_stand-at-requires c =
    let s = c.requires.0 in record {
      shape_in_range = (s.fine, omega (arith, s.marks_long), omega (arith, s.depths_long), omega (arith, c.requires.1));
      most_stand_in_bounds = omega (arith, s.out_long);
    }

-- src/lines.rt:398:9
pub put_ending-length-requires : goal.put_ending-length-requires
put_ending-length-requires c =
    ending_fits most_stand c.put_stand-at.ensures.wrote c.put_stand-at.ensures.short
    c.requires.0.out_long (omega arith)

-- src/lines.rt:385:1
pub returns : goal.returns
returns c =
    let a = c.args in
    λ k b. stand-told (plan a.desk.heading.shape a.marks.now) a.depths.now a.lasts.now k b
    (text_told most_stand c.put_stand-at.ensures.wrote c.put_stand-at.ensures.short c.requires.0.out_long (omega arith)
    c.put_ending-length.ensures c.desk_still.ensures)
