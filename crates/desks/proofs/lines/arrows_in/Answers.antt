use native.Mathlib.Omega.{arith}
use Rattle.ledger.specs.Runs.{plan}
use Rattle.sight.specs.AllArrows.{sights}
use Rattle.desks.proofs.OtherLaws.{ending_fits, text_told, most_arrows, seen-short, arrows_refused, arrows_shown}
use Rattle.desks.proofs.lines.arrows_in.Goals as goal

-- src/lines.rt:358:9
pub returns-then-number-ne0 : goal.returns-then-number-ne0
returns-then-number-ne0 c =
    let a = c.args in
    λ l b.
    arrows_refused (plan a.desk.heading.shape a.marks.now) a.desk a.depths.now l a.records.now b c.all_arrows-number.ensures
    c.requires.0.marks_long c.requires.1 c.requires.2 c.requires.3 c.if-number-ne0.true
    c.refuse_line.ensures

-- src/lines.rt:360:9
pub put_arrows-at-requires : goal.put_arrows-at-requires
put_arrows-at-requires c = record {
  shape_in_range = (c.requires.0.fine, omega (arith, c.all_arrows-number.auto.kinds, c.requires.1), omega (arith, c.all_arrows-number.auto.east, c.requires.2), omega (arith, c.all_arrows-number.auto.north, c.requires.3));
  north_in_bounds = omega (arith, (seen-short c.args.desk.heading.shape c.requires.0.fine (sights c.all_arrows-number.new.kinds c.all_arrows-number.new.east c.all_arrows-number.new.north) (record { east_fits = c.slice_known-6-1.given; north_fits = c.slice_known-7-1.given })), c.requires.0.out_long);
}

-- src/lines.rt:361:9
pub put_ending-length-requires : goal.put_ending-length-requires
put_ending-length-requires c =
    ending_fits most_arrows c.put_arrows-at.ensures
    (seen-short c.args.desk.heading.shape c.requires.0.fine
    (sights c.all_arrows-number.new.kinds c.all_arrows-number.new.east
    c.all_arrows-number.new.north) (record { east_fits = c.slice_known-6-1.given; north_fits = c.slice_known-7-1.given }))
    c.requires.0.out_long (omega arith)

-- src/lines.rt:329:1
pub shape_of-kinds : goal.shape_of-kinds
shape_of-kinds c = c.all_arrows-number.auto.kinds

-- src/lines.rt:329:1
pub shape_of-east : goal.shape_of-east
shape_of-east c = c.all_arrows-number.auto.east

-- src/lines.rt:329:1
pub shape_of-north : goal.shape_of-north
shape_of-north c = c.all_arrows-number.auto.north

-- src/lines.rt:329:1
pub returns : goal.returns
returns c =
    let a = c.args in
    λ l b. arrows_shown (plan a.desk.heading.shape a.marks.now) a.desk a.depths.now l a.records.now b c.all_arrows-number.ensures
    c.requires.0.marks_long c.requires.1 c.requires.2 c.requires.3 c.if-number-ne0.false
    (text_told most_arrows c.put_arrows-at.ensures
    (seen-short a.desk.heading.shape c.requires.0.fine
    (sights c.all_arrows-number.new.kinds c.all_arrows-number.new.east
    c.all_arrows-number.new.north) (record { east_fits = c.slice_known-6-1.given; north_fits = c.slice_known-7-1.given }))
    c.requires.0.out_long (omega arith) c.put_ending-length.ensures c.desk_still.ensures)
