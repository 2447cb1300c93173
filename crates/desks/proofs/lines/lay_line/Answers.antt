use mathlib.Core.Path.{◌∙◌}
use native.Mathlib.Omega.{arith}
use Rattle.ledger.specs.Runs.{plan}
use Rattle.desks.proofs.OtherLaws.{slots_some, lay_uncounted, lay_too_long, lay_refused, lay_laid}
use Rattle.desks.proofs.lines.lay_line.Goals as goal

-- src/lines.rt:432:9
pub returns-then-text-bytes : goal.returns-then-text-bytes
returns-then-text-bytes c =
    let a = c.args in
    λ k b.
    lay_uncounted (plan a.desk.heading.shape a.marks.now) a.depths.now a.lasts.now k b a.inflow.now a.text.now a.bytes
    a.desk c.if-text-bytes.true c.refuse_line.ensures

-- src/lines.rt:435:9
pub returns-then-text-gt-DESK_TEXT : goal.returns-then-text-gt-DESK_TEXT
returns-then-text-gt-DESK_TEXT c =
    let a = c.args in
    λ k b.
    lay_too_long (plan a.desk.heading.shape a.marks.now) a.depths.now a.lasts.now k b a.inflow.now a.text.now a.bytes
    a.desk c.if-text-gt-DESK_TEXT.true c.refuse_line-then-text-gt-DESK_TEXT.ensures

-- src/lines.rt:440:9
pub read_stand-laid-requires : goal.read_stand-laid-requires
read_stand-laid-requires c =
    let s = c.requires.0 in (
      s.fine,
      omega (arith, s.marks_long),
      omega (arith, s.depths_long),
      omega (arith, c.requires.1),
      slots_some c.args.desk.heading.shape s.fine c.kept_slots-slots.ensures,
    )

-- src/lines.rt:442:9
pub refuse_line-requires-then-laid-ne0 : goal.refuse_line-requires-then-laid-ne0
refuse_line-requires-then-laid-ne0 c = omega (arith, c.requires.0.out_long)

-- src/lines.rt:442:9
pub returns-then-laid-ne0 : goal.returns-then-laid-ne0
returns-then-laid-ne0 c =
    let a = c.args in
    λ k b.
    lay_refused (plan a.desk.heading.shape a.marks.now) a.depths.now a.lasts.now k b a.inflow.now a.text.now a.bytes
    a.desk c.if-text-bytes.false c.if-text-gt-DESK_TEXT.false c.kept_slots-slots.ensures c.read_stand-laid.ensures c.if-laid-ne0.true
    c.refuse_line-then-laid-ne0.ensures

-- src/lines.rt:445:5
pub laid_line-requires : goal.laid_line-requires
laid_line-requires c =
    let s = c.requires.0 in
    record { fine = s.fine; marks_long = s.marks_long; depths_long = c.read_stand-laid.auto.depths ∙ s.depths_long; out_long = s.out_long }

-- src/lines.rt:418:1
pub returns : goal.returns
returns c =
    let a = c.args in
    λ k b.
    lay_laid (plan a.desk.heading.shape a.marks.now) a.depths.now a.lasts.now k b a.inflow.now a.text.now a.bytes
    a.desk c.if-text-bytes.false c.if-text-gt-DESK_TEXT.false c.kept_slots-slots.ensures c.read_stand-laid.ensures c.if-laid-ne0.false
    c.laid_line.ensures
