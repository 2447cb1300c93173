-- `text::writing::put_fields` meets its contract: what is left, put from here on, makes the whole.
-- Assumes nothing.
use Prim.Native.Nat.{◌+◌}
use native.Mathlib.Omega.{arith}
use lib.ListN.{get_or, drop}
use Rattle.text.specs.Writing.{field_text, fields_text}
use Rattle.text.proofs.WritingLaws.{left_fits, left_step, left_none, fields_text_more, fields_text_end}
use Rattle.text.proofs.writing.put_fields.Goals as goal

pub put_field-next-requires : goal.put_field-next-requires
put_field-next-requires c =
    let a = c.args in
    let l = c.loop-value in
    omega (
      arith,
      left_fits (field_text (get_or a.values.now l.value-index 0)) (fields_text (drop (l.value-index + 1) a.values.now))
          (rw (fields_text_more a.values.now l.value-index (omega arith)) at l.invariant),
    )

pub loop-value-preserved : goal.loop-value-preserved
loop-value-preserved c =
    let a = c.args in
    let l = c.loop-value in
    left_step (rw (fields_text_more a.values.now l.value-index (omega arith)) at l.invariant) c.put_field-next.ensures

pub returns : goal.returns
returns c =
    let a = c.args in
    let l = c.loop-value in
    left_none (rw (fields_text_end a.values.now l.value-index (omega arith)) at l.invariant)
