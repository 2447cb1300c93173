-- `text::writing::put_field` meets its contract: a tab, and then the number.
-- Assumes nothing.
use native.Mathlib.Omega.{arith}
use Rattle.text.specs.Writing.{field_text}
use Rattle.text.proofs.WritingLaws.{wrote_both}
use Rattle.text.proofs.writing.put_field.Goals as goal

pub put_byte-next-requires : goal.put_byte-next-requires
unfolding field_text
put_byte-next-requires c = omega (arith, c.requires)

pub put_number-requires : goal.put_number-requires
unfolding field_text
put_number-requires c =
    omega (
      arith,
      c.requires,
      c.put_byte-next.ensures.next,
      c.put_byte-next.auto.room,
    )

pub returns : goal.returns
unfolding field_text
returns c =
    wrote_both (omega (arith, c.requires))
    c.put_byte-next.ensures c.put_number.ensures
