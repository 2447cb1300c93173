-- `text::writing::put_line` meets its contract: the word, the fields and the newline, one after the other.
-- Assumes nothing.
use native.Mathlib.Omega.{arith}
use Rattle.text.proofs.WritingLaws.{line_text_long, wrote_line}
use Rattle.text.proofs.writing.put_line.Goals as goal

pub put_word-start-requires : goal.put_word-start-requires
put_word-start-requires c =
    let a = c.args in
    omega (arith, c.requires, line_text_long a.word.now a.values.now)

pub put_fields-end-requires : goal.put_fields-end-requires
put_fields-end-requires c =
    let a = c.args in
    omega (
      arith,
      c.requires,
      line_text_long a.word.now
          a.values.now,
      c.put_word-start.ensures.next,
      c.put_word-start.auto.room,
    )

pub put_byte-requires : goal.put_byte-requires
put_byte-requires c =
    let a = c.args in
    omega (
      arith,
      c.requires,
      line_text_long a.word.now a.values.now,
      c.put_word-start.ensures.next,
      c.put_word-start.auto.room,
      c.put_fields-end.ensures.next,
      c.put_fields-end.auto.room,
    )

pub returns : goal.returns
returns c =
    wrote_line c.args.values.now c.requires
    c.put_word-start.ensures
    c.put_fields-end.ensures c.put_byte.ensures
