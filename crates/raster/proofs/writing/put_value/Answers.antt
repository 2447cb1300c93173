-- `raster::writing::put_value` meets its contract: `-9999` where the square is closed, else its number.
-- Assumes nothing.
use mathlib.Core.Path.{sym, ◌∙◌}
use lib.ListN.{length}
use Rattle.text.specs.Bytes.{bytes_of}
use Rattle.text.proofs.WritingLaws.{written_as}
use Rattle.raster.proofs.PutLaws.{fits_as, value_closed, value_open}
use Rattle.raster.proofs.writing.put_value.Goals as goal

pub put_word-requires : goal.put_word-requires
unfolding bytes_of
put_word-requires c =
    let a = c.args in
    fits_as a.at (length a.room.now)
    (value_closed a.scale a.marks.now a.values.now a.square (sym c.is_closed.ensures ∙ c.if-is_closed.true))
    c.requires.square_in_bounds_2

pub returns-then-is_closed : goal.returns-then-is_closed
unfolding bytes_of
returns-then-is_closed c =
    let a = c.args in
    written_as (value_closed a.scale a.marks.now a.values.now a.square (sym c.is_closed.ensures ∙ c.if-is_closed.true))
    c.put_word.ensures

pub number-requires : goal.number-requires
number-requires c = c.requires.square_in_bounds.1

pub put_amount-requires : goal.put_amount-requires
put_amount-requires c =
    let a = c.args in
    fits_as a.at (length a.room.now)
    (value_open a.scale a.marks.now a.values.now a.square (sym c.is_closed.ensures ∙ c.if-is_closed.false)
    c.number.ensures)
    c.requires.square_in_bounds_2

pub returns : goal.returns
returns c =
    let a = c.args in
    written_as
    (value_open a.scale a.marks.now a.values.now a.square (sym c.is_closed.ensures ∙ c.if-is_closed.false)
    c.number.ensures)
    c.put_amount.ensures
