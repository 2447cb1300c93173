-- `raster::writing::put_head_line` meets its contract: the word, a space, the number and a newline, one after the other.
-- Assumes nothing.
use Rattle.text.specs.Writing.{decimal}
use Rattle.raster.proofs.PutLaws.{word_fits, space_fits, value_fits, newline_fits, line-put}
use Rattle.raster.proofs.writing.put_head_line.Goals as goal

pub put_word-a-requires : goal.put_word-a-requires
put_word-a-requires c =
    let a = c.args in
    word_fits a.word.now (decimal a.n) a.at a.room.now c.requires

pub put_byte-b-requires : goal.put_byte-b-requires
put_byte-b-requires c =
    let a = c.args in
    space_fits a.word.now (decimal a.n) a.at a.room.now c.requires c.put_word-a.ensures

pub put_number-c-requires : goal.put_number-c-requires
put_number-c-requires c =
    let a = c.args in
    value_fits a.word.now (decimal a.n) a.at a.room.now c.requires c.put_word-a.ensures c.put_byte-b.ensures

pub put_byte-requires : goal.put_byte-requires
put_byte-requires c =
    let a = c.args in
    newline_fits a.word.now (decimal a.n) a.at a.room.now c.requires c.put_word-a.ensures
    c.put_byte-b.ensures c.put_number-c.ensures

pub returns : goal.returns
returns c =
    let a = c.args in
    line-put a.word.now (decimal a.n) a.at a.room.now c.requires c.put_word-a.ensures c.put_byte-b.ensures
    c.put_number-c.ensures
    c.put_byte.ensures
