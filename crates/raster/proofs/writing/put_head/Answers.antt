-- `raster::writing::put_head` meets its contract: its six lines, one after the other.
-- Assumes nothing.
use Rattle.text.specs.Bytes.{bytes_of}
use Rattle.raster.specs.Raster.{head_line_text}
use Rattle.raster.proofs.PutLaws.{first_fits, second_fits, third_fits, fourth_fits, fifth_fits, sixth_fits, head_put}
use Rattle.raster.proofs.writing.put_head.Goals as goal

pub put_head_line-a-requires : goal.put_head_line-a-requires
unfolding bytes_of
put_head_line-a-requires c =
    let a = c.args in
    first_fits a.shape a.side a.at a.room.now c.requires

pub put_head_line-b-requires : goal.put_head_line-b-requires
unfolding bytes_of
put_head_line-b-requires c =
    let a = c.args in
    second_fits a.shape a.side a.at a.room.now c.requires
    c.put_head_line-a.ensures

pub put_head_line-c-requires : goal.put_head_line-c-requires
unfolding bytes_of
put_head_line-c-requires c =
    let a = c.args in
    third_fits a.shape a.side a.at a.room.now c.requires
    c.put_head_line-a.ensures
    c.put_head_line-b.ensures

pub put_head_line-d-requires : goal.put_head_line-d-requires
unfolding bytes_of
put_head_line-d-requires c =
    let a = c.args in
    fourth_fits a.shape a.side a.at a.room.now c.requires
    c.put_head_line-a.ensures
    c.put_head_line-b.ensures
    c.put_head_line-c.ensures

pub put_head_line-e-requires : goal.put_head_line-e-requires
unfolding bytes_of
put_head_line-e-requires c =
    let a = c.args in
    fifth_fits a.shape a.side a.at a.room.now c.requires
    c.put_head_line-a.ensures
    c.put_head_line-b.ensures
    c.put_head_line-c.ensures
    c.put_head_line-d.ensures

pub put_word-requires : goal.put_word-requires
unfolding head_line_text bytes_of
put_word-requires c =
    let a = c.args in
    sixth_fits a.shape a.side a.at a.room.now c.requires
    c.put_head_line-a.ensures
    c.put_head_line-b.ensures
    c.put_head_line-c.ensures
    c.put_head_line-d.ensures
    c.put_head_line-e.ensures

pub returns : goal.returns
unfolding head_line_text bytes_of
returns c =
    let a = c.args in
    head_put a.shape a.side a.at a.room.now c.requires
    c.put_head_line-a.ensures
    c.put_head_line-b.ensures
    c.put_head_line-c.ensures
    c.put_head_line-d.ensures
    c.put_head_line-e.ensures
    c.put_word.ensures
