-- `survey::texts::put_ground` meets its contract: its numbers, and the end of the line.
-- Assumes nothing.
use Rattle.survey.proofs.PutLaws.{ground_fits, end_fits, ground_put}
use Rattle.survey.proofs.texts.put_ground.Goals as goal

pub put_fields-end-requires : goal.put_fields-end-requires
put_fields-end-requires c =
    ground_fits c.number.ensures c.number-2.ensures c.number-3.ensures c.number-4.ensures
    c.args.at c.args.out.now c.requires.square_in_bounds_2

pub put_byte-requires : goal.put_byte-requires
put_byte-requires c =
    end_fits c.number.ensures c.number-2.ensures c.number-3.ensures c.number-4.ensures c.args.at
    c.args.out.now c.requires.square_in_bounds_2
    c.put_fields-end.ensures

pub returns : goal.returns
returns c =
    ground_put c.number.ensures c.number-2.ensures c.number-3.ensures c.number-4.ensures
    c.args.at c.args.out.now c.requires.square_in_bounds_2
    c.put_fields-end.ensures c.put_byte.ensures
