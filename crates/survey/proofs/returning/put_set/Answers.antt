-- `survey::returning::put_set` meets its contract: the rooms hold what the set says, of its tables the rows that are looked at.
-- Assumes nothing.
use native.Mathlib.Omega.{arith}
use Rattle.sheet.proofs.ReadLaws.{plain_rain, plain_inflow}
use Rattle.survey.specs.Sets.{Set, five_files}
use Rattle.survey.proofs.SetLaws.{cells_inside}
use Rattle.survey.proofs.BackLaws.{shape_in, squares_in, rain_asked, inflow_asked, lies_by, moves_by}
use Rattle.survey.proofs.returning.put_set.Goals as goal
use Rattle.survey.proofs.returning.put_set.Goals.{Start}

abbrev files : Start → Set
files s = five_files s.args.note.now s.args.bed.now s.args.depth.now s.args.roughness.now s.args.rate.now

pub fill_marks-requires : goal.fill_marks-requires
fill_marks-requires c = (cells_inside c.requires.note_is.0, shape_in (files (goal.at.fill_marks-requires c).Start) c.requires.note_is.1 c.requires.note_is.0, squares_in (files (goal.at.fill_marks-requires c).Start) c.requires.note_is.1 c.requires.note_is.0)

pub fill_column-requires : goal.fill_column-requires
fill_column-requires c = (shape_in (files (goal.at.fill_column-requires c).Start) c.requires.note_is.1 c.requires.note_is.0, squares_in (files (goal.at.fill_column-requires c).Start) c.requires.note_is.1 c.requires.note_is.0)

pub fill_column-requires-2 : goal.fill_column-requires-2
fill_column-requires-2 c = (shape_in (files (goal.at.fill_column-requires-2 c).Start) c.requires.note_is.1 c.requires.note_is.0, squares_in (files (goal.at.fill_column-requires-2 c).Start) c.requires.note_is.1 c.requires.note_is.0)

pub fill_column-requires-3 : goal.fill_column-requires-3
fill_column-requires-3 c = (shape_in (files (goal.at.fill_column-requires-3 c).Start) c.requires.note_is.1 c.requires.note_is.0, squares_in (files (goal.at.fill_column-requires-3 c).Start) c.requires.note_is.1 c.requires.note_is.0)

pub fill_column-requires-4 : goal.fill_column-requires-4
fill_column-requires-4 c = (shape_in (files (goal.at.fill_column-requires-4 c).Start) c.requires.note_is.1 c.requires.note_is.0, squares_in (files (goal.at.fill_column-requires-4 c).Start) c.requires.note_is.1 c.requires.note_is.0)

pub fill_rows-requires : goal.fill_rows-requires
fill_rows-requires c = record {
  width_le_most_fields = (omega arith, plain_rain);
  count_bound = rain_asked (files (goal.at.fill_rows-requires c).Start) c.requires.note_is.1 c.requires.note_is.0 c.looked_heading-looked.ensures;
}

pub fill_rows-requires-2 : goal.fill_rows-requires-2
fill_rows-requires-2 c = record {
  width_le_most_fields = (omega arith, plain_inflow);
  count_bound = inflow_asked (files (goal.at.fill_rows-requires-2 c).Start) c.requires.note_is.1 c.requires.note_is.0 c.looked_heading-looked.ensures;
}

pub put_lying-requires : goal.put_lying-requires
put_lying-requires c = record {
  lies = lies_by (files (goal.at.put_lying-requires c).Start) c.requires.note_is.1 c.requires.note_is.0 c.looked_heading-looked.ensures c.fill_marks.ensures
      c.fill_column.ensures c.fill_column-2.ensures c.fill_column-3.ensures
      c.fill_column-4.ensures c.fill_rows.ensures c.fill_rows-2.ensures;
  most_file_in_bounds = c.requires.most_file_in_bounds;
}

pub returns : goal.returns
returns c =
    moves_by (files (goal.at.returns c).Start) c.requires.note_is.1 c.requires.note_is.0 c.looked_heading-looked.ensures c.fill_marks.ensures
    c.fill_column.ensures c.fill_column-2.ensures c.fill_column-3.ensures
    c.fill_column-4.ensures c.fill_rows.ensures c.fill_rows-2.ensures
    c.put_lying.ensures
