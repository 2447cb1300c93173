-- `files::write_named` meets its contract: a line lies in the names, and without its newline it names no file.
-- Assumes nothing.
use Rattle.files.proofs.FileLaws.{line_forth, line_inside}
use Rattle.files.proofs.write_named.Goals as goal

pub slice_bounds-write_file-count : goal.slice_bounds-write_file-count
slice_bounds-write_file-count g c = line_forth _ _ c.nth_line-line.ensures

pub slice_bounds-write_file-start : goal.slice_bounds-write_file-start
slice_bounds-write_file-start g c = line_forth _ _ c.nth_line-line.ensures

pub slice_bounds-write_file-end : goal.slice_bounds-write_file-end
slice_bounds-write_file-end g c = line_inside _ _ c.nth_line-line.ensures
