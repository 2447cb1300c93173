-- `files::can_write` meets its contract: a line lies in the names, and without its newline it names no file.
-- Assumes nothing.
use Rattle.files.proofs.FileLaws.{line_forth, line_inside}
use Rattle.files.proofs.can_write.Goals as goal

pub slice_bounds-can_open-count : goal.slice_bounds-can_open-count
slice_bounds-can_open-count g c = line_forth _ _ c.nth_line-line.ensures

pub slice_bounds-can_open-start : goal.slice_bounds-can_open-start
slice_bounds-can_open-start g c = line_forth _ _ c.nth_line-line.ensures

pub slice_bounds-can_open-end : goal.slice_bounds-can_open-end
slice_bounds-can_open-end g c = line_inside _ _ c.nth_line-line.ensures
