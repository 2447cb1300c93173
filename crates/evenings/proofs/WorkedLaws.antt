-- The cases of what is printed, by computation.
-- Assumes nothing.
use mathlib.Core.Path.{refl}
use Rattle.reckon.specs.Tests.{pick, all_below}
use Rattle.reckon.specs.Lists.{joined}
use Rattle.grid.specs.Marks.{closed}
use Rattle.text.specs.Bytes.{bytes_of}
use Rattle.text.specs.Writing.{digits_in, decimal, field_text, fields_text, rest_text, line_text}
use Rattle.answer.specs.Printed.{refused_text, cell_text, cells_text, totals_text, made_text}
use Rattle.evenings.specs.Shown.{is_shown, entry_text}
use Rattle.evenings.specs.Worked.{ShownCases}

pub shown_cases : ShownCases
unfolding pick joined closed digits_in decimal field_text fields_text rest_text line_text refused_text cell_text cells_text made_text totals_text is_shown entry_text bytes_of all_below
shown_cases = record { printed = refl; at_clock = refl; silent = refl; refused-line = refl; refused_none = refl }
