-- The cases of the highest water, by computation.
-- Assumes nothing.
use mathlib.Core.Path.{refl}
use Rattle.reckon.specs.Tests.{pick}
use Rattle.reckon.specs.Lists.{joined}
use Rattle.reckon.specs.Most.{most_over, first_most}
use Rattle.grid.specs.Marks.{closed}
use Rattle.text.specs.Bytes.{bytes_of}
use Rattle.text.specs.Writing.{digits_in, decimal, field_text, fields_text, rest_text, line_text}
use Rattle.answer.specs.Printed.{totals_text}
use Rattle.peaks.specs.Highest.{high_text, highs_text, high_world_text}
use Rattle.peaks.specs.Worked.{PeakCases}

pub peak_cases : PeakCases
unfolding pick joined most_over first_most closed digits_in decimal field_text fields_text rest_text line_text totals_text high_text highs_text high_world_text bytes_of
peak_cases = record { deepest = refl; first_deepest = refl; starting_state = refl; square = refl; closed-square = refl; whole = refl }
