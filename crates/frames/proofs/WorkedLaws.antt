-- The cases of what the desk prints, by computation.
-- Assumes nothing.
use mathlib.Core.Path.{refl}
use lib.Ieee as Ieee
use Rattle.reckon.specs.Tests.{pick}
use Rattle.reckon.specs.Lists.{tabulate, joined}
use Rattle.grid.specs.Marks.{closed}
use Rattle.text.specs.Bytes.{bytes_of}
use Rattle.text.specs.Writing.{digits_in, decimal, field_text, fields_text, rest_text, line_text}
use Rattle.frames.specs.Arrows.{bits_of, arrow_text, arrows_text}
use Rattle.frames.specs.Bounds.{bounds_text}
use Rattle.frames.specs.Frame.{figures_text, rates_text, square_text, row_text, rows_text, frame_text}
use Rattle.frames.specs.Worked.{FrameCases}

pub frame_cases : FrameCases
unfolding pick tabulate joined closed bytes_of digits_in decimal field_text fields_text rest_text line_text figures_text rates_text square_text row_text rows_text frame_text bounds_text bits_of arrow_text arrows_text Ieee.is_nan Ieee.to_bits
frame_cases =
    record {
      a_frame = refl;
      some_bounds = refl;
      no_bounds = refl;
      refused_bounds = refl;
      some_arrows = refl;
      no_number = refl;
    }
