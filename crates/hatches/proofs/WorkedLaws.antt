-- The log's cases, by computation.
-- Assumes nothing.
use mathlib.Core.Path.{refl}
use Rattle.reckon.specs.Tests.{pick, every, all_below, refusal}
use Rattle.reckon.specs.Lists.{joined}
use Rattle.trials.specs.Ring.{slot_before, slot_ago}
use Rattle.trials.specs.Room.{record_in}
use Rattle.grid.specs.Marks.{closed}
use Rattle.grid.specs.Squares.{shape_fine}
use Rattle.ledger.specs.Record.{room_slots}
use Rattle.ledger.specs.Checks.{one_each}
use Rattle.text.specs.Bytes.{bytes_of}
use Rattle.text.specs.Reading.{is_byte, word_at, is_digit, digits_of, value_from, well_formed, number_from, number_at, field_at, before, read_fields, line_ended, read_rest, read_line}
use Rattle.hatches.specs.Lines.{read_rate, log_line}
use Rattle.hatches.specs.Log.{is_named, hatch_row, hatch_rows, kept_records, line_fine, lent_fine, draw_fine, standing_fine, kept_fine, entry_refusals, rates_back}
use Rattle.hatches.specs.Worked.{LogCases}

pub log_cases : LogCases
unfolding pick every refusal joined slot_before slot_ago record_in closed shape_fine room_slots one_each is_byte word_at is_digit digits_of value_from well_formed number_from number_at field_at before read_fields line_ended read_rest read_line read_rate log_line is_named hatch_row hatch_rows kept_records line_fine lent_fine draw_fine standing_fine kept_fine entry_refusals rates_back bytes_of all_below
log_cases =
    record {
      a_hatch = refl;
      a_rate = refl;
      a_back = refl;
      no_newline = refl;
      a_space = refl;
      rows = refl;
      first-rates = refl;
      kept_most = refl;
      kept_few = refl;
      kept-between = refl;
      twice = refl;
      late = refl;
      ten = refl;
      none_zero = refl;
      closed = refl;
      missing_row = refl;
      missing_column = refl;
      taken = refl;
      over_64 = refl;
      just_64 = refl;
      not_named = refl;
      no_multiple = refl;
      below = refl;
      above = refl;
      litres_high = refl;
      litres_most = refl;
      too_few = refl;
      all_kept = refl;
      unread = refl;
      back_rates = refl;
      back_one = refl;
      back_none = refl;
    }
