-- What a desk is between two lines, and the sizes of its rooms.
-- Assumes nothing.
use Rattle.std.specs.Prelude.{◌≡◌, Bool, true, false, [], ◌∷◌, ℕ, ◌*◌, ◌/◌, min, leb}
use Rattle.reckon.specs.Tests.{every}
use Rattle.reckon.specs.Ranges.{most_table_rows}
use Rattle.grid.specs.Squares.{shape_fine}
use Rattle.grid.specs.declared.squares.Shape.{Shape}
use Rattle.ledger.specs.Runs.{plan}
use Rattle.ledger.specs.Record.{record_size}
use Rattle.checks.specs.Fresh.{fresh_run}
use Rattle.sheet.specs.declared.reading.Heading.{Heading}
use Rattle.hatches.specs.Log.{most_hatches, opened}
use Rattle.hatches.specs.declared.log.Log.{Log}
use Rattle.evenings.specs.Program.{no_heading, no_night}
use Rattle.trying.specs.Given.{most_slots, account_opened}
use Rattle.trying.specs.declared.given.Account.{Account}
use Rattle.desks.specs.declared.state.Desk.{Desk}
use Rattle.desks.specs.declared.state.Series.{Series}

-- "1 to 4,096 squares": a room of one number each
abbrev pub desk_squares : ℕ
desk_squares = 4_096

-- "a sheet or saved state of at most 262,144 bytes", and as many for an answer
abbrev pub desk_text : ℕ
desk_text = 262_144

abbrev pub desk_out : ℕ
desk_out = 262_144

-- "as many steps kept as 1,572,864 numbers hold, at most 256"
abbrev pub desk_numbers : ℕ
desk_numbers = 1_572_864

unfoldable pub kept_slots : Shape → ℕ
kept_slots s = min most_slots (desk_numbers / record_size (plan s []))

-- beside each record nine rates: a room for all of them
abbrev pub desk_rates : ℕ
desk_rates = 2_304

-- what of the records and the rates belongs to a sheet
abbrev pub records_on : Shape → ℕ
records_on s = kept_slots s * record_size (plan s [])

abbrev pub rates_on : Shape → ℕ
rates_on s = kept_slots s * most_hatches

-- the sizes that a heading tells are those of a sheet that was read
unfoldable pub heading_fine : Heading → Bool
heading_fine h = every (shape_fine h.shape ∷ leb h.rain_rows most_table_rows ∷ leb h.inflow_rows most_table_rows ∷ [])

-- no steps are to be made
abbrev pub no_series : Series
no_series = record { on = false; left = 0; end = 0; every = false }

-- before the first sheet
abbrev pub empty_desk : Desk
empty_desk = record { ready = false; heading = no_heading; log = (no_night 0).log; account = account_opened 0 0; series = no_series; length = 0 }

-- "sheet read, fresh run, hatches forgotten, all else forgotten"
abbrev pub fresh_log : Heading → Log
fresh_log h = opened (fresh_run h.rules (kept_slots h.shape))

abbrev pub fresh_desk : Heading → ℕ → ℕ → Desk
fresh_desk h start long =
    record { ready = true; heading = h; log = fresh_log h; account = account_opened start 0; series = no_series; length = long }

-- after a line over the same sheet
abbrev pub desk_with : Desk → Log → Account → Series → ℕ → Desk
desk_with d log a s long = record { ready = d.ready; heading = d.heading; log = log; account = a; series = s; length = long }

-- ---- what the public functions give

abbrev pub KeptSlots : Shape → ℕ → Type 0
KeptSlots s r = r ≡ kept_slots s

abbrev pub DeskEmpty : Desk → Type 0
DeskEmpty r = r ≡ empty_desk
