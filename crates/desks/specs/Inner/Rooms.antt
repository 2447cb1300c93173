-- The rooms that the desk's calls are lent, whole, and what a sheet leaves in them.
-- Assumes nothing.
use Rattle.std.specs.Prelude.{◌≡◌, List, ℕ, length, replicate}
use Rattle.reckon.specs.Tables.{rain_kind, inflow_kind, table_room}
use Rattle.grid.specs.Squares.{most_along}
use Rattle.sheet.specs.Sheet.{Rooms}
use Rattle.sheet.specs.declared.reading.Heading.{Heading}
use Rattle.desks.specs.State.{desk_squares, desk_rates, desk_numbers, desk_out, fresh_desk}
use Rattle.desks.specs.Lines.{Puts}
use Rattle.desks.specs.Command.{start_on, first_text}
use Rattle.desks.specs.declared.state.Desk.{Desk}

pub record RoomsLong (marks inflow depths lasts records began out : List ℕ) : Type 0 where
  pub marks_long : length marks ≡ desk_squares
  pub inflow_long : length inflow ≡ table_room inflow_kind
  pub depths_long : length depths ≡ desk_squares
  pub lasts_long : length lasts ≡ desk_squares
  pub records_long : length records ≡ desk_numbers
  pub began_long : length began ≡ desk_rates
  pub out_long : length out ≡ desk_out

pub record GroundLong (beds roughness rates rain : List ℕ) : Type 0 where
  pub beds_long : length beds ≡ desk_squares
  pub roughness_long : length roughness ≡ desk_squares
  pub rates_long : length rates ≡ desk_squares
  pub rain_long : length rain ≡ table_room rain_kind

-- the working rooms of a step
pub record WorkLong (left worked senders room : List ℕ) : Type 0 where
  pub left_long : length left ≡ desk_squares
  pub worked_long : length worked ≡ most_along
  pub senders_long : length senders ≡ most_along
  pub room_long : length room ≡ desk_squares

pub record SheetRooms (r : Rooms) (out : List ℕ) : Type 0 where
  pub marks_long : length r.cells.marks ≡ desk_squares
  pub depths_long : length r.cells.depths ≡ desk_squares
  pub out_long : length out ≡ desk_out

-- a sheet that lies in the rooms: its desk, no last leaving, and its frame
pub record SheetLaid (h : Heading) (marks depths old_lasts lasts old new : List ℕ) (r : Desk) : Type 0 where
  pub desk_is : r ≡ fresh_desk h (start_on h marks depths) (length (first_text h marks depths))
  pub lasts_are : lasts ≡ replicate (length old_lasts) 0
  pub puts : Puts (first_text h marks depths) old new
