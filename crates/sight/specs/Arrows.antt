-- Document 01, "Flow arrows and wet rows": the flow arrow of a square.
-- Assumes nothing.
use Rattle.std.specs.Prelude.{◌≡◌, Bool, true, false, ◌&&◌, not, List, [], ◌∷◌, ◌++◌, ℕ, zero, suc, ◌+◌, eqb, leb, ltb, get_or}
use Rattle.reckon.specs.Tests.{pick, every, Row, ◌unless◌, refusal}
use Rattle.reckon.specs.Ranges.{most_side}
use Rattle.grid.specs.declared.squares.Shape.{Shape}
use Rattle.grid.specs.Squares.{north, east, south, west, square_at, within, beside}
use Rattle.ledger.specs.declared.runs.Run.{Run}
use Rattle.ledger.specs.Runs.{Plan, World, world, run_fine}
use Rattle.ledger.specs.Flows.{shut, sent}
use Rattle.ledger.specs.Record.{lasted_in, leaves_in, room_slots, newest_record}
use Rattle.ledger.specs.Checks.{times_fine}
use Rattle.sight.specs.Refusals.{shared_refusals}
use Rattle.sight.specs.Speeds.{side_speed, arrow_of}
use Rattle.sight.specs.declared.speeds.Arrow.{Arrow}
use Rattle.sight.specs.declared.speeds.Through.{Through}
use Rattle.sight.specs.declared.arrows.Sight.{Sight}
use Rattle.sight.specs.declared.arrows.Sight.TheVariants.{Closed, Dry, Still, Moving, Refused}

-- ---- through the sides

-- "net is 0"
abbrev pub net_none : Through → Bool
net_none t = eqb t.out t.back

-- "own leaving .. off the grid, own leaving; towards a closed square, 0"
unfoldable pub out_through : Plan → List ℕ → ℕ → ℕ → ℕ
out_through p rec i side = pick (within p.shape (beside p.shape i side) && shut p (beside p.shape i side)) 0 (leaves_in rec i side)

-- "Off the grid the neighbour's depth is taken as the own depth"; so is a closed one's, towards which net is 0 and no depth counts.
-- Off the grid there is no mark, and a mark that is missing reads as closed.
unfoldable pub near_depth : Plan → List ℕ → ℕ → ℕ → ℕ
near_depth p depths i side = pick (shut p (beside p.shape i side)) (get_or depths i 0) (get_or depths (beside p.shape i side) 0)

module _ (p : Plan) (depths rec : List ℕ) (i : ℕ) where
  -- "net through a side = own leaving − what the neighbour sent back", as the two amounts; and "own depth + neighbour's depth"
  unfoldable pub through_side : ℕ → Through
  through_side side =
      record { out = out_through p rec i side; back = sent p (leaves_in rec) i side; deep = get_or depths i 0 + near_depth p depths i side }

  -- "still (all four nets 0)"
  unfoldable pub all_still : Bool
  all_still =
      every (net_none (through_side north) ∷ net_none (through_side east) ∷ net_none (through_side south) ∷ net_none (through_side west) ∷ [])

  -- the arrow of the four speeds
  unfoldable pub arrow_by : ℕ → Arrow
  arrow_by D =
      arrow_of (side_speed D (lasted_in rec) (through_side north)) (side_speed D (lasted_in rec) (through_side east))
      (side_speed D (lasted_in rec) (through_side south)) (side_speed D (lasted_in rec) (through_side west))

-- ---- the answer

-- A refusal's number (0 is none), whether the square is closed, dry, still, and its arrow, as the answer:
-- "The first that applies in this order is given: refusal, closed, dry, still, moving".
unfoldable pub sighted : ℕ → Bool → Bool → Bool → Arrow → Sight
sighted (suc n) is_closed is_dry is_still a = Refused (suc n)
sighted zero true is_dry is_still a = Closed
sighted zero false true is_still a = Dry
sighted zero false false true a = Still
sighted zero false false false a = Moving a

-- the same of a square by a record: "dry (own depth 0)"
unfoldable pub seen_by : ℕ → Plan → ℕ → List ℕ → List ℕ → ℕ → Sight
seen_by number p D depths rec i =
    sighted number (shut p i) (eqb (get_or depths i 0) 0) (all_still p depths rec i) (arrow_by p depths rec i D)

-- ---- refusals

-- "arrows the same less P": a world without the last leaving, which is not lent
abbrev pub view : List ℕ → List ℕ → Run → World
view depths records run = world depths [] records run

-- 1: "D out of range", "an asked square off the grid"
unfoldable pub asked_fine : Shape → ℕ → ℕ → ℕ → Bool
asked_fine s D row column = every (leb 1 D ∷ leb D most_side ∷ ltb row s.rows ∷ ltb column s.columns ∷ [])

module _ (p : Plan) (D : ℕ) (w : World) (row column : ℕ) where
  -- "K = 0, or a run value out of range"; "kept = 0"
  unfoldable pub arrow_early_refusals : List Row
  arrow_early_refusals =
      shared_refusals p w.depths (asked_fine p.shape D row column)
      ++ (6 unless run_fine (room_slots p w.records) w.run ∷ 10 unless not (eqb w.run.kept 0) ∷ [])

  -- "newest record: length or lasted not 1 to 60,000"
  unfoldable pub arrow_refusals : List Row
  arrow_refusals = arrow_early_refusals ++ (11 unless times_fine (newest_record p w) ∷ [])

  unfoldable pub arrow_number : ℕ
  arrow_number = refusal arrow_refusals

  -- what is seen of the square in a row and a column
  unfoldable pub seen_at : Sight
  seen_at = seen_by arrow_number p D w.depths (newest_record p w) (square_at p.shape row column)

-- ---- what the public function gives

abbrev pub Sees : Plan → ℕ → World → ℕ → ℕ → Sight → Type 0
Sees p D w row column a = a ≡ seen_at p D w row column
