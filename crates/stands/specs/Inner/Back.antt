-- "Saved is not interrupted", the text's part: what `stand` prints `lay` reads back.
-- Assumes nothing.
use Rattle.std.specs.Prelude.{◌≡◌, true, false, List, ℕ, ◌-◌, ◌<◌, length, get_or}
use Rattle.grid.specs.Squares.{ShapeInRange}
use Rattle.grid.specs.Marks.{Alike, closed}
use Rattle.ledger.specs.Runs.{Plan}
use Rattle.ledger.specs.Checks.{waters_fine, WaterLent}
use Rattle.hatches.specs.Log.{most_hatches}
use Rattle.hatches.specs.declared.log.Hatches.{Hatches}
use Rattle.stands.specs.Texts.{stand_text}
use Rattle.stands.specs.Laying.{draws_fine, state_fine, stand_of, Water, water_after}
use Rattle.stands.specs.declared.saved.Saved.{Saved}

-- "that state, with no step kept", of so many slots of records
abbrev pub none_kept : ℕ → Saved → Saved
none_kept slots a =
    record {
      log =
          record {
            run =
                record {
                  clock = a.log.run.clock;
                  length = a.log.run.length;
                  outflow = a.log.run.outflow;
                  kept = 0;
                  newest = slots - 1;
                  soaked = a.log.run.soaked;
                };
            steps = a.log.steps;
            opening = a.log.opening;
            hatches = a.log.hatches;
            litres = a.log.litres;
          };
      start = a.start;
      given = a.given;
    }

-- a place for each number, and 0 at each that is not named, as a log is opened and hatches are named
pub record Tidy (hs : Hatches) (litres : List ℕ) : Type 0 where
  pub named_long : length hs.named ≡ most_hatches
  pub rows_long : length hs.rows ≡ most_hatches
  pub columns_long : length hs.columns ≡ most_hatches
  pub litres_long : length litres ≡ most_hatches
  pub no_row : (h : ℕ) → get_or hs.named h false ≡ false → get_or hs.rows h 0 ≡ 0
  pub no_column : (h : ℕ) → get_or hs.named h false ≡ false → get_or hs.columns h 0 ≡ 0
  pub no_litres : (h : ℕ) → get_or hs.named h false ≡ false → get_or litres h 0 ≡ 0

-- a state whose numbers are in range, by the very tests of `lay`
pub record Savable (p : Plan) (inflow : List ℕ) (slots : ℕ) (depths lasts : List ℕ) (a : Saved) : Type 0 where
  pub shape : ShapeInRange p.shape
  pub waters : waters_fine p depths lasts ≡ true
  pub draws : draws_fine p inflow a.log ≡ true
  pub state : state_fine slots (none_kept slots a) ≡ true
  pub tidy : Tidy a.log.hatches a.log.litres

-- its text is not refused, and gives the state; into any rooms, on squares not closed, its depths and last leaving, and on closed ones nothing
pub record ReadsBack (p : Plan) (inflow : List ℕ) (slots : ℕ) (depths lasts : List ℕ) (a : Saved) : Type 0 where
  pub answer : stand_of p inflow slots (stand_text p depths lasts a) ≡ record { number = 0; line = 0; saved = none_kept slots a }
  pub depths_alike : (old : Water) → WaterLent p old.depths old.lasts → Alike p.marks (water_after p (stand_text p depths lasts a) 0 old).depths depths
  pub lasts_alike : (old : Water) → WaterLent p old.depths old.lasts → Alike p.marks (water_after p (stand_text p depths lasts a) 0 old).lasts lasts
  pub depths-kept : (old : Water) (i : ℕ) → closed p.marks i ≡ true → i < length old.depths →
      get_or (water_after p (stand_text p depths lasts a) 0 old).depths i 0 ≡ get_or old.depths i 0
  pub lasts_kept : (old : Water) (i : ℕ) → closed p.marks i ≡ true → i < length old.lasts →
      get_or (water_after p (stand_text p depths lasts a) 0 old).lasts i 0 ≡ get_or old.lasts i 0

-- of every state that can be saved
abbrev pub AllReadBack : Type 0
AllReadBack = (p : Plan) (inflow : List ℕ) (slots : ℕ) (depths lasts : List ℕ) (a : Saved) → Savable p inflow slots depths lasts a → ReadsBack p inflow slots depths lasts a
