-- The letter's demand 2, "no answer depends on it": inputs that differ only in what closed squares hold.
-- Assumes nothing.
use Rattle.std.specs.Prelude.{◌≡◌, false, List, ℕ, ◌<◌, length, get_or}
use Rattle.trials.specs.Room.{record_in}
use Rattle.grid.specs.Marks.{Alike}
use Rattle.ledger.specs.Runs.{Plan, World}
use Rattle.ledger.specs.Flows.{shut}
use Rattle.ledger.specs.Record.{square_words, record_size, word_place, held_in, lasted_in}
use Rattle.checks.specs.Given.{Given}
use Rattle.flood.specs.Run.{Ended}

module _ (p : Plan) where
  -- two slices of as many numbers
  pub record SameOpen (a b : List ℕ) : Type 0 where
    pub long : length a ≡ length b
    pub alike : Alike p.marks a b

  -- heights, roughness, soak rates, rules and tables
  pub record SameGiven (g h : Given) : Type 0 where
    pub beds : SameOpen g.lie.beds h.lie.beds
    pub roughness : SameOpen g.lie.roughness h.lie.roughness
    pub rates : SameOpen g.lie.rates h.lie.rates
    pub rules : g.lie.rules ≡ h.lie.rules
    pub rain : g.rain ≡ h.rain
    pub inflow : g.inflow ≡ h.inflow

  -- two records: "A closed square's numbers in a record are never read"
  pub record SameRecord (a b : List ℕ) : Type 0 where
    pub held : held_in a ≡ held_in b
    pub lasted : lasted_in a ≡ lasted_in b
    pub words : (i word : ℕ) → shut p i ≡ false → word < square_words → get_or a (word_place i word) 0 ≡ get_or b (word_place i word) 0

  -- two record rooms, slot by slot
  pub record SameRoom (a b : List ℕ) : Type 0 where
    pub long : length a ≡ length b
    pub slots : (u : ℕ) → SameRecord (record_in (record_size p) a u) (record_in (record_size p) b u)

  -- depths, last leaving, records and run
  pub record SameWorld (w v : World) : Type 0 where
    pub depths : SameOpen w.depths v.depths
    pub lasts : SameOpen w.lasts v.lasts
    pub records : SameRoom w.records v.records
    pub run : w.run ≡ v.run

  -- how a run ended
  pub record SameEnd (e f : Ended) : Type 0 where
    pub number : e.number ≡ f.number
    pub steps : e.steps ≡ f.steps
    pub world : SameWorld e.world f.world
