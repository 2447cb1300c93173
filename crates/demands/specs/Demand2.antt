-- The letter's demand 2: a step gives what the rule gives; "What a closed square holds is not altered, and no answer depends on it"; and
-- "walls that no water enters".
-- Assumes nothing.
use Rattle.std.specs.Prelude.{◌≡◌, true, false, List, ℕ, ◌+◌, ◌-◌, ◌*◌, ◌/◌, ◌≤◌, ◌<◌, min, length, get_or}
use Rattle.reckon.specs.Tests.{refusal}
use Rattle.reckon.specs.Ranges.{most_bed, most_depth}
use Rattle.reckon.specs.Roots.{Root}
use Rattle.reckon.specs.Soaking.{soak_due}
use Rattle.trials.specs.Ring.{slot_after, kept_after, slot_start}
use Rattle.grid.specs.Squares.{squares, sides}
use Rattle.rule.specs.Length.{length_at, duration_for}
use Rattle.rule.specs.Weighing.{height_of, slope_of, critical_speed, weighted_sides, directed_sides, unlimited_sides}
use Rattle.rule.specs.declared.rules.Rules.{Rules}
use Rattle.ledger.specs.Runs.{Plan, World, Seen}
use Rattle.ledger.specs.Flows.{Leaves, shut, gone, came, off_grid, soaked_grid}
use Rattle.ledger.specs.Record.{square_words, record_size, held_in, lasted_in, word_place, leaves_in, last_in, added_in, soaked_in, room_slots, newest_record}
use Rattle.ledger.specs.TakeBack.{back_number, taken_back}
use Rattle.ledger.specs.Walls.{Walled, reaches, drains, into_walls, Untouched}
use Rattle.ledger.specs.declared.runs.Run.{Run}
use Rattle.checks.specs.Given.{Given}
use Rattle.adding.specs.Added.{added_for}
use Rattle.moves.specs.Drops.{drops_of}
use Rattle.moves.specs.Moves.{candidates, step_moves}
use Rattle.checks.specs.Refusals.{run_checks}
use Rattle.flood.specs.Step.{step_number, stepped}
use Rattle.sight.specs.AllArrows.{Sights, SeesAll}
use Rattle.sight.specs.Arrows.{view, seen_at}
use Rattle.sight.specs.WetRows.{WetRowed}
use Rattle.sight.specs.declared.wet_rows.Wet.{Wet}
use Rattle.checks.specs.Fresh.{fresh_number, fresh_run, fresh_lasts}
use Rattle.flood.specs.Run.{run_to}
use Rattle.demands.specs.Loader.{LoaderWalls}
use Rattle.demands.specs.Closed.{SameOpen, SameGiven, SameRecord, SameRoom, SameWorld, SameEnd}
use Rattle.demands.specs.Exported.{ExportsNoneDepends}

-- "h: the largest whole number with h³ ≤ d²", "s: the largest with s² ≤ 100·VM / D", #105's "the largest c with c² ≤ 9,810,000·d"
pub record RootsAre : Type 0 where
  pub height : (d : ℕ) → d ≤ most_depth → Root 3 (d * d) (height_of d)
  pub slope : (r : Rules) (drop : ℕ) → drop ≤ most_bed + most_depth → Root 2 (100 * drop / r.square_side) (slope_of r drop)
  pub critical : (d : ℕ) → d ≤ most_depth → Root 2 (9_810_000 * d) (critical_speed d)

module _ (p : Plan) where
  -- ---- "Each step gives exactly the depths, transfers, outflow and step length that the published weighted cellular automaton rule gives in
  -- the whole-number form of document 01, all squares working from the water before the step"

  -- what stands before the step, and the world that it left
  module _ (g : Given) (w v : World) where
    -- of a square before the step: its depth, last leaving, roughness and drops
    abbrev depth_at : ℕ → ℕ
    depth_at i = get_or w.depths i 0

    abbrev last_at : ℕ → ℕ
    last_at i = get_or w.lasts i 0

    abbrev roughness_at : ℕ → ℕ
    roughness_at i = get_or g.lie.roughness i 0

    abbrev drops_at : ℕ → List ℕ
    drops_at i = drops_of p g.lie.rules g.lie.beds w.depths i

    -- what a caller reads of the step: the record that it wrote, how long it lasted by that, the clock of its end, and the transfers
    abbrev written : List ℕ
    written = newest_record p v

    abbrev duration : ℕ
    duration = lasted_in written

    abbrev end : ℕ
    end = w.run.clock + duration

    abbrev transfers : Leaves
    transfers = leaves_in written

    -- of a step that is made
    pub record StepGives : Type 0 where
      -- document 02, #113: "demand 2 reads for each with its own definition"; there is no fourth edition
      pub edition : (1 ≤ g.lie.rules.edition) × (g.lie.rules.edition ≤ 3)
      -- the transfers of a square not closed: the weighing of its drops, both of the water before the step
      pub weighted : g.lie.rules.edition ≡ 1 → (i side : ℕ) → i < squares p.shape → side < sides → shut p i ≡ false →
          transfers i side ≡ get_or (weighted_sides g.lie.rules (depth_at i) (last_at i) (roughness_at i) duration (drops_at i)) side 0
      pub directed : g.lie.rules.edition ≡ 2 → (i side : ℕ) → i < squares p.shape → side < sides → shut p i ≡ false →
          transfers i side ≡ get_or (directed_sides g.lie.rules (depth_at i) (roughness_at i) duration (drops_at i)) side 0
      pub unlimited : g.lie.rules.edition ≡ 3 → (i side : ℕ) → i < squares p.shape → side < sides → shut p i ≡ false →
          transfers i side ≡ get_or (unlimited_sides g.lie.rules (depth_at i) (roughness_at i) duration (drops_at i)) side 0
      -- document 02, #106: "It takes the smaller of that due and the depth left after the four sides have taken theirs", by the clocks of
      -- its start and its end
      pub soaking : (i : ℕ) → i < squares p.shape → shut p i ≡ false →
          soaked_in written i ≡ min (soak_due (get_or g.lie.rates i 0) w.run.clock end) (depth_at i - gone transfers i)
      -- "What a step adds is the amount by its end less the amount by its start"
      pub adding : (i : ℕ) → i < squares p.shape → shut p i ≡ false → added_in written i ≡ added_for p g w.run.clock end i
      -- "New depth = old − four leaving + what neighbours send + what is added", what soaks taken "before anything arrives"
      pub depths : (i : ℕ) → i < squares p.shape → shut p i ≡ false →
          get_or v.depths i 0 ≡ depth_at i - gone transfers i - soaked_in written i + came p transfers i + added_in written i
      pub depths_long : length v.depths ≡ length w.depths
      -- no square sends and soaks more than it holds, so that "old − four leaving" is not cut off at 0, nor is what remains
      pub covered : (i : ℕ) → i < squares p.shape → shut p i ≡ false → gone transfers i + soaked_in written i ≤ depth_at i
      -- "P is then the sum of the four"
      pub lasts : (i : ℕ) → i < squares p.shape → shut p i ≡ false → get_or v.lasts i 0 ≡ gone transfers i
      pub lasts_long : length v.lasts ≡ length w.lasts
      -- "Water leaving the grid joins the outflow total"
      pub outflow : v.run.outflow ≡ w.run.outflow + off_grid p transfers
      -- "the run a total soaked"
      pub soaked : v.run.soaked ≡ w.run.soaked + soaked_grid p (soaked_in written)
      -- "when the clock is a multiple of U it is worked afresh .. the run holds it until the next such clock"
      pub length_is : v.run.length ≡ length_at g.lie.rules w.run.clock w.run.length (candidates p g.lie w.depths)
      -- "The step lasts the smaller of that length and the time to the next multiple of U"
      pub duration_is : duration ≡ duration_for g.lie.rules w.run.clock v.run.length
      pub clock : v.run.clock ≡ end
      -- the record: "length held before the step, how long the step lasted, then for each square north, east, south, west, P before, amount
      -- added", and the amount soaked; "A closed square gets" seven "zeros"
      pub held-before : held_in written ≡ w.run.length
      pub last-before : (i : ℕ) → i < squares p.shape → shut p i ≡ false → last_in written i ≡ last_at i
      pub closed_zeros : (i word : ℕ) → i < squares p.shape → shut p i ≡ true → word < square_words → get_or written (word_place i word) 0 ≡ 0
      -- "A step writes the slot after the newest, slot 0 after the last, and kept rises by one up to K"
      pub newest_is : v.run.newest ≡ slot_after (room_slots p w.records) w.run.newest
      pub kept_is : v.run.kept ≡ kept_after (room_slots p w.records) w.run.kept
      -- "Other slots stay", and "the rest of it is not touched"
      pub room_long : length v.records ≡ length w.records
      pub room-before : (k : ℕ) → k < slot_start (record_size p) v.run.newest → get_or v.records k 0 ≡ get_or w.records k 0
      pub room_after : (k : ℕ) → slot_start (record_size p) v.run.newest + record_size p ≤ k → get_or v.records k 0 ≡ get_or w.records k 0

  -- ---- "no answer depends on it"

  -- the number and the run are the same, and so is afterwards all that is held, but for closed squares
  pub record NoneDepends : Type 0 where
    pub step : (g h : Given) (w v : World) → SameGiven p g h → SameWorld p w v →
        (step_number p g w ≡ step_number p h v) × SameWorld p (stepped p g w) (stepped p h v)
    -- the record that a step writes, number for number
    pub written : (g h : Given) (w v : World) → SameGiven p g h → SameWorld p w v → step_number p g w ≡ 0 →
        newest_record p (stepped p g w) ≡ newest_record p (stepped p h v)
    pub run-to : (g h : Given) (end : ℕ) (w v : World) → SameGiven p g h → SameWorld p w v → SameEnd p (run_to p g end w) (run_to p h end v)
    pub take_back : (w v : World) → SameWorld p w v → (back_number p w ≡ back_number p v) × SameWorld p (taken_back p w) (taken_back p v)
    pub fresh : (r : Rules) (lasts others records rooms : List ℕ) → SameOpen p lasts others → SameRoom p records rooms →
        (fresh_number p r lasts records ≡ fresh_number p r others rooms)
        × (fresh_run r (room_slots p records) ≡ fresh_run r (room_slots p rooms))
        × SameOpen p (fresh_lasts p r lasts records) (fresh_lasts p r others rooms)
    pub check : (g h : Given) (end : ℕ) (w v : World) → SameGiven p g h → SameWorld p w v → refusal (run_checks p g end w) ≡ refusal (run_checks p h end v)
    -- an arrow is lent depths, the record room and the run
    pub arrow : (D : ℕ) (depths others room rest : List ℕ) (u : Run) (row column : ℕ) → SameOpen p depths others → length room ≡ length rest →
        SameRecord p (newest_record p (view depths room u)) (newest_record p (view others rest u)) →
        seen_at p D (view depths room u) row column ≡ seen_at p D (view others rest u) row column
    -- of all squares at once: the number and the three rooms
    pub all_arrows : (D : ℕ) (depths others room rest : List ℕ) (u : Run) (old new : Sights) (n : ℕ) → SameOpen p depths others →
        length room ≡ length rest → SameRecord p (newest_record p (view depths room u)) (newest_record p (view others rest u)) →
        SeesAll p D (view depths room u) old n new → SeesAll p D (view others rest u) old n new
    pub wet_rows : (depths others : List ℕ) (least : ℕ) (old : List ℕ) (a : Wet) (rows : List ℕ) → SameOpen p depths others →
        WetRowed p depths least old a rows → WetRowed p others least old a rows

  -- ---- "What a closed square holds is not altered": bed, roughness and soak rate are lent to no step for writing

  pub record NoneAltered : Type 0 where
    pub step : (g : Given) (w : World) → Untouched p w (stepped p g w)
    pub run-to : (g : Given) (end : ℕ) (w : World) → Untouched p w (run_to p g end w).world
    pub take_back : (w : World) → Untouched p w (taken_back p w)
    pub fresh : (r : Rules) (lasts records : List ℕ) (i : ℕ) → shut p i ≡ true → get_or (fresh_lasts p r lasts records) i 0 ≡ get_or lasts i 0

  -- ---- "walls that no water enters"

  -- whatever is given and seen
  pub record WallRule : Type 0 where
    -- nothing goes through a side towards a closed square, a closed square sends nothing, and off the grid water goes only from an exit
    pub walled : (g : Given) (v : Seen) → Walled p (step_moves p g v).leaves
    -- so all that leaves a square comes to a neighbour that is not closed, or leaves the grid from an exit
    pub goes : (g : Given) (v : Seen) (i side : ℕ) → i < squares p.shape → side < sides →
        (step_moves p g v).leaves i side ≡ reaches p (step_moves p g v).leaves i side + drains p (step_moves p g v).leaves i side
    -- nothing soaks into a closed square, whatever its rate
    pub none_soaks : (g : Given) (v : Seen) (i : ℕ) → shut p i ≡ true → (step_moves p g v).soaked i ≡ 0
    -- and the sum of all that arrives in closed squares is 0
    pub walls_stay_dry : (g : Given) (v : Seen) → into_walls p (step_moves p g v).leaves ≡ 0

  -- ---- document 02, #102: "With e = 0 nothing leaves"

  abbrev pub NothingLeaves : Type 0
  NothingLeaves = (g : Given) (v : Seen) → g.lie.rules.edge ≡ 0 → off_grid p (step_moves p g v).leaves ≡ 0

  pub record Demand2 : Type 0 where
    pub step_gives : (g : Given) (w : World) → step_number p g w ≡ 0 → StepGives g w (stepped p g w)
    pub roots_are : RootsAre
    pub none_depends : NoneDepends
    pub none_altered : NoneAltered
    pub wall_rule : WallRule
    pub nothing_leaves : NothingLeaves
    pub loader : LoaderWalls
    pub exports_none_depends : ExportsNoneDepends p
