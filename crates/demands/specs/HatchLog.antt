-- Document 02, #107, and the letter's demand 3: an evening of lines leaves no mark but the steps still standing, each at its own rates; and the
-- program's calls, one after the other, print the log's text.
-- Assumes nothing.
use Rattle.std.specs.Prelude.{◌≡◌, true, false, List, [], ◌∷◌, ◌++◌, map, ℕ, zero, suc, ◌-◌, ◌≤◌, ◌<◌, eqb, length, get_or, set, replicate, take, drop, Option, Some, None}
use Rattle.reckon.specs.Tests.{pick, refusal}
use Rattle.ledger.specs.Runs.{Plan, World, seen_of}
use Rattle.sheet.specs.Sheet.{rooms}
use Rattle.ledger.specs.Record.{room_slots}
use Rattle.trials.specs.Ring.{slots_in}
use Rattle.checks.specs.Given.{Given}
use Rattle.answer.specs.Printed.{made_text}
use Rattle.hatches.specs.Log.{Evening, evening, opened, most_hatches, entry_refusals}
use Rattle.evenings.specs.Taking.{drawn, entry_number, line_run, line_back, after_entry, after_read}
use Rattle.evenings.specs.Shown.{stands_text}
use Rattle.evenings.specs.Program.{Stores, stores, hatchlog_text, Begins, GoesOn}
use Rattle.hatches.specs.declared.lines.Entry.{Entry}
use Rattle.hatches.specs.declared.lines.Entry.TheVariants.{Hatch, Rate, Back}
use Rattle.evenings.specs.declared.program.Night.{Night}
use Rattle.demands.specs.Demand3.{Call, Fresh, alone, AllMade, start, series}

-- ---- what is left of an evening

-- What one would note on paper beside the log, with no ring and no slots to run out of: the rates now, and for each standing step the rates
-- it was made at, the newest first.
pub record Notes : Type 0 where
  pub litres : List ℕ
  pub standing : List (List ℕ)

abbrev pub notes : List ℕ → List (List ℕ) → Notes
notes l s = record { litres = l; standing = s }

-- after a `back` of so many steps: "with hatch rates as they stood when the earliest of those steps began (0 changes nothing)"
unfoldable pub noted_back : ℕ → Notes → Notes
noted_back zero m = m
noted_back (suc n) m = notes (get_or m.standing n []) (drop (suc n) m.standing)

module _ (p : Plan) (g : Given) where
  -- a line that is not refused before its steps: "A hatch runs at its last written rate"
  unfoldable pub noted_with : Evening → Entry → Notes → Notes
  noted_with e (Rate clock n litres) m =
      notes (pick (eqb (line_run p g e clock).number 0) (set m.litres (n - 1) litres) m.litres)
      (replicate {A = List ℕ} (line_run p g e clock).steps m.litres ++ m.standing)
  noted_with e (Back count) m = noted_back (line_back p g e count).steps m
  noted_with e (Hatch n row column) m = m

  -- any line, or one that cannot be read
  unfoldable pub noted_after : Evening → Option Entry → Notes → Notes
  noted_after e (Some entry) m = pick (eqb (refusal (entry_refusals p g e entry)) 0) (noted_with e entry m) m
  noted_after e None m = m

  -- Where lines have come to: the evening as the library works it, and the notes.
  pub record Page : Type 0 where
    pub at : Evening
    pub noted : Notes

  -- "from a fresh run", before the first line
  abbrev pub first_page : World → List ℕ → Page
  first_page f began =
      record {
        at = evening f.depths f.lasts f.records began (opened f.run);
        noted = notes (replicate most_hatches 0) [];
      }

  -- line after line, refused ones and such as cannot be read among them
  unfoldable pub page_after : List (Option Entry) → Page → Page
  page_after [] x = x
  page_after (entry ∷ rest) x =
      page_after rest (record { at = after_read p g x.at entry; noted = noted_after x.at entry x.noted })

  -- "each with its own rates": what is given to each standing step
  abbrev pub standing_givens : Page → List Given
  standing_givens x = map (drawn g x.at.log.hatches) x.noted.standing

  -- the same fresh run having made only the steps still standing
  abbrev pub only_standing : World → Page → World
  only_standing f x = alone p (standing_givens x) f

  -- What holds wherever lines from the fresh run f have come to.
  pub record LeavesNoMark (f : World) (x : Page) : Type 0 where
    -- the ring of rates goes with the ring of records: what is worked is what is noted
    pub rates_are : x.at.log.litres ≡ x.noted.litres
    -- "`steps` being the steps standing"
    pub steps_are : x.at.log.steps ≡ length x.noted.standing
    -- none of them is refused in that run, and depths, last leaving, clock, length, outflow and total soaked are that run's
    pub all_made : AllMade p (standing_givens x) f
    pub same_depths : x.at.depths ≡ (only_standing f x).depths
    pub same_lasts : x.at.lasts ≡ (only_standing f x).lasts
    pub same_clock : x.at.log.run.clock ≡ (only_standing f x).run.clock
    pub same_length : x.at.log.run.length ≡ (only_standing f x).run.length
    pub same_outflow : x.at.log.run.outflow ≡ (only_standing f x).run.outflow
    pub same_soaked : x.at.log.run.soaked ≡ (only_standing f x).run.soaked
    -- so what is printed is `meadow`'s text of that run, after as many steps
    pub printed : stands_text p x.at ≡ made_text p (only_standing f x).depths (only_standing f x).run (length x.noted.standing)
    -- no more steps are kept than stand
    pub kept_low : x.at.log.run.kept ≤ length x.noted.standing

  -- a fresh run whose room has a slot, and beside it nine rates a slot
  pub record Opens (f : World) (began : List ℕ) : Type 0 where
    pub fresh : Fresh p f
    pub some : 0 < room_slots p f.records
    pub rates_suffice : room_slots p f.records ≤ slots_in most_hatches (length began)

  -- for any lines, refused ones and such as cannot be read among them
  pub record HatchLog : Type 0 where
    pub no_mark : (f : World) (began : List ℕ) → Opens f began → (lines : List (Option Entry)) → LeavesNoMark f (page_after lines (first_page f began))
    -- an evening of which every step is taken back was never there
    pub untouched : (f : World) (began : List ℕ) → Opens f began → (lines : List (Option Entry)) → (page_after lines (first_page f began)).noted.standing ≡ [] →
        stands_text p (page_after lines (first_page f began)).at ≡ made_text p f.depths f.run 0
    -- a `back` that is not refused by 10 or before is made whole: never by what a record holds
    pub back_whole : (f : World) (began : List ℕ) → Opens f began → (lines : List (Option Entry)) (count : ℕ) →
        refusal (entry_refusals p g (page_after lines (first_page f began)).at (Back count)) ≡ 0 →
        entry_number p g (page_after lines (first_page f began)).at (Back count) ≡ 0
    -- "prints .. at each line's clock": a line's run that is not refused has come to the line's clock
    pub at_clock : (e : Evening) (clock n litres : ℕ) → entry_number p g e (Rate clock n litres) ≡ 0 →
        (after_entry p g e (Rate clock n litres)).log.run.clock ≡ clock

-- The keeper's season: whatever calls an evening adds, if the steps still standing are the season's, so is everything that is seen.
pub record SeasonUntouched (p : Plan) : Type 0 where
  pub stays : (f : World) → Fresh p f → (season evening : List Call) →
      (series p (season ++ evening) (start p f)).standing ≡ (series p season (start p f)).standing →
      seen_of (series p (season ++ evening) (start p f)).at ≡ seen_of (series p season (start p f)).at

-- ---- the program's calls

-- the rooms with what a line left in them
abbrev pub stores_with : Stores → List ℕ → List ℕ → List ℕ → List ℕ → Stores
stores_with r d l c b =
    stores (rooms r.sheet.cells.marks r.sheet.cells.beds r.sheet.cells.roughness r.sheet.cells.rates d r.sheet.rain r.sheet.inflow) l c b

-- `go_on` again and again while a line is left, each outcome any that its contract allows: what was printed
pub data Logged (s : List ℕ) : Night → Stores → List ℕ → Type 0 where
  over : {n : Night} {r : Stores} → n.more ≡ false → Logged s n r []
  on : {n a : Night} {r : Stores} {depths lasts records began old new rest : List ℕ} → n.more ≡ true →
      GoesOn s n r a depths lasts records began old new → Logged s a (stores_with r depths lasts records began) rest →
      Logged s n r (take a.length new ++ rest)

-- what `begin_log` and then `go_on` put, one after the other, is the program's whole output: no line is left out, and none comes twice
pub record HatchLogRuns : Type 0 where
  pub prints : (sheet log : List ℕ) (a : Night) (r : Stores) (old new rest : List ℕ) → Begins sheet log a r old new → Logged log a r rest →
      take a.length new ++ rest ≡ hatchlog_text sheet log
