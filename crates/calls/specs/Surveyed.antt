-- What the callers have that move a sheet for the survey office, and a set back, in document 02's words (#104).
-- Assumes nothing.
use Rattle.std.specs.Prelude.{◌≡◌, List, ℕ, length, take}
use Rattle.reckon.specs.Tests.{pick, refusal}
use Rattle.sheet.specs.Sheet.{Rooms, said, heading_of, sheet_of}
use Rattle.sheet.specs.Written.{sheet_written}
use Rattle.sheet.specs.declared.reading.Heading.{Heading}
use Rattle.sheet.specs.declared.reading.Sheet.TheVariants.{Read}
use Rattle.survey.specs.Sets.{Set, set_of, set_bad, set_says, all_short, to_survey}
use Rattle.survey.specs.Sets.Outcome.{moved}
use Rattle.survey.specs.Moving.{part_of}
use Rattle.survey.specs.Worked.{Returns}
use Rattle.survey.specs.declared.moving.Part.{Part}
use Rattle.survey.specs.declared.moving.Moved.{Moved}
use Rattle.survey.specs.declared.moving.Moved.TheVariants.{Wrote, Refused}
use Rattle.demands.specs.Table.{FirstFails}
use Rattle.demands.specs.Surveys.{set_rows}

pub record AfterPart (s : List ℕ) (k : Part) (old : List ℕ) (a : Moved) (new : List ℕ) : Type 0 where
  -- "A sheet that reads well" is moved, whatever rooms its reader was lent: the part stands at the room's start
  pub moves :
      (lent : Rooms) (h : Heading) → Read h ≡ sheet_of s lent →
      (a ≡ Wrote (length (part_of k (set_of h (said s))))) × (take (length (part_of k (set_of h (said s)))) new ≡ part_of k (set_of h (said s)))
  -- a refusal leaves the room
  pub as_it_was : (number line : ℕ) → a ≡ Refused number line → new ≡ old
  -- "A sheet that reads well returns byte for byte, and a set we wrote returns likewise", by what a set is moved back to
  pub there_and_back : Returns

pub record AfterSet (t : Set) (old : List ℕ) (a : Moved) (new : List ℕ) : Type 0 where
  -- a set that we wrote returns: it is moved back to the sheet it came from
  pub returns : (s : List ℕ) → to_survey s ≡ moved t → (a ≡ Wrote (length s)) × (take (length s) new ≡ s)
  -- a number is that of the first row that applies, with its line, and leaves the room
  pub refused_by :
      (number line : ℕ) → a ≡ Refused number line →
      FirstFails (set_rows t) number × (line ≡ pick (all_short t) (set_bad t) 0) × (new ≡ old)
  -- else no row applies, and the sheet that says what the set says stands at the room's start
  pub wrote :
      (n : ℕ) → a ≡ Wrote n →
      (refusal (set_rows t) ≡ 0) × (take n new ≡ sheet_written (heading_of t.note) (set_says t))
