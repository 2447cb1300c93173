-- Document 02, #104: what the two calls promise: a part of a set, or a sheet, at the start of a room; a refusal leaves the room.
-- Assumes nothing.
use Rattle.std.specs.Prelude.{◌≡◌, List, ℕ, length}
use Rattle.reckon.specs.Lists.{placed}
use Rattle.survey.specs.Sets.{Set, Outcome, to_survey, from_survey}
use Rattle.survey.specs.Sets.Outcome.{moved, refused}
use Rattle.survey.specs.declared.moving.Part.{Part}
use Rattle.survey.specs.declared.moving.Part.TheVariants.{Note, Bed, Depth, Roughness, Rate}
use Rattle.survey.specs.declared.moving.Moved.{Moved}
use Rattle.survey.specs.declared.moving.Moved.TheVariants.{Wrote, Refused}

-- the text of a part
unfoldable pub part_of : Part → Set → List ℕ
part_of Note t = t.note
part_of Bed t = t.bed
part_of Depth t = t.depth
part_of Roughness t = t.roughness
part_of Rate t = t.rate

unfoldable pub part_moved : Part → Outcome Set → Outcome (List ℕ)
part_moved k (moved t) = moved (part_of k t)
part_moved k (refused number line) = refused number line

-- what is answered of a text, and what the room then holds
unfoldable pub answered : Outcome (List ℕ) → Moved
answered (moved t) = Wrote (length t)
answered (refused number line) = Refused number line

unfoldable pub room_after : Outcome (List ℕ) → List ℕ → List ℕ
room_after (moved t) old = placed old 0 t
room_after (refused number line) old = old

pub record Moves (o : Outcome (List ℕ)) (old : List ℕ) (a : Moved) (new : List ℕ) : Type 0 where
  pub answer : a ≡ answered o
  pub room : new ≡ room_after o old

-- ---- what the public functions give

abbrev pub MovesPart : List ℕ → Part → List ℕ → Moved → List ℕ → Type 0
MovesPart s k old a new = Moves (part_moved k (to_survey s)) old a new

abbrev pub MovesSet : Set → List ℕ → Moved → List ℕ → Type 0
MovesSet t old a new = Moves (from_survey t) old a new
