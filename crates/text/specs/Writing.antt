-- Document 01, "The sheet and its program": numbers, fields and lines as they are written, and a text put into a room.
-- Assumes nothing.
use Rattle.std.specs.Prelude.{◌≡◌, List, [], ◌∷◌, ◌++◌, ℕ, zero, suc, ◌+◌, ◌/◌, ◌%◌, length}
use Rattle.reckon.specs.Lists.{placed}
use Rattle.text.specs.Reading.{tab, newline}

-- the decimal digits of a number, none for 0; enough are allowed for
unfoldable pub digits_in : ℕ → ℕ → List ℕ
digits_in zero n = []
digits_in (suc most) zero = []
digits_in (suc most) (suc n) = digits_in most (suc n / 10) ++ ((48 + suc n % 10) ∷ [])

-- a number written: "decimal without sign or needless leading zeros" (`decimal_small` and `decimal_large` say it with no limit)
unfoldable pub decimal : ℕ → List ℕ
decimal zero = 48 ∷ []
decimal (suc n) = digits_in (suc n) (suc n)

-- a field: a tab and a number; fields, one after the other
unfoldable pub field_text : ℕ → List ℕ
field_text n = tab ∷ decimal n

unfoldable pub fields_text : List ℕ → List ℕ
fields_text [] = []
fields_text (v ∷ vs) = field_text v ++ fields_text vs

-- fields and the end of the line; a line of a kind: its word before them
unfoldable pub rest_text : List ℕ → List ℕ
rest_text vs = fields_text vs ++ (newline ∷ [])

unfoldable pub line_text : List ℕ → List ℕ → List ℕ
line_text word vs = word ++ rest_text vs

-- ---- a text that is put into a room

-- the text t is put into a room at a position: r is the position after it, and all else in the room stays
pub record Wrote (t : List ℕ) (at : ℕ) (old new : List ℕ) (r : ℕ) : Type 0 where
  pub next : r ≡ at + length t
  pub room : new ≡ placed old at t

-- ---- what the public functions give

abbrev pub PutByte : ℕ → ℕ → List ℕ → List ℕ → ℕ → Type 0
PutByte b at old new r = Wrote (b ∷ []) at old new r

abbrev pub PutWord : List ℕ → ℕ → List ℕ → List ℕ → ℕ → Type 0
PutWord word at old new r = Wrote word at old new r

abbrev pub PutNumber : ℕ → ℕ → List ℕ → List ℕ → ℕ → Type 0
PutNumber n at old new r = Wrote (decimal n) at old new r

abbrev pub PutField : ℕ → ℕ → List ℕ → List ℕ → ℕ → Type 0
PutField n at old new r = Wrote (field_text n) at old new r

abbrev pub PutFields : List ℕ → ℕ → List ℕ → List ℕ → ℕ → Type 0
PutFields vs at old new r = Wrote (fields_text vs) at old new r

abbrev pub PutLine : List ℕ → List ℕ → ℕ → List ℕ → List ℕ → ℕ → Type 0
PutLine word vs at old new r = Wrote (line_text word vs) at old new r
