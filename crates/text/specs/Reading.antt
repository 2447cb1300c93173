-- Document 01, "The sheet and its program": numbers, fields and lines, read at a position of a text.
-- Assumes nothing.
use Rattle.std.specs.Prelude.{◌≡◌, Bool, true, false, ◌&&◌, List, [], ◌∷◌, ◌++◌, ℕ, zero, suc, ◌+◌, ◌-◌, ◌*◌, eqb, ltb, leb, length, get_or, drop, Option, Some, None}
use Rattle.reckon.specs.Tests.{pick, all_below}
use Rattle.reckon.specs.Lists.{tabulate}
use Rattle.text.specs.declared.reading.Number.{Number}
use Rattle.text.specs.declared.reading.Fields.{Fields}

-- "fields parted by one tab, each line line_ended by a newline"
abbrev pub tab : ℕ
tab = 9

abbrev pub newline : ℕ
newline = 10

-- "at most 4,294,967,295"
abbrev pub most_number : ℕ
most_number = 4_294_967_295

-- the most fields that one call reads
abbrev pub most_fields : ℕ
most_fields = 8

-- ---- bytes and words

-- a given byte stands at p; past the end there is none
unfoldable pub is_byte : List ℕ → ℕ → ℕ → Bool
is_byte s p b = ltb p (length s) && eqb (get_or s p 0) b

-- byte i of a word stands where it should for a word at p; the whole word stands there
abbrev pub same_at : List ℕ → ℕ → List ℕ → ℕ → Bool
same_at s p word i = eqb (get_or s (p + i) 0) (get_or word i 0)

unfoldable pub word_at : List ℕ → ℕ → List ℕ → Bool
word_at s p word = leb (p + length word) (length s) && all_below (length word) (same_at s p word)

-- ---- "numbers decimal without sign or needless leading zeros, at most 4,294,967,295"

-- a byte that is a digit, `0` to `9`
unfoldable pub is_digit : ℕ → Bool
is_digit b = leb 48 b && leb b 57

-- the digits that a text begins with, as numbers
unfoldable pub digits_of : List ℕ → List ℕ
digits_of [] = []
digits_of (b ∷ rest) = pick (is_digit b) ((b - 48) ∷ digits_of rest) []

-- the number that digits make, after those that made n
unfoldable pub value_from : ℕ → List ℕ → ℕ
value_from n [] = n
value_from n (d ∷ ds) = value_from (n * 10 + d) ds

-- one digit, or several of which the first is not 0
unfoldable pub well_formed : List ℕ → Bool
well_formed [] = false
well_formed (d ∷ []) = true
well_formed (d ∷ (e ∷ ds)) = leb 1 d

-- a number and the position after it
abbrev pub number : ℕ → ℕ → Option Number
number v q = Some (record { value = v; next = q })

-- what digits at p say: their number and the position after them, where it is not above the most
unfoldable pub number_from : List ℕ → ℕ → Option Number
number_from ds p = pick (leb (value_from 0 ds) most_number) (number (value_from 0 ds) (p + length ds)) None

-- the number at p
unfoldable pub number_at : List ℕ → ℕ → Option Number
number_at s p = pick (well_formed (digits_of (drop p s))) (number_from (digits_of (drop p s)) p) None

-- ---- fields and lines

-- a field: a tab and a number
unfoldable pub field_at : List ℕ → ℕ → Option Number
field_at s p = pick (is_byte s p tab) (number_at s (p + 1)) None

-- what reading several fields finds: their values and the position after them, or none
pub data Reading : Type 0 where
  read : List ℕ → ℕ → Reading
  unread : Reading

-- values read before those of another reading
unfoldable pub before : List ℕ → Reading → Reading
before vs (read ws q) = read (vs ++ ws) q
before vs unread = unread

-- a number with the position after it handed on, or the answer where there is none
abbrev pub with_number : {A : Type 0} → Option Number → A → (ℕ → ℕ → A) → A
with_number (Some n) other f = f n.value n.next
with_number None other f = other

-- exactly count fields from p on
unfoldable pub read_fields : List ℕ → ℕ → ℕ → Reading
read_fields s p zero = read [] p
read_fields s p (suc count) = with_number (field_at s p) unread (λ v q. before (v ∷ []) (read_fields s q count))

-- a reading, and then the end of the line
unfoldable pub line_ended : List ℕ → Reading → Reading
line_ended s (read vs q) = pick (is_byte s q newline) (read vs (q + 1)) unread
line_ended s unread = unread

-- exactly count fields, and then the end of the line
unfoldable pub read_rest : List ℕ → ℕ → ℕ → Reading
read_rest s p count = line_ended s (read_fields s p count)

-- a line of a kind: its word, count fields, the end of the line
unfoldable pub read_line : List ℕ → ℕ → List ℕ → ℕ → Reading
read_line s p word count = pick (word_at s p word) (read_rest s (p + length word) count) unread

-- values in a list of eight, 0 after them
unfoldable pub padded : List ℕ → List ℕ
padded vs = tabulate most_fields (λ i. get_or vs i 0)

-- a reading as it is handed back
unfoldable pub as_fields : Reading → Option Fields
as_fields (read vs q) = Some (record { values = padded vs; next = q })
as_fields unread = None

-- fields, the rest of a line and a line of a kind, as they are handed back
abbrev pub fields_at : List ℕ → ℕ → ℕ → Option Fields
fields_at s p count = as_fields (read_fields s p count)

abbrev pub rest_of_line : List ℕ → ℕ → ℕ → Option Fields
rest_of_line s p count = as_fields (read_rest s p count)

abbrev pub line_of : List ℕ → ℕ → List ℕ → ℕ → Option Fields
line_of s p word count = as_fields (read_line s p word count)

-- ---- lines

-- how long the first line of a text is, with its newline; the rest of the text where it has none
unfoldable pub line_length : List ℕ → ℕ
line_length [] = 0
line_length (b ∷ rest) = pick (eqb b newline) 1 (suc (line_length rest))

-- where the line after the one at p starts, and the k-th line after it
unfoldable pub next_line : List ℕ → ℕ → ℕ
next_line s p = p + line_length (drop p s)

unfoldable pub line_from : List ℕ → ℕ → ℕ → ℕ
line_from s p zero = p
line_from s p (suc k) = next_line s (line_from s p k)

-- ---- what the public functions give

abbrev pub ByteIs : List ℕ → ℕ → ℕ → Bool → Type 0
ByteIs s p b r = r ≡ is_byte s p b

abbrev pub WordAt : List ℕ → ℕ → List ℕ → Bool → Type 0
WordAt s p word r = r ≡ word_at s p word

abbrev pub DigitJudged : List ℕ → ℕ → Bool → Type 0
DigitJudged s p r = r ≡ is_digit (get_or s p 0)

abbrev pub DigitAt : List ℕ → ℕ → ℕ → Type 0
DigitAt s p r = r + 48 ≡ get_or s p 0

abbrev pub NumberReadAt : List ℕ → ℕ → Option Number → Type 0
NumberReadAt s p r = r ≡ number_at s p

abbrev pub FieldAt : List ℕ → ℕ → Option Number → Type 0
FieldAt s p r = r ≡ field_at s p

abbrev pub FieldsAt : List ℕ → ℕ → ℕ → Option Fields → Type 0
FieldsAt s p count r = r ≡ fields_at s p count

abbrev pub RestOfLine : List ℕ → ℕ → ℕ → Option Fields → Type 0
RestOfLine s p count r = r ≡ rest_of_line s p count

abbrev pub LineOf : List ℕ → ℕ → List ℕ → ℕ → Option Fields → Type 0
LineOf s p word count r = r ≡ line_of s p word count
