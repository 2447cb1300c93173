-- Texts that stand in others: what the laws of reading and writing are stated with. No public promise names these.
-- Assumes nothing.
use Rattle.std.specs.Prelude.{◌≡◌, Bool, true, false, List, [], ◌∷◌, ◌++◌, ℕ, suc, ◌+◌, ◌≤◌, eqb, length, get_or, drop}
use Rattle.reckon.specs.Tests.{pick}
use Rattle.text.specs.Reading.{newline, most_number, is_digit, line_from}

-- a text with no newline in it
unfoldable pub plain : List ℕ → Bool
plain [] = true
plain (b ∷ t) = pick (eqb b newline) false (plain t)

-- each value is "at most 4,294,967,295"
abbrev pub Readable : List ℕ → Type 0
Readable [] = Unit {0}
Readable (v ∷ vs) = (v ≤ most_number) × Readable vs

-- the text t stands in s at p, and q is the position after it
pub record StandsAt (s : List ℕ) (p : ℕ) (t : List ℕ) (q : ℕ) : Type 0 where
  pub after : q ≡ p + length t
  pub text : drop p s ≡ t ++ drop q s

-- the same of a number or of fields of these values: they are readable, and no digit follows
pub record StandAlone (s : List ℕ) (p : ℕ) (t vs : List ℕ) (q : ℕ) : Type 0 where
  pub stands : StandsAt s p t q
  pub alone : is_digit (get_or s q 0) ≡ false
  pub readable : Readable vs

-- and of count fields that were read
pub record AsWritten (s : List ℕ) (p : ℕ) (t vs : List ℕ) (count q : ℕ) : Type 0 where
  pub stands : StandsAt s p t q
  pub many : length vs ≡ count
  pub readable : Readable vs

-- the text t is line k of s, counted from 0
abbrev pub LineStands : List ℕ → ℕ → List ℕ → Type 0
LineStands s k t = StandsAt s (line_from s 0 k) t (line_from s 0 (suc k))
