-- What the functions that read a number give one another: a number and some of its decimals.
-- Assumes nothing.
use Rattle.std.specs.Prelude.{◌≡◌, List, ℕ, ◌+◌, ◌*◌, min, length, get_or, drop}
use Rattle.text.specs.Reading.{digits_of}
use Rattle.raster.specs.Amounts.{with_decimals}

abbrev pub most_places : ℕ
most_places = 6

-- the most that a number with five decimals can be, in units of the last
abbrev pub most_tenth : ℕ
most_tenth = 429_496_729_599_999

-- value with one decimal more, that at position p or 0 where there is none, and the position after it
pub record NextDecimal (s : List ℕ) (value p after next : ℕ) : Type 0 where
  pub worth : after ≡ value * 10 + get_or (digits_of (drop p s)) 0 0
  pub end : next ≡ p + min 1 (length (digits_of (drop p s)))

-- a whole number with so many decimals from p on, and the position after those of them that are there
pub record DecimalsAt (s : List ℕ) (p whole places value next : ℕ) : Type 0 where
  pub worth : value ≡ with_decimals places whole (digits_of (drop p s))
  pub end : next ≡ p + min places (length (digits_of (drop p s)))
