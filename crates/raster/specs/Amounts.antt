-- Document 02, #104: numbers "in metres with exactly six decimals" as they are written, and with "fewer decimals" as they may be read.
-- Assumes nothing.
use Rattle.std.specs.Prelude.{◌&&◌, List, [], ◌∷◌, ◌++◌, ℕ, zero, suc, ◌+◌, ◌/◌, ◌%◌, leb, length, get_or, drop, Option, None}
use Rattle.reckon.specs.Tests.{pick}
use Rattle.reckon.specs.Lists.{tabulate}
use Rattle.text.specs.Reading.{most_number, is_byte, digits_of, value_from, number, number_at, with_number}
use Rattle.text.specs.Writing.{decimal}
use Rattle.text.specs.declared.reading.Number.{Number}
use Rattle.raster.specs.declared.amounts.Scale.{Scale}
use Rattle.raster.specs.declared.amounts.Scale.TheVariants.{Metres, Whole}

abbrev pub point : ℕ
point = 46

-- ---- as they are written

-- the last digits of a number, as many as are asked for
unfoldable pub last_digits : ℕ → ℕ → List ℕ
last_digits zero n = []
last_digits (suc k) n = last_digits k (n / 10) ++ ((48 + n % 10) ∷ [])

-- micrometres "in metres with exactly six decimals"; a whole number
unfoldable pub amount_text : Scale → ℕ → List ℕ
amount_text Metres n = decimal (n / 1_000_000) ++ (point ∷ last_digits 6 n)
amount_text Whole n = decimal n

-- ---- as they are read: a number as in a sheet, and decimals

-- the most decimals: "more than six decimals .. is 12"; none of a whole number
unfoldable pub places_of : Scale → ℕ
places_of Metres = 6
places_of Whole = 0

-- n with these decimals, in units of the last place; a decimal that is not there is 0
unfoldable pub with_decimals : ℕ → ℕ → List ℕ → ℕ
with_decimals places n ds = value_from n (tabulate places (λ i. get_or ds i 0))

-- a number that ends at q, where it is not above the most
unfoldable pub up_to_most : ℕ → ℕ → Option Number
up_to_most n q = pick (leb n most_number) (number n q) None

-- the whole number n, which ends at q, with what follows it: a point and one or more decimals, not too many; or no point
unfoldable pub decimals_after : ℕ → List ℕ → ℕ → ℕ → Option Number
decimals_after places s n q =
    pick (is_byte s q point)
    (pick (leb 1 (length (digits_of (drop (q + 1) s))) && leb (length (digits_of (drop (q + 1) s))) places)
    (up_to_most (with_decimals places n (digits_of (drop (q + 1) s))) (q + 1 + length (digits_of (drop (q + 1) s)))) None)
    (up_to_most (with_decimals places n []) q)

-- the number at p, in micrometres where it is in metres
unfoldable pub amount_at : Scale → List ℕ → ℕ → Option Number
amount_at k s p = with_number (number_at s p) None (decimals_after (places_of k) s)
