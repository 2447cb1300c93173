-- Document 01, "Flow arrows and wet rows": the speed through a side and the arrow of four speeds, in f64, bit for bit.
-- Assumes nothing.
use Rattle.std.specs.Prelude.{false, ℕ, ◌-◌, ◌*◌, eqb, ltb, pos, Float}
use Rattle.std.specs.Float.Ieee as Ieee
use Rattle.std.specs.Float.{fin, binary64}
use Rattle.reckon.specs.Tests.{pick}
use Rattle.sight.specs.declared.speeds.Arrow.{Arrow}
use Rattle.sight.specs.declared.speeds.Through.{Through}

-- "0"
abbrev pub zero64 : Float
zero64 = fin false 0 (pos 0)

-- "the quotient .. rounded once": the f64 nearest to n / m, the even one of two as near
unfoldable pub quotient_of : ℕ → ℕ → Float
unfolding Ieee.round
quotient_of n m = Ieee.round binary64 false n m

-- "the quotient of 2000·|net|·D by (own depth + neighbour's depth)·lasted"
abbrev pub pace : ℕ → ℕ → ℕ → ℕ → Float
pace D lasted net deep = quotient_of (2000 * net * D) (deep * lasted)

-- "0 if net is 0, else the quotient .., negated where net is negative": net is what left less what came back
unfoldable pub side_speed : ℕ → ℕ → Through → Float
unfolding quotient_of Ieee.neg
side_speed D lasted t =
    pick (eqb t.out t.back) zero64
    (pick (ltb t.back t.out) (pace D lasted (t.out - t.back) t.deep) (Ieee.neg (pace D lasted (t.back - t.out) t.deep)))

-- "The arrow is east speed less west speed, and north less south, each rounded once": of the speeds north, east, south, west
abbrev pub arrow_of : Float → Float → Float → Float → Arrow
arrow_of n e s w = record { east = Ieee.sub binary64 e w; north = Ieee.sub binary64 n s }
