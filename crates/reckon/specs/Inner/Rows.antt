-- What laws about tables of refusals ask.
-- Assumes nothing.
use Rattle.std.specs.Prelude.{Bool, true, ◌&&◌, List, [], ◌∷◌, leb}
use Rattle.reckon.specs.Tests.{Row}

-- no row has the number 0, which says that nothing is refused
abbrev pub numbered : List Row → Bool
numbered [] = true
numbered (r ∷ rs) = leb 1 r.number && numbered rs
