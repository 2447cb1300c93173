-- Laws of the checks that several calls share: a record's times, test by test.
-- Assumes nothing.
use mathlib.Core.Path.{◌≡◌, sym}
use mathlib.Core.Bool.{Bool, true, false}
use mathlib.Core.List.{List, [], ◌∷◌}
use Prim.Native.Nat.{ℕ, ◌≤◌}
use lib.Dec.{leb}
use lib.ListN.{get_or}
use borrow.Author.Tests.{le-leb}
use Rattle.reckon.specs.Ranges.{most_length}
use Rattle.reckon.proofs.TestLaws.{every_fails}
use Rattle.ledger.specs.Record.{held_in, lasted_in}
use Rattle.ledger.specs.Checks.{times_fine}
use Rattle.ledger.proofs.RunLaws.{every_decides}

module _ (rec : List ℕ) where
  abbrev times : List Bool
  times = leb 1 (held_in rec) ∷ leb (held_in rec) most_length ∷ leb 1 (lasted_in rec) ∷ leb (lasted_in rec) most_length ∷ []

  pub times_fail : (k : ℕ) → get_or times k true ≡ false → false ≡ times_fine rec
  unfolding times_fine
  times_fail k e = sym (every_fails times k e)

  pub lasted_decides : 1 ≤ held_in rec → held_in rec ≤ most_length → 1 ≤ lasted_in rec → leb (lasted_in rec) most_length ≡ times_fine rec
  unfolding times_fine
  lasted_decides a b c =
      every_decides (leb 1 (held_in rec) ∷ leb (held_in rec) most_length ∷ leb 1 (lasted_in rec) ∷ []) (leb (lasted_in rec) most_length)
      (le-leb _ _ a, (le-leb _ _ b, (le-leb _ _ c, tt)))
