-- Laws of run values, worlds and answers: the last test decides where the others hold, and parts that are equal make equal wholes.
-- Assumes nothing.
use mathlib.Core.Path.{◌≡◌, refl, sym}
use mathlib.Core.Bool.{Bool, true}
use mathlib.Core.List.{List, [], ◌∷◌, ◌++◌}
use Prim.Native.Nat.{ℕ, zero, suc, ◌≤◌}
use lib.Dec.{leb}
use borrow.Author.Tests.{le-leb}
use Rattle.reckon.specs.Tests.{every}
use Rattle.reckon.specs.Ranges.{most_length, last_clock, most_outflow, most_soaked}
use Rattle.reckon.proofs.TestLaws.{Each, every_each, and_true}
use Rattle.trials.specs.Ring.{ring_fine}
use Rattle.trials.proofs.RingLaws.{Ring, fine_ring}
use Rattle.ledger.specs.Runs.{run_values_fine, run_fine, answered}
use Rattle.ledger.specs.declared.runs.Run.{Run}
use Rattle.ledger.specs.declared.runs.Answer.TheVariants.{Done, Refused}

pub every_decides : (bs : List Bool) (b : Bool) → Each bs → b ≡ every (bs ++ (b ∷ []))
unfolding every
every_decides [] b h = sym (and_true b)
every_decides (a ∷ bs) b h = rw h.0 (every_decides bs b h.1)

pub soaked_decides :
    (K : ℕ) (u : Run) → ring_fine K u.kept u.newest ≡ true → u.clock ≤ last_clock → 1 ≤ u.length → u.length ≤ most_length →
    u.outflow ≤ most_outflow → leb u.soaked most_soaked ≡ run_fine K u
unfolding run_fine run_values_fine
soaked_decides K u r a b c d =
    every_decides
    (ring_fine K u.kept u.newest ∷ leb u.clock last_clock ∷ leb 1 u.length ∷ leb u.length most_length ∷ leb u.outflow most_outflow ∷ [])
    (leb u.soaked most_soaked) (r, (le-leb _ _ a, (le-leb _ _ b, (le-leb _ _ c, (le-leb _ _ d, tt)))))

pub run_ring : (K : ℕ) (u : Run) → run_fine K u ≡ true → Ring K u.kept u.newest
unfolding run_fine run_values_fine
run_ring K u e = fine_ring K u.kept u.newest (every_each _ e).0

-- ---- answers

pub answered_done : {n : ℕ} (u : Run) → n ≡ 0 → Done u ≡ answered n u
unfolding answered
answered_done u e = rw e

pub answered-refused : (n : ℕ) (u : Run) → (n ≡ 0 → ⊥) → Refused n ≡ answered n u
unfolding answered
answered-refused zero u d = absurd (d refl)
answered-refused (suc n) u d = refl
