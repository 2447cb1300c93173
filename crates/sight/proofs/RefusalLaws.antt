-- Laws of the shared refusals: each row is decided by its own test, and where none applies what is lent is of its size and in range.
-- Assumes nothing.
use mathlib.Core.Path.{◌≡◌, refl, ap}
use mathlib.Core.Bool.{Bool, true, false, ◌||◌}
use mathlib.Core.List.{List, [], ◌∷◌, ◌++◌}
use Prim.Native.Nat.{ℕ, ◌≤◌, ◌<◌}
use lib.Dec.{leb}
use lib.ListN.{length, get_or}
use borrow.Author.Tests.{leb-true, eqb-true}
use Rattle.reckon.specs.Tests.{every, refusal}
use Rattle.reckon.specs.Ranges.{most_depth, water_fine}
use Rattle.reckon.proofs.TestLaws.{and_true, or_right, Each, every_each, all_at, all_ext, refusal_passed}
use Rattle.grid.specs.Squares.{squares, shape_fine}
use Rattle.grid.proofs.SquareLaws.{ranges_of_fine}
use Rattle.ledger.specs.Runs.{Plan}
use Rattle.ledger.specs.Flows.{shut}
use Rattle.ledger.specs.Checks.{one_each, waters_fine, WaterLent}
use Rattle.sight.specs.Refusals.{depths_fine, shared_refusals}

-- a last test after tests that hold decides alone
pub every-last : (bs : List Bool) {b : Bool} → Each bs → every (bs ++ (b ∷ [])) ≡ b
unfolding every
every-last [] {b} h = and_true b
every-last (a ∷ bs) h = rw h.0 (every-last bs h.1)

-- ---- depths alone

twice : (b : Bool) → every (b ∷ b ∷ []) ≡ b
unfolding every
twice true = refl
twice false = refl

module _ (p : Plan) (depths : List ℕ) where
  -- the depths in the place of the last leaving
  pub depths-alone : waters_fine p depths depths ≡ depths_fine p depths
  unfolding waters_fine depths_fine water_fine
  depths-alone = all_ext _ _ _ (λ i l. ap (λ (b : Bool). shut p i || b) (twice (leb (get_or depths i 0) most_depth)))

  pub depth_to : {i : ℕ} → depths_fine p depths ≡ true → i < squares p.shape → shut p i ≡ false → get_or depths i 0 ≤ most_depth
  unfolding depths_fine
  depth_to {i} e h o = leb-true _ _ (or_right (shut p i) _ (all_at _ _ e i h) o)

  -- ---- what is of its size

  pub sized : every (shape_fine p.shape ∷ one_each p p.marks ∷ one_each p depths ∷ []) ≡ true → WaterLent p depths depths
  unfolding one_each
  sized e =
      let each = every_each _ e in
      let long = eqb-true (length depths) (squares p.shape) each.1.1.0 in
      record {
        fine = ranges_of_fine _ each.0;
        marks_long = eqb-true (length p.marks) (squares p.shape) each.1.0;
        depths_long = long;
        lasts_long = long;
      }

  -- none of the shared rows applies
  pub record Lent (more : Bool) : Type 0 where
    pub sizes : WaterLent p depths depths
    pub more_fine : more ≡ true
    pub depths-fine : depths_fine p depths ≡ true

  pub lent : (more : Bool) → refusal (shared_refusals p depths more) ≡ 0 → Lent more
  unfolding shared_refusals
  lent more e =
      let rows = refusal_passed (shared_refusals p depths more) tt e in
      record { sizes = sized rows.0; more_fine = rows.1.0; depths-fine = rows.1.1.1.0 }
