-- A state that was laid can be saved: its numbers and those in the rooms are in range.
-- Assumes nothing.
use mathlib.Core.Path.{◌≡◌, refl, sym, ◌∙◌}
use mathlib.Core.Bool.{true, false, ◌||◌}
use mathlib.Core.List.{List}
use Prim.Native.Nat.{ℕ, zero, suc, ◌<◌}
use native.Mathlib.Omega.{arith}
use lib.ListN.{get_or}
use Rattle.reckon.specs.Lists.{filled}
use Rattle.reckon.specs.Ranges.{water_fine}
use Rattle.reckon.proofs.TestLaws.{all_ext, refusal_passed}
use Rattle.reckon.proofs.ListLaws.{filled_in}
use Rattle.grid.specs.Squares.{squares}
use Rattle.ledger.specs.Runs.{Plan}
use Rattle.ledger.specs.Flows.{shut}
use Rattle.ledger.specs.Checks.{waters_fine, WaterLent}
use Rattle.text.proofs.ReadingLaws.{by_test}
use Rattle.stands.specs.Laying.{named_in, start_from, depth_from, last_from, bad_line, waters_read, draws_fine, state_fine, checks_of, saved_from, saved_in, number_of, stand_of, Water, water_from, water_after}
use Rattle.stands.specs.Inner.Back.{Savable}
use Rattle.stands.proofs.SquareLaws.{closed-water, waters_as}
use Rattle.stands.proofs.TidyLaws.{laid_tidy}

number_none : (bad number : ℕ) → number_of bad number ≡ 0 → (bad ≡ 0) × (number ≡ 0)
unfolding number_of
number_none zero number e = (refl, e)
number_none (suc bad) number e = absurd (let z : ◌≡◌ {A = ℕ} 0 1 = omega (arith, e) in omega arith)

module _ (p : Plan) (inflow : List ℕ) (slots : ℕ) (s : List ℕ) (old : Water) (lent : WaterLent p old.depths old.lasts) (e : (stand_of p inflow slots s).number ≡ 0) where
  abbrev q : ℕ
  q = (named_in s).next

  abbrev n : ℕ
  n = squares p.shape

  checks_none : (bad_line s p ≡ 0) × (checks_of p inflow slots s q (saved_in slots s) ≡ 0)
  unfolding stand_of
  checks_none = number_none (bad_line s p) _ e

  passed : (waters_read s q p ≡ true) × (draws_fine p inflow (saved_in slots s).log ≡ true) × (state_fine slots (saved_in slots s) ≡ true)
  unfolding checks_of
  passed = let rows = refusal_passed _ tt checks_none.1 in (rows.0, rows.1.0, rows.1.1.0)

  depths_in : (i : ℕ) → i < n → shut p i ≡ false → get_or (filled n (shut p) (depth_from s q p.marks) old.depths) i 0 ≡ depth_from s q p.marks i
  depths_in i l o = filled_in n (shut p) (depth_from s q p.marks) old.depths i (omega (arith, l, lent.depths_long)) l o

  lasts_in : (i : ℕ) → i < n → shut p i ≡ false → get_or (filled n (shut p) (last_from s q p.marks) old.lasts) i 0 ≡ last_from s q p.marks i
  lasts_in i l o = filled_in n (shut p) (last_from s q p.marks) old.lasts i (omega (arith, l, lent.lasts_long)) l o

  waters_laid : waters_fine p (water_after p s 0 old).depths (water_after p s 0 old).lasts ≡ true
  unfolding waters_fine water_after water_from
  waters_laid = all_ext n _ (λ i. water_fine (depth_from s q p.marks i) (last_from s q p.marks i)) same ∙ (sym (waters_as s q p) ∙ passed.0)
    where
      same : (i : ℕ) → i < n →
          (shut p i || water_fine (get_or (filled n (shut p) (depth_from s q p.marks) old.depths) i 0) (get_or (filled n (shut p) (last_from s q p.marks) old.lasts) i 0))
          ≡ water_fine (depth_from s q p.marks i) (last_from s q p.marks i)
      same i l =
          by_test (shut p i) (λ t. rw t (sym (closed-water s (start_from s q p.marks i) p.marks i t)))
          (λ o. rw (o, depths_in i l o, lasts_in i l o))

  pub laid_savable : Savable p inflow slots (water_after p s 0 old).depths (water_after p s 0 old).lasts (saved_in slots s)
  unfolding saved_from
  laid_savable =
      record { shape = lent.fine; waters = waters_laid; draws = passed.1; state = passed.2; tidy = laid_tidy slots s }
