-- Laws of times with one step more: square by square the room is filled.
-- Assumes nothing.
use mathlib.Core.Path.{◌≡◌, refl, ap, ◌∙◌}
use mathlib.Core.Bool.{false}
use mathlib.Core.List.{List}
use Prim.Native.Nat.{ℕ, ◌+◌, ◌≤◌, ◌<◌}
use native.Mathlib.Omega.{arith}
use lib.Dec.{leb}
use lib.ListN.{length, get_or, set}
use Rattle.reckon.specs.Lists.{filled, tabulate}
use Rattle.reckon.proofs.TestLaws.{pick_both}
use Rattle.reckon.proofs.ListLaws.{length-filled, filled_ahead, filled_in, filled_store, is_tabulate}
use Rattle.grid.specs.Marks.{closed}
use Rattle.hours.specs.Hours.{wet_depth}
use Rattle.hours.specs.Inner.Wet.{wet_for, times_after}

-- no square counts more than the step
pub wet_at_most : (lasted : ℕ) (marks depths : List ℕ) (i : ℕ) → wet_for lasted marks depths i ≤ lasted
unfolding wet_for
wet_at_most lasted marks depths i =
    pick_both (λ (k : ℕ). k ≤ lasted) (closed marks i) (omega arith)
    (pick_both (λ (k : ℕ). k ≤ lasted) (leb wet_depth (get_or depths i 0)) (omega arith) (omega arith))

-- a room that is filled whole
all_filled : (n : ℕ) (f : ℕ → ℕ) (old : List ℕ) → length old ≡ n → filled n (λ _. false) f old ≡ tabulate n f
all_filled n f old e =
    is_tabulate n f (filled n (λ _. false) f old) (length-filled n (λ _. false) f old ∙ e)
    (λ i l. filled_in n (λ _. false) f old i (omega (arith, e)) l refl)

module _ (lasted : ℕ) (marks depths times₀ : List ℕ) where
  abbrev pub time_for : ℕ → ℕ
  time_for i = get_or times₀ i 0 + wet_for lasted marks depths i

  -- the room up to a square
  pub record AddedTo (i : ℕ) (times : List ℕ) : Type 0 where
    pub times_are : times ≡ filled i (λ _. false) time_for times₀

  pub added_long : {i : ℕ} {times : List ℕ} → AddedTo i times → length times ≡ length times₀
  added_long {i} r = ap (λ (l : List ℕ). length l) r.times_are ∙ length-filled i (λ _. false) time_for times₀

  module _ (i : ℕ) (here : i < length times₀) {times : List ℕ} (r : AddedTo i times) where
    pub added_ahead : get_or times i 0 ≡ get_or times₀ i 0
    added_ahead = ap (λ (l : List ℕ). get_or l i 0) r.times_are ∙ filled_ahead (λ _. false) time_for times₀ i here

    pub added_more : {v : ℕ} → v ≡ get_or times i 0 + wet_for lasted marks depths i → AddedTo (i + 1) (set times i v)
    added_more {v} e =
        record {
          times_are =
              ap (λ (l : List ℕ). set l i v) r.times_are
              ∙ filled_store (λ _. false) time_for times₀ i here refl (e ∙ ap (λ (k : ℕ). k + wet_for lasted marks depths i) added_ahead);
        }

  pub added_whole : {i : ℕ} {times : List ℕ} → length times₀ ≡ length marks → i ≡ length marks → AddedTo i times → times ≡ times_after lasted marks depths times₀
  unfolding times_after
  added_whole long e r =
      r.times_are ∙ (ap (λ (n : ℕ). filled n (λ _. false) time_for times₀) e ∙ all_filled (length marks) time_for times₀ long)
