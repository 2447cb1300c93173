-- The ring of rates beside the ring of records.
-- Assumes nothing.
use Rattle.std.specs.Prelude.{◌≡◌, List, [], ℕ, zero, suc, ◌≤◌, ◌<◌, length, get_or}
use Rattle.trials.specs.Ring.{slots_in, slot_after, slot_ago, kept_after}
use Rattle.trials.specs.Room.{record_in}
use Rattle.text.specs.Writing.{Wrote}
use Rattle.hatches.specs.Log.{most_hatches, table_with, rates_kept, rates_back}
use Rattle.hatches.specs.declared.log.Hatches.{Hatches}
use Rattle.hatches.specs.declared.log.Log.{Log}

-- the newest slot and how many are kept after so many steps
unfoldable pub newest_after : ℕ → ℕ → ℕ → ℕ
newest_after K zero newest = newest
newest_after K (suc n) newest = newest_after K n (slot_after K newest)

unfoldable pub kept_steps : ℕ → ℕ → ℕ → ℕ
kept_steps K zero kept = kept
kept_steps K (suc n) kept = kept_steps K n (kept_after K kept)

-- the rates of each kept step lie in the slot of its record
pub record Beside (K kept newest : ℕ) (began : List ℕ) (standing : List (List ℕ)) : Type 0 where
  pub some : 0 < K
  pub kept_fits : kept ≤ K
  pub newest_below : newest < K
  pub room : K ≤ slots_in most_hatches (length began)
  pub few : kept ≤ length standing
  pub rates : (j : ℕ) → j < kept → record_in most_hatches began (slot_ago K newest j) ≡ get_or standing j []

-- ---- what the public functions give

abbrev pub TableFilled : List ℕ → Hatches → List ℕ → List ℕ → List ℕ → ℕ → Type 0
TableFilled inflow hs litres old new r = Wrote (table_with inflow hs litres) 0 old new r

abbrev pub RatesStored : ℕ → ℕ → ℕ → List ℕ → List ℕ → List ℕ → Type 0
RatesStored slots steps newest litres old new = new ≡ rates_kept slots steps newest litres old

abbrev pub RatesRestored : ℕ → List ℕ → Log → ℕ → List ℕ → Type 0
RatesRestored slots began log steps r = r ≡ rates_back slots began log steps
