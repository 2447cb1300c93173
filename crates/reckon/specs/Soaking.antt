-- Document 02, #106: what is due to soak by a clock, and in a step.
-- Assumes nothing.
use Rattle.std.specs.Prelude.{◌≡◌, ℕ, ◌-◌, ◌*◌, ◌/◌, ◌≤◌}
use Rattle.reckon.specs.Ranges.{last_clock, most_soak_rate}
use Rattle.reckon.specs.Tables.{hour}

-- "By clock t, rate·t / 3,600,000 is due"
unfoldable pub soak_by : ℕ → ℕ → ℕ
soak_by rate t = rate * t / hour

-- "a step's due is the difference between its end and start"
unfoldable pub soak_due : ℕ → ℕ → ℕ → ℕ
soak_due rate start end = soak_by rate end - soak_by rate start

-- ---- what is asked, and what the public function gives

-- rate and clocks in range
pub record Soaks (rate start end : ℕ) : Type 0 where
  pub rate_to : rate ≤ most_soak_rate
  pub ordered : start ≤ end
  pub end_to : end ≤ last_clock

abbrev pub SoakDue : ℕ → ℕ → ℕ → ℕ → Type 0
SoakDue rate start end r = r ≡ soak_due rate start end
