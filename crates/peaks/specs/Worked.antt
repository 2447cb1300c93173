-- Document 02, #114, worked by hand: the greatest of a row of numbers, and what is printed of a square, every number another one.
-- Assumes nothing.
use Rattle.std.specs.Prelude.{◌≡◌, List, [], ◌∷◌, ℕ, get_or}
use Rattle.reckon.specs.Most.{most_over, first_most}
use Rattle.ledger.specs.Runs.{Plan, plan}
use Rattle.text.specs.Bytes.{bytes_of}
use Rattle.peaks.specs.Highest.{high_text, high_world_text}

-- states of 3, 7, 5, 7 and 6 µm: the deepest is the second, and the fourth is only as deep
abbrev pub states : ℕ → ℕ
states k = get_or (3 ∷ 7 ∷ 5 ∷ 7 ∷ 6 ∷ []) k 0

-- two rows of three, the second square closed
abbrev pub meadow : Plan
meadow = plan (record { rows = 2; columns = 3 }) (1 ∷ 0 ∷ 1 ∷ 1 ∷ 1 ∷ 2 ∷ [])

abbrev pub peaks : List ℕ
peaks = 11 ∷ 12 ∷ 13 ∷ 14 ∷ 15 ∷ 16 ∷ []

abbrev pub clocks : List ℕ
clocks = 2_100 ∷ 2_200 ∷ 2_300 ∷ 2_400 ∷ 2_500 ∷ 2_600 ∷ []

pub record PeakCases : Type 0 where
  pub deepest : most_over 4 states ≡ 7
  pub first_deepest : first_most 4 states ≡ 1
  pub starting_state : most_over 0 states ≡ 3
  pub square : high_text meadow peaks clocks 5 ≡ bytes_of "cell\t1\t2\t16\t2600\n"
  pub closed-square : high_text meadow peaks clocks 1 ≡ []
  pub whole :
      high_world_text meadow peaks clocks (record { clock = 3_000; length = 500; outflow = 21; kept = 1; newest = 0; soaked = 22 }) 6
      ≡ bytes_of "cell\t0\t0\t11\t2100\ncell\t0\t2\t13\t2300\ncell\t1\t0\t14\t2400\ncell\t1\t1\t15\t2500\ncell\t1\t2\t16\t2600\nout\t21\nsoak\t22\nsteps\t6\nclock\t3000\n"
