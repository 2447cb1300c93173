-- What only the inner functions that tell an answer give: what its slice holds.
-- Assumes nothing.
use Rattle.std.specs.Prelude.{List, [], ◌∷◌, ℕ}
use Rattle.ledger.specs.declared.runs.Answer.{Answer}
use Rattle.ledger.specs.declared.runs.Answer.TheVariants.{Done, Refused}
use Rattle.sight.specs.declared.wet_rows.Wet.{Wet}
use Rattle.sight.specs.declared.wet_rows.Wet.TheVariants.{Count}
use Rattle.exports.specs.Numbers.{run_numbers}

-- ---- an answer that gives a run

-- the run, or what the slice held
unfoldable pub answer_run : Answer → List ℕ → List ℕ
answer_run (Done u) old = run_numbers u
answer_run (Refused n) old = old

-- ---- an answer that gives a count

-- the count, or what the slice held
unfoldable pub count_in : Wet → List ℕ → List ℕ
count_in (Count n) old = n ∷ []
count_in (Wet.Refused n) old = old
