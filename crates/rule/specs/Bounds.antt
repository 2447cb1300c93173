-- Document 02, #112: "How many steps can an evening take."
-- Assumes nothing.
use Rattle.std.specs.Prelude.{◌≡◌, ℕ, ◌+◌, ◌-◌, ◌*◌, ◌/◌}
use Rattle.rule.specs.declared.rules.Rules.{Rules}

-- "the least whole number not below U/shortest": that of a time and a length (`over_reached`, `over_least`)
unfoldable pub steps_over : ℕ → ℕ → ℕ
steps_over time length = (time + length - 1) / length

-- "the steps counted are at most (E − clock)/U times the least whole number not below U/shortest"
unfoldable pub most_steps : Rules → ℕ → ℕ → ℕ
most_steps r clock end = (end - clock) / r.update * steps_over r.update r.shortest

-- "and at least the same with longest"
unfoldable pub least_steps : Rules → ℕ → ℕ → ℕ
least_steps r clock end = (end - clock) / r.update * steps_over r.update r.longest

-- ---- what the public function gives

abbrev pub StepsOver : ℕ → ℕ → ℕ → Type 0
StepsOver time length r = r ≡ steps_over time length
