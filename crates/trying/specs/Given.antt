-- The water account of a trial: "all that rain and inflow tables give the standing steps" (document 02, #108), kept from step to step.
-- Assumes nothing.
use Rattle.std.specs.Prelude.{◌≡◌, ℕ, ◌+◌, get_or, set, replicate}
use Rattle.trying.specs.declared.given.Account.{Account}

-- so many steps are kept at most
abbrev pub most_slots : ℕ
most_slots = 256

-- of a state of which no step is kept
abbrev pub account_opened : ℕ → ℕ → Account
account_opened start given = record { start = start; given = given; before = replicate most_slots 0 }

-- after a step that was given so much: what was given before it stands beside its record
abbrev pub account_with : Account → ℕ → ℕ → Account
account_with a slot more = record { start = a.start; given = a.given + more; before = set a.before slot a.given }

-- after take-backs: what was given before the earliest of those steps
abbrev pub account_back : Account → ℕ → Account
account_back a slot = record { start = a.start; given = get_or a.before slot 0; before = a.before }

-- ---- what the public function gives

abbrev pub AccountOpened : ℕ → ℕ → Account → Type 0
AccountOpened start given r = r ≡ account_opened start given
