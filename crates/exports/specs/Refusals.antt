-- What a refused call gives: one number, and every slice as it was.
-- Assumes nothing.
use Rattle.std.specs.Prelude.{Bool, ◌&&◌, ℕ, eqb, leb}
use Rattle.reckon.specs.Tests.{pick}

-- refusal 1, before all else: a slice has not its size; else the call's own number
unfoldable pub number_if : Bool → ℕ → ℕ
number_if sized number = pick sized number 1

-- "with the run as it was and every lent slice as it was": what a call makes of a slice where its number is 0, else what it held
unfoldable pub unless_refused : {A : Type 0} → ℕ → A → A → A
unless_refused number made old = pick (eqb number 0) made old

-- the last number of the table that is tried before any step
abbrev pub last_check : ℕ
last_check = 6

-- "it gives that number with the steps made .. the exception to 'as it was'": only a run's checks leave what it tells as it was
unfoldable pub unless_checks : {A : Type 0} → ℕ → A → A → A
unless_checks number made old = pick (leb 1 number && leb number last_check) old made
