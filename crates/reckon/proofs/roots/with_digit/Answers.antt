-- `reckon::roots::with_digit` meets its contract: above the root's places there is no digit, and below them each place has one.
-- Assumes nothing.
use native.Mathlib.Omega.{arith}
use Rattle.reckon.proofs.PlaceLaws.{place_below, no_digit}
use Rattle.reckon.proofs.roots.with_digit.Goals as goal

pub returns-then-above-place : goal.returns-then-above-place
returns-then-above-place c = no_digit c.requires.1 (omega arith) c.requires.3

pub raise_digit-requires : goal.raise_digit-requires
raise_digit-requires c = (c.requires.0, place_below c.requires.1.place c.requires.2 (omega arith), c.requires.3)
