-- `text::reading::digit` meets its contract: a digit's byte lies between those of 0 and 9.
-- Assumes nothing.
use native.Mathlib.Omega.{arith}
use Rattle.text.proofs.ReadingLaws.{digit-within, digit_low, digit_high}
use Rattle.text.proofs.reading.digit.Goals as goal

pub bounds-text-at : goal.bounds-text-at
bounds-text-at c = digit-within c.args.text.now c.args.at c.requires

pub overflow_sub-result : goal.overflow_sub-result
overflow_sub-result c = omega (arith, digit_low _ c.requires)

pub overflow_cast-result : goal.overflow_cast-result
overflow_cast-result c = omega (arith, digit_low _ c.requires, digit_high _ c.requires)

pub returns : goal.returns
returns c = omega (arith, digit_low _ c.requires)
