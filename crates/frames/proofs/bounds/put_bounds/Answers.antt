-- `frames::bounds::put_bounds` meets its contract, variant by variant.
-- Assumes nothing.
use Rattle.text.proofs.WritingLaws.{written_as}
use Rattle.frames.proofs.BoundsLaws.{bounded_text, unbounded_text, refused_nothing}
use Rattle.frames.proofs.bounds.put_bounds.Goals as goal

pub returns-in-Bounded : goal.returns-in-Bounded
returns-in-Bounded c = written_as (bounded_text c.in-Bounded.is) c.put_both.ensures

pub returns-in-NotBounded : goal.returns-in-NotBounded
returns-in-NotBounded c = written_as (unbounded_text c.in-NotBounded.is) c.put_word.ensures

pub returns-in-Refused : goal.returns-in-Refused
returns-in-Refused c = refused_nothing c.in-Refused.is
