use mathlib.Core.Path.{sym, ap}
use Rattle.desks.specs.Inner.Lent.{refused_in}
use Rattle.desks.proofs.lines.bounds_number.Goals as goal

-- src/lines.rt:360:1
pub returns-in-Refused : goal.returns-in-Refused
unfolding refused_in
returns-in-Refused c = sym (ap refused_in c.in-Refused.is)

-- src/lines.rt:360:1
pub returns-in-NotBounded : goal.returns-in-NotBounded
unfolding refused_in
returns-in-NotBounded c = sym (ap refused_in c.in-NotBounded.is)

-- src/lines.rt:360:1
pub returns-in-Bounded : goal.returns-in-Bounded
unfolding refused_in
returns-in-Bounded c = sym (ap refused_in c.in-Bounded.is)
