-- `sight::all_arrows::kind_of` meets its contract, case by case.
-- Assumes nothing.
use mathlib.Core.Path.{ap, sym}
use Rattle.sight.specs.AllArrows.{kind_of}
use Rattle.sight.proofs.all_arrows.kind_of.Goals as goal

pub returns-in-Moving : goal.returns-in-Moving
unfolding kind_of
returns-in-Moving c = sym (ap kind_of c.in-Moving.is)

pub returns-in-Closed : goal.returns-in-Closed
unfolding kind_of
returns-in-Closed c = sym (ap kind_of c.in-Closed.is)

pub returns-in-Dry : goal.returns-in-Dry
unfolding kind_of
returns-in-Dry c = sym (ap kind_of c.in-Dry.is)

pub returns-in-Still : goal.returns-in-Still
unfolding kind_of
returns-in-Still c = sym (ap kind_of c.in-Still.is)

pub returns-in-Refused : goal.returns-in-Refused
unfolding kind_of
returns-in-Refused c = sym (ap kind_of c.in-Refused.is)
