-- `sight::all_arrows::arrow_in` meets its contract, case by case.
-- Assumes nothing.
use mathlib.Core.Path.{sym, ap, ◌∙◌}
use Rattle.sight.specs.AllArrows.{arrow_in}
use Rattle.sight.proofs.all_arrows.arrow_in.Goals as goal

pub returns-in-Moving : goal.returns-in-Moving
unfolding arrow_in
returns-in-Moving c = sym (ap arrow_in c.in-Moving.is)

pub returns-in-Closed : goal.returns-in-Closed
unfolding arrow_in
returns-in-Closed c = c.no_arrow.ensures ∙ sym (ap arrow_in c.in-Closed.is)

pub returns-in-Dry : goal.returns-in-Dry
unfolding arrow_in
returns-in-Dry c = c.no_arrow-in-Dry.ensures ∙ sym (ap arrow_in c.in-Dry.is)

pub returns-in-Still : goal.returns-in-Still
unfolding arrow_in
returns-in-Still c = c.no_arrow-in-Still.ensures ∙ sym (ap arrow_in c.in-Still.is)

pub returns-in-Refused : goal.returns-in-Refused
unfolding arrow_in
returns-in-Refused c = c.no_arrow-in-Refused.ensures ∙ sym (ap arrow_in c.in-Refused.is)
