-- A contract that is an equation leaves one outcome.
-- Assumes nothing.
use mathlib.Core.Path.{◌≡◌, sym, ◌∙◌}
use Rattle.reckon.specs.Outcomes.{One}

-- what is equal to one thing
pub exactly : {A : Type 0} {x : A} → One {Out = A} (λ r. r ≡ x)
exactly a b p q = p ∙ sym q
