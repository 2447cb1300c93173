-- What the exported figures before a run give.
-- Assumes nothing.
use Rattle.std.specs.Prelude.{◌≡◌, Bool, List, [], ◌∷◌, ℕ}
use Rattle.reckon.specs.Tests.{every, pick}
use Rattle.checks.specs.Bounds.{bounds_of}
use Rattle.checks.specs.declared.bounds.Bounds.{Bounds}
use Rattle.checks.specs.declared.bounds.Bounds.TheVariants.{Bounded, NotBounded, Refused}
use Rattle.exports.specs.Numbers.{bounds_size, rules_from, rules_size, sized}
use Rattle.exports.specs.Refusals.{number_if}

-- both figures, the case of its own, or a refusal, each as a number
unfoldable pub bounds_told : Bounds → ℕ
bounds_told (Bounded b) = 0
bounds_told NotBounded = 104
bounds_told (Refused n) = n

-- the most and the least; else the slice stays
unfoldable pub figures_in : Bounds → List ℕ → List ℕ
figures_in (Bounded b) old = b.most ∷ b.least ∷ []
figures_in NotBounded old = old
figures_in (Refused n) old = old

module _ (clock end : ℕ) (rules old : List ℕ) where
  abbrev pub bounds_sized : Bool
  bounds_sized = every (sized rules rules_size ∷ sized old bounds_size ∷ [])

  pub record ExportsBounds (number : ℕ) (bounds : List ℕ) : Type 0 where
    pub number_is : number ≡ number_if bounds_sized (bounds_told (bounds_of (rules_from rules) clock end))
    pub bounds_are : bounds ≡ pick bounds_sized (figures_in (bounds_of (rules_from rules) clock end) old) old
