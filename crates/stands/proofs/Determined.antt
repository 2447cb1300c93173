-- Every contract leaves one outcome: what is handed back and what the rooms hold are told by equations.
-- Assumes nothing.
use mathlib.Core.Path.{◌≡◌, sym, ap, ◌∙◌}
use mathlib.Core.List.{List}
use Prim.Native.Nat.{ℕ}
use Rattle.ledger.specs.Runs.{Plan}
use Rattle.text.proofs.Determined.{written}
use Rattle.stands.specs.Laying.{Lays, Water, water, water_after}
use Rattle.stands.specs.Inner.Determined.{StandsDetermined}
use Rattle.stands.specs.declared.saved.Laid.{Laid}

laid_once : {p : Plan} {inflow : List ℕ} {slots : ℕ} {s : List ℕ} {before : Water} (a b : Laid × List ℕ × List ℕ) →
    Lays p inflow slots s before a.0 (water a.1 a.2) → Lays p inflow slots s before b.0 (water b.1 b.2) → a ≡ b
laid_once {p} {inflow} {slots} {s} {before} a b x y =
    let same : a.0 ≡ b.0 = x.answer ∙ sym y.answer in
    let rooms : water a.1 a.2 ≡ water b.1 b.2 =
    x.rooms_are ∙ (ap (λ (r : Laid). water_after p s r.number before) same ∙ sym y.rooms_are) in
    λ j. (same j, (rooms j).depths, (rooms j).lasts)

pub stands_determined : StandsDetermined
stands_determined =
    record {
      put_stand = λ p depths lasts a at room x y u v. written x y u.wrote v.wrote;
      read_stand = λ p inflow slots text depths lasts. laid_once;
    }
