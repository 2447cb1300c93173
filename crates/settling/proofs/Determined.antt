-- Every contract leaves one outcome: each is an equation for all that a call gives.
-- Assumes nothing.
use Rattle.std.proofs.Common.{ℕ, List, sym, ◌∙◌}
use Rattle.reckon.specs.Outcomes.{One}
use Rattle.ledger.specs.Runs.{Plan, World, world}
use Rattle.settling.specs.Inner.Settle.{SettlesTo, next_record}
use Rattle.settling.specs.declared.settle.Settled.{Settled}
use Rattle.reckon.proofs.OutcomeLaws.{exactly}
use Rattle.settling.specs.Inner.Determined.{SettlingDetermined}

-- the record room stays
settled_one :
    {p : Plan} {held : ℕ} {w : World} →
    One {Out = Settled × (List ℕ × List ℕ)} (λ o. SettlesTo p (next_record p w) held w o.0.refused (world o.1.0 o.1.1 w.records o.0.run))
settled_one a b x y =
    let n = x.number ∙ sym y.number in
    let e = x.world_is ∙ sym y.world_is in
    λ j. (record { refused = n j; run = (e j).run }, ((e j).depths, (e j).lasts))

pub settling_determined : SettlingDetermined
settling_determined = record { settle = λ p held w. settled_one; surely-settles = λ u depths room. exactly }
