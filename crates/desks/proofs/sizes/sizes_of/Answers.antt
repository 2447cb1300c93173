use mathlib.Core.Path.{◌≡◌, refl, ap₂}
use mathlib.Core.List.{[]}
use Prim.Native.Nat.{ℕ, ◌*◌}
use native.Mathlib.Omega.{arith}
use Rattle.ledger.specs.Runs.{plan}
use Rattle.ledger.specs.Record.{record_size}
use Rattle.desks.specs.State.{kept_slots}
use Rattle.desks.proofs.StateLaws.{fine_is, slots_fit, slots_most, sizes_made}
use Rattle.desks.proofs.sizes.sizes_of.Goals as goal

-- src/sizes.rt:41:9
pub kept_slots-slots-requires : goal.kept_slots-slots-requires
kept_slots-slots-requires c = (fine_is c.args.heading c.requires).shape

-- src/sizes.rt:43:18
pub squares_of-requires : goal.squares_of-requires
squares_of-requires c = (fine_is c.args.heading c.requires).shape

-- src/sizes.rt:44:15
pub overflow_mul-result : goal.overflow_mul-result
overflow_mul-result c = omega (arith, (fine_is c.args.heading c.requires).rain)

-- src/sizes.rt:45:17
pub overflow_mul-result-2 : goal.overflow_mul-result-2
overflow_mul-result-2 c = omega (arith, (fine_is c.args.heading c.requires).inflow)

-- src/sizes.rt:46:26
pub record_size-requires : goal.record_size-requires
record_size-requires c = (fine_is c.args.heading c.requires).shape

-- src/sizes.rt:46:18
pub overflow_mul-result-3 : goal.overflow_mul-result-3
overflow_mul-result-3 c =
    let a = c.args in
    let m : c.kept_slots-slots.result * c.record_size.result ≡ kept_slots a.heading.shape * record_size (plan a.heading.shape []) = ap₂ (λ (x y : ℕ). x * y) c.kept_slots-slots.ensures c.record_size.ensures in
    omega (arith, m, slots_fit a.heading.shape)

-- src/sizes.rt:47:16
pub overflow_mul-result-4 : goal.overflow_mul-result-4
overflow_mul-result-4 c = omega (arith, c.kept_slots-slots.ensures, slots_most c.args.heading.shape)

-- src/sizes.rt:37:1
pub returns : goal.returns
returns c =
    sizes_made c.args.heading c.requires c.squares_of.ensures
    c.kept_slots-slots.ensures c.record_size.ensures refl refl
