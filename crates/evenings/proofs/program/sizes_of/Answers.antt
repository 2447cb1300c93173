-- `evenings::program::sizes_of` meets its contract.
-- Assumes nothing.
use mathlib.Core.Path.{◌≡◌, refl, ap₂}
use mathlib.Core.List.{[]}
use Rattle.ledger.specs.Runs.{plan}
use Rattle.ledger.specs.Record.{record_size}
use Rattle.hatches.specs.Log.{kept_records}
use Prim.Native.Nat.{ℕ, ◌*◌}
use native.Mathlib.Omega.{arith}
use Rattle.evenings.proofs.NightLaws.{Fine, fine_is, kept_fit, kept_few, sizes_made}
use Rattle.evenings.proofs.program.sizes_of.Goals as goal
use Rattle.evenings.proofs.program.sizes_of.Goals.{Start}

-- the night that is asked
fine : (s : Start) → Fine s.args.night
fine s = fine_is s.args.night s.requires

pub kept_records-slots-requires : goal.kept_records-slots-requires
kept_records-slots-requires c = (fine (goal.at.kept_records-slots-requires c).Start).shape

pub squares_of-requires : goal.squares_of-requires
squares_of-requires c = (fine (goal.at.squares_of-requires c).Start).shape

pub overflow_mul-result : goal.overflow_mul-result
overflow_mul-result c = omega (arith, (fine (goal.at.overflow_mul-result c).Start).rain)

pub overflow_mul-result-2 : goal.overflow_mul-result-2
overflow_mul-result-2 c = omega (arith, (fine (goal.at.overflow_mul-result-2 c).Start).inflow)

pub record_size-requires : goal.record_size-requires
record_size-requires c = (fine (goal.at.record_size-requires c).Start).shape

pub overflow_mul-result-3 : goal.overflow_mul-result-3
overflow_mul-result-3 c =
    let m : c.kept_records-slots.result * c.record_size.result ≡ kept_records (plan c.args.night.heading.shape []) * record_size (plan c.args.night.heading.shape []) = ap₂ (λ (x y : ℕ). x * y) c.kept_records-slots.ensures c.record_size.ensures in
    omega (arith, m, kept_fit c.args.night.heading.shape)

pub overflow_mul-result-4 : goal.overflow_mul-result-4
overflow_mul-result-4 c = omega (arith, c.kept_records-slots.ensures, kept_few c.args.night.heading.shape)

pub returns : goal.returns
returns c = sizes_made c.args.night c.requires c.squares_of.ensures c.kept_records-slots.ensures c.record_size.ensures refl refl
