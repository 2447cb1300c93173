-- `holes::rounds::one_round` meets its contract: the squares passed have their beds after the round, and the column is that of the square.
-- Assumes nothing.
use mathlib.Core.Path.{refl, sym, ap, ◌∙◌}
use mathlib.Core.List.{List}
use Prim.Native.Nat.{ℕ}
use native.Mathlib.Nat.{zero-mod}
use native.Mathlib.Omega.{arith}
use lib.ListN.{set}
use Rattle.reckon.proofs.ListLaws.{filled_none, filled_store}
use Rattle.grid.proofs.SquareLaws.{carried, column-within}
use Rattle.holes.proofs.FillLaws.{round_made}
use Rattle.holes.proofs.rounds.one_round.Goals as goal

pub loop-square-init : goal.loop-square-init
loop-square-init c = (sym (zero-mod _), filled_none _ _ _)

pub bed_after-requires : goal.bed_after-requires
bed_after-requires c = (
  record { fine = c.requires.0; inside = omega arith; column_is = c.loop-square.invariant.0 },
  c.requires.1,
  c.requires.2,
)

pub next_column-column-requires : goal.next_column-column-requires
next_column-column-requires c = (
  c.requires.0,
  column-within c.args.shape c.loop-square.square c.requires.0.columns_low c.loop-square.invariant.0,
)

pub loop-square-preserved : goal.loop-square-preserved
loop-square-preserved c = (
  carried c.args.shape c.loop-square.square c.loop-square.invariant.0 c.next_column-column.ensures,
  ap (λ (l : List ℕ). set l c.loop-square.square c.bed_after.result) c.loop-square.invariant.1
      ∙ filled_store _ _ _ c.loop-square.square (omega arith) refl c.bed_after.ensures,
)

pub returns : goal.returns
returns c =
    let a = c.args in
    round_made a.shape a.marks.now a.before.now a.beds.now (omega arith) (sym c.requires.3) c.loop-square.invariant.1
