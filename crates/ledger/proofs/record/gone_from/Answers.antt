-- `ledger::record::gone_from` meets its contract: four words are summed.
-- Assumes nothing.
use native.Mathlib.Omega.{arith}
use Rattle.grid.specs.Squares.{north, east, south, west}
use Rattle.ledger.specs.Flows.{gone}
use Rattle.ledger.specs.Record.{leaves_in}
use Rattle.ledger.proofs.FlowLaws.{four-sides, leaving_small}
use Rattle.ledger.proofs.record.gone_from.Goals as goal

pub overflow_add-result : goal.overflow_add-result
overflow_add-result c =
    let small = leaving_small c.args.rec.now (λ k. (c.type_inv.rec k).fits) c.args.square in
    omega (arith, c.leaving.ensures, c.leaving-2.ensures, small north, small east)

pub overflow_add-result-2 : goal.overflow_add-result-2
overflow_add-result-2 c =
    let small =
    leaving_small c.args.rec.now (λ k. (c.type_inv.rec k).fits) c.args.square in
    omega
    (arith, c.leaving.ensures, c.leaving-2.ensures, c.leaving-3.ensures, small north, small east, small south)

pub overflow_add-result-3 : goal.overflow_add-result-3
overflow_add-result-3 c =
    let small =
    leaving_small c.args.rec.now (λ k. (c.type_inv.rec k).fits)
    c.args.square in
    omega (
      arith,
      c.leaving.ensures,
      c.leaving-2.ensures,
      c.leaving-3.ensures,
      c.leaving-4.ensures,
      small north,
      small east,
      small south,
      small west,
    )

pub returns : goal.returns
unfolding gone
returns c =
    four-sides (leaves_in c.args.rec.now c.args.square) c.leaving.ensures
    c.leaving-2.ensures c.leaving-3.ensures c.leaving-4.ensures
