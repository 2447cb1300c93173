-- `stands::putting::put_first` meets its contract: its line is put.
-- Assumes nothing.
use native.Mathlib.Omega.{arith}
use Rattle.stands.proofs.LengthLaws.{first_short}
use Rattle.stands.proofs.PutLaws.{first-as, within_as}
use Rattle.stands.proofs.putting.put_first.Goals as goal

pub put_line-requires : goal.put_line-requires
put_line-requires c =
    let at-good = c.well_formed in
    let h = first_short c.args.saved.log.steps c.args.saved.log.run.clock c.args.saved.log.run.length c.as_number-opening.result (omega (arith, at-good)) (omega (arith, at-good)) (omega (arith, at-good)) (omega arith) in
    omega (arith, h, c.requires)

pub returns : goal.returns
returns c =
    let at-good = c.well_formed in
    let h = first_short c.args.saved.log.steps c.args.saved.log.run.clock c.args.saved.log.run.length c.as_number-opening.result (omega (arith, at-good)) (omega (arith, at-good)) (omega (arith, at-good)) (omega arith) in
    within_as (first-as c.args.saved c.as_number-opening.ensures) h c.put_line.ensures
