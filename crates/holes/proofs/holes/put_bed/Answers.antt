-- `holes::holes::put_bed` meets its contract: a `?` where it is not known.
-- Assumes nothing.
use mathlib.Core.Path.{ap}
use native.Mathlib.Omega.{arith}
use lib.ListN.{length}
use Rattle.text.proofs.WritingLaws.{written_as}
use Rattle.holes.proofs.PutLaws.{unknown_text, known_text}
use Rattle.holes.proofs.holes.put_bed.Goals as goal

pub put_byte-requires : goal.put_byte-requires
put_byte-requires c = omega (arith, c.requires, ap length (unknown_text c.args.bed c.if-bed.true))

pub returns-then-bed : goal.returns-then-bed
returns-then-bed c = written_as (unknown_text c.args.bed c.if-bed.true) c.put_byte.ensures

pub put_number-requires : goal.put_number-requires
put_number-requires c = omega (arith, c.requires, ap length (known_text c.args.bed c.if-bed.false))

pub returns : goal.returns
returns c = written_as (known_text c.args.bed c.if-bed.false) c.put_number.ensures
