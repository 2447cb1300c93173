-- `lists::printing::put_places` meets its contract: the lines so far stand at the place, and the rest is left.
-- Assumes nothing.
use mathlib.Core.Path.{refl}
use native.Mathlib.Omega.{arith}
use Rattle.text.proofs.WritingLaws.{left_all}
use Rattle.lists.proofs.PrintLaws.{place_fits, place_written, places_written}
use Rattle.lists.proofs.printing.put_places.Goals as goal

pub loop-place-init : goal.loop-place-init
loop-place-init c = left_all _ _ _ c.requires

pub put_place-next-requires : goal.put_place-next-requires
put_place-next-requires c = place_fits c.args.numbers.now c.loop-place.place (omega arith) c.loop-place.invariant refl

pub loop-place-preserved : goal.loop-place-preserved
loop-place-preserved c =
    place_written c.args.numbers.now c.loop-place.place (omega arith) c.loop-place.invariant refl c.put_place-next.ensures

pub returns : goal.returns
returns c = places_written c.args.numbers.now c.loop-place.place (omega arith) c.loop-place.invariant
