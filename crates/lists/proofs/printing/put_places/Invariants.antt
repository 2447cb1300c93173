use Prim.Native.Nat.{◌+◌}
use lib.ListN.{drop}
use Rattle.text.proofs.WritingLaws.{Left}
use Rattle.lists.specs.Drowned.{refused_lines}
use Rattle.lists.proofs.printing.put_places.Given as goal

abbrev pub invariant-loop-place : goal.invariant-loop-place
invariant-loop-place l = Left (refused_lines (l.place + 1) (drop l.place l.numbers)) l.next l.out (refused_lines 1 l.numbers) l.at l.initial.out
