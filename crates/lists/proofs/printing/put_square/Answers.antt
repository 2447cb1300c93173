-- `lists::printing::put_square` meets its contract: a closed square has no line.
-- Assumes nothing.
use mathlib.Core.Path.{◌≡◌, sym, ap, ◌∙◌}
use mathlib.Core.List.{[], ◌∷◌}
use Prim.Native.Nat.{◌/◌, ◌%◌}
use native.Mathlib.Omega.{arith}
use lib.ListN.{length}
use Rattle.ledger.specs.Runs.{plan}
use Rattle.lists.specs.Drowned.{numbers_text}
use Rattle.lists.specs.Tally.{square_text}
use Rattle.answer.proofs.PrintLaws.{written_as}
use Rattle.lists.proofs.PrintLaws.{nothing_written, closed_text, square-as}
use Rattle.lists.proofs.printing.put_square.Goals as goal
use Rattle.lists.proofs.printing.put_square.Goals.{After-byte-2}

pub returns-then-is_closed : goal.returns-then-is_closed
returns-then-is_closed c = nothing_written _ (closed_text _ _ _ _ _ (sym c.is_closed.ensures ∙ c.if-is_closed.true))

-- the line, by the numbers that were read
line :
    (c : After-byte-2) →
    let a = c.args in
    square_text (plan a.shape a.marks.now) a.counts.now a.deepest.now a.places.now a.square
    ≡ numbers_text
    (a.square / a.shape.columns ∷ a.square % a.shape.columns ∷ c.byte.result ∷ c.number.result ∷ c.byte-2.result ∷ [])
line c =
    square-as _ _ _ _ _ (sym c.is_closed.ensures ∙ c.if-is_closed.false) c.byte.ensures
    c.number.ensures c.byte-2.ensures

pub put_numbers-requires : goal.put_numbers-requires
put_numbers-requires c = omega (arith, c.requires.square_in_bounds, ap length (line (goal.at.put_numbers-requires c).After-byte-2))

pub returns : goal.returns
returns c = written_as (line (goal.at.returns c).After-byte-2) c.put_numbers.ensures
