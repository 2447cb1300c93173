-- `lists::printing::put_sheets` meets its contract: the two counts and then the refused ones.
-- Assumes nothing.
use mathlib.Core.Path.{ap}
use Prim.Native.Nat.{ℕ, ◌-◌}
use mathlib.Core.List.{[], ◌∷◌}
use native.Mathlib.Omega.{arith}
use lib.ListN.{length}
use Rattle.lists.specs.Drowned.{numbers_text}
use Rattle.lists.proofs.PrintLaws.{refused_few, counts_fit, counts-written, places_fit, sheets-written}
use Rattle.lists.proofs.printing.put_sheets.Goals as goal

pub overflow_sub-numbers : goal.overflow_sub-numbers
overflow_sub-numbers c = omega (arith, c.count_refused-refused.ensures, refused_few c.args.numbers.now)

pub put_numbers-next-requires : goal.put_numbers-next-requires
put_numbers-next-requires c =
    let a = c.args in
    omega (
      arith,
      counts_fit a.numbers.now a.at a.out.now c.requires,
      ap (λ (k : ℕ). length (numbers_text ((length a.numbers.now - k) ∷ k ∷ []))) c.count_refused-refused.ensures,
    )

pub put_places-requires : goal.put_places-requires
put_places-requires c =
    places_fit c.args.numbers.now c.args.at c.args.out.now c.requires
    (counts-written c.args.numbers.now c.count_refused-refused.ensures c.put_numbers-next.ensures)

pub returns : goal.returns
returns c =
    sheets-written c.args.numbers.now c.args.at c.args.out.now c.requires
    (counts-written c.args.numbers.now c.count_refused-refused.ensures c.put_numbers-next.ensures)
    c.put_places.ensures
