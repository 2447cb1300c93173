-- `survey::texts::put_numbers` meets its contract: what is left, put from here on, makes the whole.
-- Assumes nothing.
use Rattle.std.proofs.Common.{◌≡◌, List, ℕ, ◌+◌, ◌-◌, ◌≤◌, ◌<◌, length, get_or, take, drop, length-drop}
use mathlib.Core.Path.{◌∙◌}
use native.Mathlib.Omega.{arith}
use lib.Seq.{length-take-le}
use Rattle.std.proofs.lemmas.List.{get_or-drop, get_or-take}
use Rattle.survey.proofs.PutLaws.{number_fits, number_put, numbers_put}
use Rattle.survey.proofs.texts.put_numbers.Goals as goal

-- the numbers of a row, taken out of its table
module _ (table : List ℕ) (first width : ℕ) (h : first + width ≤ length table) where
  many : length (take (first + width - first) (drop first table)) ≡ width
  many = omega (arith, length-take-le (first + width - first) (drop first table) (omega (arith, length-drop first table)))

  value : (i : ℕ) → i < width → get_or (take (first + width - first) (drop first table)) i 0 ≡ get_or table (first + i) 0
  value i l = get_or-take _ (drop first table) i 0 (omega arith) ∙ get_or-drop first table i 0

pub put_field-next-requires : goal.put_field-next-requires
put_field-next-requires c =
    let l : c.loop-value.value-index < c.args.width = omega (arith, many c.args.table.now _ _ c.requires.width_in_bounds) in
    number_fits c.args.table.now c.args.first c.args.width l (value _ _ _ c.requires.width_in_bounds _ l) c.loop-value.invariant

pub loop-value-preserved : goal.loop-value-preserved
loop-value-preserved c =
    let l : c.loop-value.value-index < c.args.width = omega (arith, many c.args.table.now _ _ c.requires.width_in_bounds) in
    number_put c.args.table.now c.args.first c.args.width l (value _ _ _ c.requires.width_in_bounds _ l) c.loop-value.invariant
    c.put_field-next.ensures

pub returns : goal.returns
returns c =
    numbers_put c.args.table.now c.args.first c.args.width _ (omega (arith, many c.args.table.now _ _ c.requires.width_in_bounds))
    c.loop-value.invariant
