-- `holes::repairing::put_repaired` meets its contract: holes marked, rounds made, the sheet and then the list.
-- Assumes nothing.
use mathlib.Core.Path.{refl, sym, ◌∙◌}
use native.Mathlib.Omega.{arith}
use Rattle.sheet.proofs.JudgeLaws.{taken_long}
use Rattle.programs.specs.Program.{program_squares}
use Rattle.holes.proofs.RepairLaws.{looked, seen, rooms_long, sheet_fits, list_fits, repaired_put}
use Rattle.holes.proofs.repairing.put_repaired.Goals as goal

pub mark_holes-requires : goal.mark_holes-requires
mark_holes-requires c = (
  looked c.args.text.now c.requires.0 c.squares_of-squares.ensures,
  omega (arith, c.squares_of-squares.ensures, c.requires.0.beds_long),
)

pub slice_bounds-before-end : goal.slice_bounds-before-end
slice_bounds-before-end c = omega (arith, c.squares_of-squares.ensures, c.requires.0.few)

pub slice_bounds-fill_rounds-end-2 : goal.slice_bounds-fill_rounds-end-2
slice_bounds-fill_rounds-end-2 c =
    let at-squares-of = c.squares_of-squares in
    taken_long {size = program_squares} _ (omega (arith, at-squares-of.ensures, c.requires.0.few)) refl

pub fill_rounds-requires : goal.fill_rounds-requires
fill_rounds-requires c =
    let at-squares-of = c.squares_of-squares in
    let at-mark-holes = c.mark_holes in record {
      shape_in_range = (c.requires.0.in_range, c.requires.0.marks_long, c.requires.0.few, sym at-squares-of.ensures ∙ taken_long {size = program_squares} _ (omega (arith, at-squares-of.ensures, c.requires.0.few)) refl);
      beds_seen = seen c.args.text.now c.requires.0 at-squares-of.ensures at-mark-holes.ensures;
    }

pub put_with_beds-next-requires : goal.put_with_beds-next-requires
put_with_beds-next-requires c =
    let a = c.args in
    let at-squares-of =
    c.squares_of-squares in
    let at-mark-holes = c.mark_holes in
    let at-fill-rounds = c.fill_rounds in
    let k = c.requires.0 in record {
      looked = (
        looked a.text.now k at-squares-of.ensures,
        omega (arith, at-squares-of.ensures, (rooms_long a.text.now k at-squares-of.ensures at-mark-holes.ensures k.few at-fill-rounds.ensures).0),
      );
      beds_in_bounds = sheet_fits a.text.now k at-squares-of.ensures at-mark-holes.ensures k.few at-fill-rounds.ensures
          (λ i. grind arith) a.out.now c.requires.1;
    }

pub put_list-requires : goal.put_list-requires
put_list-requires c =
    let a = c.args in
    let at-squares-of =
    c.squares_of-squares in
    let at-mark-holes =
    c.mark_holes in
    let at-fill-rounds = c.fill_rounds in
    let at-put-with-beds = c.put_with_beds-next in
    let k = c.requires.0 in
    let long = rooms_long a.text.now k at-squares-of.ensures at-mark-holes.ensures k.few at-fill-rounds.ensures in record {
      looked = (
        looked a.text.now k at-squares-of.ensures,
        omega (arith, at-squares-of.ensures, long.0),
        omega (arith, at-squares-of.ensures, long.1, k.few),
      );
      turns_in_bounds = list_fits a.text.now k at-squares-of.ensures at-mark-holes.ensures k.few at-fill-rounds.ensures
          (λ i. grind arith) a.out.now c.requires.1
          at-put-with-beds.ensures;
    }

pub returns : goal.returns
returns c =
    let at-squares-of =
    c.squares_of-squares in
    let at-mark-holes =
    c.mark_holes in
    let at-fill-rounds =
    c.fill_rounds in
    let at-put-with-beds = c.put_with_beds-next in
    let k = c.requires.0 in
    repaired_put c.args.text.now k at-squares-of.ensures at-mark-holes.ensures k.few at-fill-rounds.ensures
    (λ i. grind arith) c.args.out.now c.requires.1
    at-put-with-beds.ensures c.put_list.ensures
