-- `survey::texts::put_cell` meets its contract: what it begins with, and its numbers where it is not closed.
-- Assumes nothing.
use mathlib.Core.Path.{sym, ◌∙◌}
use mathlib.Core.List.{List, [], ◌∷◌}
use Prim.Native.Nat.{ℕ, ◌/◌, ◌%◌}
use native.Mathlib.Omega.{arith}
use lib.ListN.{get_or}
use Rattle.text.specs.Reading.{newline}
use Rattle.text.specs.Writing.{rest_text}
use Rattle.sheet.specs.Lines.{line_head}
use Rattle.sheet.specs.Sheet.{Cells, cells_rooms}
use Rattle.sheet.specs.Written.{ground_at}
use Rattle.survey.specs.Inner.Writing.{only_cells}
use Rattle.survey.proofs.PutLaws.{one_fits, two_fits, both_put, cell_is, closed_cell_is, open_cell_is}
use Rattle.survey.proofs.texts.put_cell.Goals as goal
use Rattle.survey.proofs.texts.put_cell.Goals.{Start}

abbrev held : Start → Cells
held s = cells_rooms s.args.marks.now s.args.beds.now s.args.roughness.now s.args.rates.now s.args.depths.now

abbrev head : Start → List ℕ
head s = line_head (s.args.square / s.args.columns) (s.args.square % s.args.columns) (get_or s.args.marks.now s.args.square 0)

abbrev ground : Start → List ℕ
ground s =
    get_or s.args.beds.now s.args.square 0
    ∷ get_or s.args.roughness.now s.args.square 0
    ∷ get_or s.args.depths.now s.args.square 0
    ∷ get_or s.args.rates.now s.args.square 0
    ∷ []

pub put_line_head-end-requires : goal.put_line_head-end-requires
put_line_head-end-requires c = (
  c.requires.square_bound.0,
  one_fits (head (goal.at.put_line_head-end-requires c).Start) (rest_text (ground_at (only_cells (held (goal.at.put_line_head-end-requires c).Start)) c.args.square)) (cell_is c.args.columns c.args.square (held (goal.at.put_line_head-end-requires c).Start))
      c.args.at c.args.out.now c.requires.square_bound.1,
)

pub put_byte-requires : goal.put_byte-requires
put_byte-requires c =
    omega (
      arith,
      two_fits (head (goal.at.put_byte-requires c).Start) (newline ∷ [])
          (closed_cell_is c.args.columns c.args.square (held (goal.at.put_byte-requires c).Start) (sym c.is_closed.ensures ∙ c.if-is_closed.true))
          c.args.at c.args.out.now c.requires.square_bound.1 c.put_line_head-end.ensures,
    )

pub returns-then-is_closed : goal.returns-then-is_closed
returns-then-is_closed c =
    both_put (head (goal.at.returns-then-is_closed c).Start) (newline ∷ [])
    (closed_cell_is c.args.columns c.args.square (held (goal.at.returns-then-is_closed c).Start) (sym c.is_closed.ensures ∙ c.if-is_closed.true))
    c.args.at c.args.out.now c.requires.square_bound.1 c.put_line_head-end.ensures c.put_byte.ensures

pub put_ground-requires : goal.put_ground-requires
put_ground-requires c = record {
  square_in_bounds = (c.requires.columns_nonzero.2, c.requires.columns_nonzero.3, c.requires.columns_nonzero.4, c.requires.columns_nonzero.5);
  square_in_bounds_2 = two_fits (head (goal.at.put_ground-requires c).Start) (rest_text (ground (goal.at.put_ground-requires c).Start))
      (open_cell_is c.args.columns c.args.square (held (goal.at.put_ground-requires c).Start) (sym c.is_closed.ensures ∙ c.if-is_closed.false))
      c.args.at c.args.out.now c.requires.square_bound.1 c.put_line_head-end.ensures;
}

pub returns : goal.returns
returns c =
    both_put (head (goal.at.returns c).Start) (rest_text (ground (goal.at.returns c).Start))
    (open_cell_is c.args.columns c.args.square (held (goal.at.returns c).Start) (sym c.is_closed.ensures ∙ c.if-is_closed.false))
    c.args.at c.args.out.now c.requires.square_bound.1 c.put_line_head-end.ensures c.put_ground.ensures
