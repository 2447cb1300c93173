-- `survey::texts::put_mark_line` meets its contract: what it begins with, and its end.
-- Assumes nothing.
use mathlib.Core.Path.{◌≡◌}
use mathlib.Core.List.{List, [], ◌∷◌, ◌++◌}
use Prim.Native.Nat.{ℕ, ◌/◌, ◌%◌}
use native.Mathlib.Omega.{arith}
use Rattle.text.specs.Reading.{newline}
use Rattle.sheet.specs.Lines.{line_head}
use Rattle.survey.specs.Sets.{mark_line}
use Rattle.survey.proofs.PutLaws.{one_fits, two_fits, both_put, mark_line_is}
use Rattle.survey.proofs.texts.put_mark_line.Goals as goal
use Rattle.survey.proofs.texts.put_mark_line.Goals.{Start}

abbrev head : Start → List ℕ
head s = line_head (s.args.square / s.args.columns) (s.args.square % s.args.columns) s.args.mark

same : (s : Start) → mark_line s.args.columns s.args.square s.args.mark ≡ head s ++ (newline ∷ [])
same s = mark_line_is s.args.columns s.args.square s.args.mark

pub put_line_head-end-requires : goal.put_line_head-end-requires
put_line_head-end-requires c = (c.requires.1, one_fits (head (goal.at.put_line_head-end-requires c).Start) (newline ∷ []) (same (goal.at.put_line_head-end-requires c).Start) c.args.at c.args.out.now c.requires.2)

pub put_byte-requires : goal.put_byte-requires
put_byte-requires c = omega (arith, two_fits (head (goal.at.put_byte-requires c).Start) (newline ∷ []) (same (goal.at.put_byte-requires c).Start) c.args.at c.args.out.now c.requires.2 c.put_line_head-end.ensures)

pub returns : goal.returns
returns c =
    both_put (head (goal.at.returns c).Start) (newline ∷ []) (same (goal.at.returns c).Start) c.args.at c.args.out.now c.requires.2 c.put_line_head-end.ensures
    c.put_byte.ensures
