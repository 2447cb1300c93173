-- `frames::frame::put_row` meets its contract: the word, the fields, and the end of the line.
-- Assumes nothing.
use mathlib.Core.List.{List, [], ◌∷◌, ◌++◌}
use Prim.Native.Nat.{ℕ, ◌+◌, ◌≤◌}
use native.Mathlib.Omega.{arith}
use lib.ListN.{length}
use Rattle.reckon.specs.Lists.{joined}
use Rattle.text.specs.Reading.{newline}
use Rattle.frames.specs.Frame.{row_word, square_text, row_text}
use Rattle.frames.proofs.FrameLaws.{first_fits, second_fits, third_fits, three_written}
use Rattle.frames.proofs.frame.put_row.Goals as goal
use Rattle.frames.proofs.frame.put_row.Goals.{Start}

-- the fields of the row
abbrev Fields : Start → List ℕ
Fields s = joined s.args.columns (λ c. square_text s.args.marks.now s.args.depths.now (s.args.first + c))

fits : (s : Start) → s.args.at + length (row_word ++ (Fields s ++ (newline ∷ []))) ≤ length s.args.out.now
unfolding row_text
fits s = s.requires.first_in_bounds

pub put_word-next-requires : goal.put_word-next-requires
put_word-next-requires c = first_fits row_word (Fields (goal.at.put_word-next-requires c).Start) (newline ∷ []) c.args.at c.args.out.now (fits (goal.at.put_word-next-requires c).Start)

pub put_squares-end-requires : goal.put_squares-end-requires
put_squares-end-requires c = record {
  columns_in_bounds = c.requires.columns_in_bounds;
  c_in_bounds = second_fits row_word (Fields (goal.at.put_squares-end-requires c).Start) (newline ∷ []) c.args.at c.args.out.now (fits (goal.at.put_squares-end-requires c).Start) c.put_word-next.ensures;
}

pub put_byte-requires : goal.put_byte-requires
put_byte-requires c =
    let h = third_fits row_word (Fields (goal.at.put_byte-requires c).Start) (newline ∷ []) c.args.at c.args.out.now (fits (goal.at.put_byte-requires c).Start) c.put_word-next.ensures
    c.put_squares-end.ensures in
    omega (arith, h)

pub returns : goal.returns
unfolding row_text
returns c =
    three_written row_word (Fields (goal.at.returns c).Start) (newline ∷ []) c.args.at c.args.out.now (fits (goal.at.returns c).Start) c.put_word-next.ensures
    c.put_squares-end.ensures c.put_byte.ensures
