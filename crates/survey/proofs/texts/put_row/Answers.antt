-- `survey::texts::put_row` meets its contract: its word, its numbers and its end.
-- Assumes nothing.
use mathlib.Core.Path.{◌≡◌}
use mathlib.Core.List.{List, [], ◌∷◌, ◌++◌}
use Prim.Native.Nat.{ℕ, ◌*◌}
use native.Mathlib.Omega.{arith}
use Rattle.text.specs.Reading.{newline}
use Rattle.text.specs.Writing.{fields_text}
use Rattle.sheet.specs.Written.{row_written}
use Rattle.survey.proofs.PutLaws.{first_fits, second_fits, third_fits, three_put, numbers, row_is}
use Rattle.survey.proofs.texts.put_row.Goals as goal
use Rattle.survey.proofs.texts.put_row.Goals.{Start}

abbrev values : Start → List ℕ
values s = fields_text (numbers s.args.table.now (s.args.width * s.args.row) s.args.width)

same : (s : Start) → row_written s.args.word.now s.args.width s.args.table.now s.args.row ≡ s.args.word.now ++
    (values s ++ (newline ∷ []))
same s = row_is s.args.word.now s.args.width s.args.table.now s.args.row

pub put_word-start-requires : goal.put_word-start-requires
put_word-start-requires c = first_fits c.args.word.now (values (goal.at.put_word-start-requires c).Start) (newline ∷ []) (same (goal.at.put_word-start-requires c).Start) c.args.at c.args.out.now c.requires.row_in_bounds

pub put_numbers-end-requires : goal.put_numbers-end-requires
put_numbers-end-requires c = record {
  width_in_bounds = c.requires.width_in_bounds;
  k_in_bounds = second_fits c.args.word.now (values (goal.at.put_numbers-end-requires c).Start) (newline ∷ []) (same (goal.at.put_numbers-end-requires c).Start) c.args.at c.args.out.now c.requires.row_in_bounds
      c.put_word-start.ensures;
}

pub put_byte-requires : goal.put_byte-requires
put_byte-requires c =
    omega (
      arith,
      third_fits c.args.word.now (values (goal.at.put_byte-requires c).Start) (newline ∷ []) (same (goal.at.put_byte-requires c).Start) c.args.at c.args.out.now c.requires.row_in_bounds
          c.put_word-start.ensures c.put_numbers-end.ensures,
    )

pub returns : goal.returns
returns c =
    three_put c.args.word.now (values (goal.at.returns c).Start) (newline ∷ []) (same (goal.at.returns c).Start) c.args.at c.args.out.now c.requires.row_in_bounds
    c.put_word-start.ensures c.put_numbers-end.ensures c.put_byte.ensures
