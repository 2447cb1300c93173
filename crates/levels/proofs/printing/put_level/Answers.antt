-- `levels::printing::put_level` meets its contract: the word, the fields, the first clock and the newline, one after the other.
-- Assumes nothing.
use Prim.Native.Nat.{◌+◌, ◌≤◌}
use native.Mathlib.Omega.{arith}
use lib.ListN.{length}
use Rattle.levels.specs.Levels.{level_text}
use Rattle.levels.proofs.LevelLaws.{Words, level-short, fields_fit, first_fits, end_fits, level-written}
use Rattle.levels.proofs.printing.put_level.Goals as goal
use Rattle.levels.proofs.printing.put_level.Goals.{Start}

words : (s : Start) → Words s.args.board
words s =
    record {
      row_is = omega (arith, s.well_formed);
      column_is = omega (arith, s.well_formed);
      mark_is = omega (arith, s.well_formed);
      highest_is = omega (arith, s.well_formed);
      first_is = omega (arith, s.well_formed);
    }

fits : (s : Start) → s.args.at + length (level_text s.args.board) ≤ length s.args.out.now
fits s = omega (arith, s.requires, level-short s.args.board (words s))

pub put_fields-fields-requires : goal.put_fields-fields-requires
put_fields-fields-requires c = fields_fit c.args.board (fits (goal.at.put_fields-fields-requires c).Start) c.put_word-word.ensures

pub put_first-first-requires : goal.put_first-first-requires
put_first-first-requires c = first_fits c.args.board (fits (goal.at.put_first-first-requires c).Start) c.put_word-word.ensures c.put_fields-fields.ensures

pub put_byte-requires : goal.put_byte-requires
put_byte-requires c = end_fits c.args.board (fits (goal.at.put_byte-requires c).Start) c.put_word-word.ensures c.put_fields-fields.ensures c.put_first-first.ensures

pub returns : goal.returns
returns c = record {
  wrote = level-written c.args.board (fits (goal.at.returns c).Start) c.put_word-word.ensures c.put_fields-fields.ensures c.put_first-first.ensures c.put_byte.ensures;
  fits = level-short c.args.board (words (goal.at.returns c).Start);
}
