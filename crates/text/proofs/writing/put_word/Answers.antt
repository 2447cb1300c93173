-- `text::writing::put_word` meets its contract: the word is copied.
-- Assumes nothing.
use mathlib.Core.Path.{refl, ◌∙◌}
use native.Mathlib.Omega.{arith}
use Rattle.std.proofs.lemmas.Slice.{put_mid-paste}
use Rattle.text.proofs.WritingLaws.{placed_paste}
use Rattle.text.proofs.writing.put_word.Goals as goal

pub returns : goal.returns
returns c =
    let a = c.args in
    record {
      next = refl;
      room =
          put_mid-paste a.at _ a.room.now _ a.word.now _ c.copy_from_slice.ensures.after (omega arith) refl
          ∙ placed_paste a.room.now a.at a.word.now;
    }
