-- `survey::texts::put_line_head` meets its contract: its word, the place and the letter.
-- Assumes nothing.
use mathlib.Core.Path.{refl, sym, ap}
use mathlib.Core.List.{List, [], ◌∷◌}
use Prim.Native.Nat.{ℕ}
use Rattle.text.specs.Reading.{tab}
use Rattle.text.specs.Writing.{fields_text}
use Rattle.sheet.specs.Lines.{cell_word, letter_of}
use Rattle.answer.proofs.PrintLaws.{written_as}
use Rattle.survey.proofs.PutLaws.{three_put}
use Rattle.survey.proofs.texts.put_line_head.Goals as goal
use Rattle.survey.proofs.texts.put_line_head.Goals.{Start}

abbrev place : Start → List ℕ
place s = fields_text (s.args.row ∷ s.args.column ∷ [])

abbrev letter : Start → List ℕ
letter s = tab ∷ letter_of s.args.mark ∷ []

pub returns : goal.returns
returns c =
    three_put cell_word (place (goal.at.returns c).Start) (letter (goal.at.returns c).Start) refl c.args.at c.args.out.now c.requires.1 c.put_word-start.ensures
    c.put_fields-next.ensures
    (written_as (ap (λ (b : ℕ). tab ∷ b ∷ []) (sym c.letter_of.ensures)) c.put_word.ensures)
