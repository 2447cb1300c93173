-- Document 02, #101, "Level boards on the wheel-house display": what is printed of a run with its boards.
-- Assumes nothing.
use Rattle.std.specs.Prelude.{List, [], ◌∷◌, ◌++◌, ℕ, eqb, length, get_or}
use Rattle.reckon.specs.Tests.{pick}
use Rattle.reckon.specs.Lists.{joined}
use Rattle.flood.specs.Run.{Ended}
use Rattle.text.specs.Reading.{tab, newline}
use Rattle.text.specs.Writing.{field_text, fields_text, line_text}
use Rattle.answer.specs.Printed.{steps_word, clock_word, refused_text}
use Rattle.display.specs.Boards.{no_board}
use Rattle.display.specs.declared.boards.Board.{Board}

-- the word that a board's line begins with, and what stands for a clock that never came
abbrev pub board_word : List ℕ
board_word = 98 ∷ 111 ∷ 97 ∷ 114 ∷ 100 ∷ []

abbrev pub dash : ℕ
dash = 45

-- "the clock when the mark was first reached, if it was"
unfoldable pub first_text : Board → List ℕ
first_text b = pick b.reached (field_text b.first) (tab ∷ dash ∷ [])

-- "Each has a square, a mark depth, the highest depth seen, and the clock when the mark was first reached"
unfoldable pub level_text : Board → List ℕ
level_text b = board_word ++ (fields_text (b.row ∷ b.column ∷ b.mark ∷ b.highest ∷ []) ++ (first_text b ++ (newline ∷ [])))

-- a line a board, in the list's order
unfoldable pub levels_text : List Board → List ℕ
levels_text boards = joined (length boards) (λ k. level_text (get_or boards k no_board))

-- document 01's "steps made, clock"
unfoldable pub counts_text : ℕ → ℕ → List ℕ
counts_text steps clock = line_text steps_word (steps ∷ []) ++ line_text clock_word (clock ∷ [])

-- how a run ended, and its boards; a refused one prints its refusal alone
unfoldable pub watch_text : Ended → List Board → List ℕ
watch_text end boards =
    pick (eqb end.number 0) (levels_text boards ++ counts_text end.steps end.world.run.clock) (refused_text end.number 0)
