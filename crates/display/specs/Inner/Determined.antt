-- The contract of each layer function of this crate leaves one outcome.
-- Assumes nothing.
use Rattle.std.specs.Prelude.{◌≡◌, List}
use Rattle.reckon.specs.Outcomes.{One}
use Rattle.display.specs.Boards.{no_board, no_boards, with_board}
use Rattle.display.specs.Inner.Lent.{back_in, held_of}
use Rattle.display.specs.declared.boards.Board.{Board}
use Rattle.display.specs.declared.boards.Boards.{Boards}

pub record DisplayDetermined : Type 0 where
  pub no-board : One {Out = Board} (λ r. r ≡ no_board)
  pub no-boards : One {Out = Boards} (λ r. r ≡ no_boards)
  pub with-board : (bs : Boards) (b : Board) → One {Out = Boards} (λ r. r ≡ with_board bs b)
  pub held_of : (boards : List Board) → One {Out = Boards} (λ r. r ≡ held_of boards)
  pub put_back : (held : Boards) (boards : List Board) → One {Out = List Board} (λ l. l ≡ back_in held boards)
