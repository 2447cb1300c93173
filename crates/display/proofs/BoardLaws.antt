-- Laws of one board: what it shows number by number, a board after a state of the grid, and which boards refusal 13 is about; and a list with
-- one board more.
-- Assumes nothing.
use mathlib.Core.Path.{◌≡◌, refl, sym, ap, ◌∙◌}
use mathlib.Core.Bool.{Bool, true, false, not, ◌&&◌}
use mathlib.Core.List.{List}
use Prim.Native.Nat.{ℕ, zero, suc, ◌+◌, ◌≤◌, ◌<◌}
use native.Mathlib.Numerals.{add-one}
use native.Mathlib.Omega.{arith}
use lib.Dec.{leb}
use lib.ListN.{length, get_or, set, take}
use lib.Seq.{take-length, length-take-le}
use borrow.Author.Tests.{lt-ltb, le-ltb, le-leb}
use Rattle.std.specs.List.{list_all}
use Rattle.std.proofs.lemmas.List.Folds.{list_all_more}
use Rattle.reckon.specs.Tests.{pick, every, all_below}
use Rattle.reckon.specs.Ranges.{most_depth}
use Rattle.reckon.proofs.TestLaws.{pick_true, pick_false, every_fails, and_true}
use Rattle.grid.specs.Squares.{square_at}
use Rattle.grid.specs.Marks.{closed}
use Rattle.grid.specs.declared.squares.Shape.{Shape}
use Rattle.ledger.specs.Runs.{Plan}
use Rattle.display.specs.Boards.{most_boards, no_board, square_of, with_board, board_fine, boards_fine, listed}
use Rattle.display.specs.Inner.Refreshed.{cleared, seen_at, looked_at}
use Rattle.display.specs.declared.boards.Board.{Board}
use Rattle.display.specs.declared.boards.Boards.{Boards}

-- ---- what a board shows

module _ (b : Board) where
  -- its square and mark with other numbers
  abbrev pub showing : ℕ → Bool → ℕ → Board
  showing h r f = record { row = b.row; column = b.column; mark = b.mark; highest = h; reached = r; first = f }

  pub same_showing : {h h' f f' : ℕ} {r r' : Bool} → h ≡ h' → r ≡ r' → f ≡ f' → showing h r f ≡ showing h' r' f'
  same_showing d e k = λ j. showing (d j) (e j) (k j)

-- ---- after a state of the grid

module _ (s : Shape) (depths : List ℕ) (starting : Bool) (clock : ℕ) (b : Board) where
  module _ {square depth : ℕ} {r : Board} (e : square ≡ square_at s b.row b.column) (d : depth ≡ get_or depths square 0) where
    pub looked-first : {k : Board} → starting ≡ true → k ≡ cleared b → r ≡ seen_at depth clock k → r ≡ looked_at s depths starting clock b
    unfolding looked_at pick
    looked-first t c h = rw (h, c, d, e, t) refl

    pub looked_later : starting ≡ false → r ≡ seen_at depth clock b → r ≡ looked_at s depths starting clock b
    unfolding looked_at pick
    looked_later t h = rw (h, d, e, t) refl

-- ---- refusal 13 of one board

module _ (p : Plan) (b : Board) where
  pub board_no_row : p.shape.rows ≤ b.row → false ≡ board_fine p b
  unfolding board_fine
  board_no_row h = sym (every_fails _ 0 (le-ltb _ _ h))

  pub board_no_column : p.shape.columns ≤ b.column → false ≡ board_fine p b
  unfolding board_fine
  board_no_column h = sym (every_fails _ 1 (le-ltb _ _ h))

  module _ {square : ℕ} {r : Bool} (s : square ≡ square_of p b) (e : r ≡ closed p.marks square) where
    pub board-closed : r ≡ true → false ≡ board_fine p b
    unfolding board_fine
    board-closed t = sym (every_fails _ 2 (ap not (ap (closed p.marks) (sym s) ∙ (sym e ∙ t))))

    pub board_marked :
        b.row < p.shape.rows → b.column < p.shape.columns → r ≡ false → leb b.mark most_depth ≡ board_fine p b
    unfolding board_fine every
    board_marked k l t =
        simp (lt-ltb _ _ k, lt-ltb _ _ l, ap (closed p.marks) (sym s) ∙ (sym e ∙ t), and_true (leb b.mark most_depth))

-- ---- refusal 13 of the counted ones

-- the first i of a list by a test of each number below i
first_below : {A : Type 0} (f : A → Bool) (l : List A) (d : A) (i : ℕ) → i ≤ length l → list_all f (take i l) ≡ all_below i (λ k. f (get_or l k d))
unfolding all_below
first_below f l d zero h = refl
first_below f l d (suc i) h =
    ap (λ (n : ℕ). list_all f (take n l)) (sym (add-one i))
    ∙ (list_all_more f l i d (omega (arith, h)) ∙ ap (λ (b : Bool). b && f (get_or l i d)) (first_below f l d i (omega (arith, h))))

pub counted_fine :
    (p : Plan) (bs : Boards) → bs.count ≤ most_boards → bs.count ≤ length bs.list →
    list_all (board_fine p) (listed bs) ≡ boards_fine p bs.count (listed bs)
unfolding boards_fine every
counted_fine p bs few there =
    let long : length (listed bs) ≡ bs.count = length-take-le bs.count bs.list there in
    let whole : take bs.count (listed bs) ≡ listed bs = rw long at (take-length (listed bs)) in
    let each : list_all (board_fine p) (take bs.count (listed bs)) ≡ all_below bs.count (λ k. board_fine p (get_or (listed bs) k no_board)) =
    first_below (board_fine p) (listed bs) no_board bs.count (omega (arith, long)) in
    ap (list_all (board_fine p)) (sym whole) ∙ (each ∙ sym (simp (le-leb _ _ few, and_true)))

-- ---- one board more

module _ (bs : Boards) (b : Board) where
  -- counted, with a list
  abbrev counting : List Board → Boards
  counting l = record { count = bs.count + 1; list = l }

  pub with_room : bs.count < most_boards → counting (set bs.list bs.count b) ≡ with_board bs b
  unfolding with_board
  with_room h = ap counting (sym (pick_true (set bs.list bs.count b) bs.list (lt-ltb _ _ h)))

  pub with_none : most_boards ≤ bs.count → counting bs.list ≡ with_board bs b
  unfolding with_board
  with_none h = ap counting (sym (pick_false (set bs.list bs.count b) bs.list (le-ltb _ _ h)))
