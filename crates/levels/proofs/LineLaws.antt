-- Laws of the boards' text: a line that is found, one board more, the first line that cannot be read, and the end.
-- Assumes nothing.
use mathlib.Core.Path.{◌≡◌, refl, sym, ap, ap₂, subst, ◌∙◌}
use mathlib.Core.Bool.{Bool, true, false}
use mathlib.Core.List.{List, [], ◌∷◌, ◌++◌, append_assoc}
use Prim.Native.Nat.{ℕ, zero, suc, ◌+◌, ◌≤◌, ◌<◌}
use native.Mathlib.Decide.{ℕ_discrete}
use native.Mathlib.Numerals.{add-one}
use native.Mathlib.Omega.{arith}
use lib.Dec.{ltb}
use lib.ListN.{length, get_or, take, length-replicate, length-set}
use borrow.Author.Tests.{le-leb, lt-leb}
use Rattle.reckon.specs.Tests.{first_failing}
use Rattle.reckon.proofs.TestLaws.{not_both, no_more, pick_true, pick_false, pick_both, failing_at, failing_none}
use Rattle.text.specs.Reading.{newline, number_at, with_number, rest_of_line, line_from, RestOfLine}
use Rattle.text.specs.Writing.{decimal, fields_text, rest_text}
use Rattle.text.specs.Inner.Standing.{StandsAt}
use Rattle.text.specs.declared.reading.Fields.{Fields}
use Rattle.text.specs.declared.reading.Number.{Number}
use Rattle.std.proofs.Common.{Option, Some, None, is_some, option_map}
use Rattle.text.proofs.StandLaws.{stands_both}
use Rattle.text.proofs.RoundTrip.{number_only, rest_found}
use Rattle.text.proofs.LineLaws.{plain_both, plain-decimal, plain_fields}
use Rattle.sheet.proofs.KindLaws.{Lined, lined_forth, lined_inside}
use Rattle.sheet.proofs.RoomLaws.{Passed, passed_none, passed_more}
use Rattle.display.specs.Boards.{most_boards, no_board, no_boards, with_board}
use Rattle.display.specs.declared.boards.Board.{Board}
use Rattle.display.specs.declared.boards.Boards.{Boards}
use Rattle.levels.specs.Lines.{fields_after_row, as_board, board_line, board_from, has_board, board_of, boards_read, bad_board, boards_up_to}
use Rattle.levels.specs.Inner.Put.{boards_found}
use Rattle.levels.specs.declared.lines.BoardLine.{BoardLine}
use Rattle.levels.specs.declared.lines.BoardsFound.{BoardsFound}

-- ---- one line

abbrev line_or : Option BoardLine → BoardLine
line_or (Some line) = line
line_or None = record { board = no_board; next = 0 }

abbrev next_in : Option BoardLine → ℕ
next_in (Some line) = line.next
next_in None = 0

module _ (s : List ℕ) (p : ℕ) where
  abbrev line_with : Option Number → Option BoardLine
  line_with n = with_number n None (λ row q. option_map (as_board row) (rest_of_line s q fields_after_row))

  pub line_none : None ≡ number_at s p → None ≡ board_line s p
  unfolding board_line
  line_none e = ap line_with e

  module _ {n : Number} (e : Some n ≡ number_at s p) where
    pub line_short : None ≡ rest_of_line s n.next fields_after_row → None ≡ board_line s p
    unfolding board_line
    line_short h = ap (option_map (as_board n.value)) h ∙ ap line_with e

    pub line_is :
        {f : Fields} → Some f ≡ rest_of_line s n.next fields_after_row →
        Some
        (record {
          board = record { row = n.value; column = get_or f.values 0 0; mark = get_or f.values 1 0; highest = 0; reached = false; first = 0 };
          next = f.next;
        })
        ≡ board_line s p
    unfolding board_line as_board
    line_is h = ap (option_map (as_board n.value)) h ∙ ap line_with e

  -- where it is found, a text with no newline in it stands there, and then a newline
  pub board_lined : {line : BoardLine} → Some line ≡ board_line s p → Lined s p line.next
  unfolding board_line as_board rest_text
  board_lined {line} e = go (number_at s p) refl e
    where
      rest : (n : Number) → number_at s p ≡ Some n → (f : Option Fields) → RestOfLine s n.next fields_after_row f →
          Some line ≡ option_map (as_board n.value) f → Lined s p line.next
      rest n q (Some f) h e =
          let vs : List ℕ = take fields_after_row f.values in
          subst (λ (k : ℕ). Lined s p k) (sym (ap (λ (b : Option BoardLine). next_in b) e))
          (record {
            text = decimal n.value ++ fields_text vs;
            plain_is = plain_both (decimal n.value) (fields_text vs) (plain-decimal n.value) (plain_fields vs);
            stands =
                subst (λ (u : List ℕ). StandsAt s p u f.next) (sym (append_assoc (decimal n.value) (fields_text vs) (newline ∷ [])))
                (stands_both (number_only s p q).stands (rest_found {f = f} s n.next fields_after_row (omega arith) h).stands);
          })
      rest n q None h e = not_both refl (ap is_some e)

      go : (n : Option Number) → number_at s p ≡ n → Some line ≡ line_with n → Lined s p line.next
      go None q e = not_both refl (ap is_some e)
      go (Some n) q e = rest n q (rest_of_line s n.next fields_after_row) refl e

board_there : (b : Option BoardLine) → is_some b ≡ true → Some (line_or b) ≡ b
board_there (Some line) e = refl
board_there None e = not_both e refl

-- ---- the lines so far

-- each of them was read, the next one starts at `next`, and these are their boards
pub record ReadTo (s : List ℕ) (boards : Boards) (next : ℕ) : Type 0 where
  pub lines : Passed s 0 (has_board s) next boards.count
  pub few : boards.count ≤ length s
  pub same : boards ≡ boards_up_to s boards.count

-- the list has room for sixteen
pub list_long : (s : List ℕ) (n : ℕ) → length (boards_up_to s n).list ≡ most_boards
unfolding boards_up_to with_board
list_long s zero = length-replicate most_boards no_board
list_long s (suc n) =
    let before = list_long s n in
    pick_both (λ (l : List Board). length l ≡ most_boards) (ltb (boards_up_to s n).count most_boards)
    (length-set (boards_up_to s n).list (boards_up_to s n).count (board_of (board_from s n)) ∙ before) before

module _ (s : List ℕ) where
  abbrev found : ℕ → Bool
  found = has_board s

  pub read_none : {boards : Boards} → boards ≡ no_boards → ReadTo s boards 0
  unfolding boards_up_to
  read_none e =
      subst (λ (b : Boards). ReadTo s b 0) (sym e) (record { lines = passed_none s 0 found; few = omega arith; same = refl })

  module _ {boards : Boards} {next : ℕ} (a : ReadTo s boards next) where
    -- the text has as many lines and no more
    all_read : found boards.count ≡ false → boards_read s ≡ boards.count
    unfolding boards_read
    all_read h = go (ℕ_discrete boards.count (length s))
      where
        go : Dec (boards.count ≡ length s) → first_failing (length s) found ≡ boards.count
        go (yes z) = failing_none (length s) found (λ k l. a.lines.so_far k (omega (arith, z, l))) ∙ sym z
        go (no d) = failing_at (length s) found boards.count (omega (arith, d, a.few)) a.lines.so_far h

    boards_are : boards_read s ≡ boards.count → boards ≡ boards_up_to s (boards_read s)
    boards_are e = a.same ∙ ap (boards_up_to s) (sym e)

    starts : boards_read s ≡ boards.count → line_from s 0 (boards_read s) ≡ next
    starts e = ap (line_from s 0) e ∙ sym a.lines.here

    found_as : {n m : ℕ} {b c : Boards} → n ≡ m → b ≡ c → ◌≡◌ {A = BoardsFound} (record { bad = n; boards = b }) (record { bad = m; boards = c })
    found_as p q = cc

    pub read_end : length s ≤ next → record { bad = 0; boards = boards } ≡ boards_found s
    unfolding bad_board
    read_end l =
        let many =
        all_read
        (no_more (found boards.count)
        (λ t. omega (arith, l, a.lines.here, lined_inside (board_lined s (line_from s 0 boards.count) (board_there _ t))))) in
        found_as (sym (pick_true _ _ (le-leb (length s) (line_from s 0 (boards_read s)) (omega (arith, l, starts many))))) (boards_are many)

    board_here : board_line s next ≡ board_from s boards.count
    board_here = ap (board_line s) a.lines.here

    pub count_fits : next < length s → boards.count + 1 ≤ length s
    count_fits l = omega (arith, l, a.lines.passed)

    pub read_stop : None ≡ board_line s next → next < length s → record { bad = boards.count + 1; boards = boards } ≡ boards_found s
    unfolding bad_board
    read_stop e l =
        let many = all_read (sym (ap is_some (e ∙ board_here))) in
        found_as
        (ap (λ (k : ℕ). k + 1) (sym many)
        ∙ sym (pick_false _ _ (lt-leb (length s) (line_from s 0 (boards_read s)) (omega (arith, l, starts many))))) (boards_are many)

    module _ {f : BoardLine} (e : Some f ≡ board_line s next) (l : next < length s) where
      lined : Lined s next f.next
      lined = board_lined s next e

      pub read_forth : next < f.next
      read_forth = lined_forth lined

      pub read_more : {after : Boards} → after ≡ with_board boards f.board → ReadTo s after f.next
      unfolding with_board boards_up_to
      read_more {after} w =
          let more : after.count ≡ boards.count + 1 = ap (λ (b : Boards). b.count) w in
          record {
            lines =
                subst (λ (k : ℕ). Passed s 0 found f.next k) (sym more)
                (passed_more s 0 found a.lines (sym (ap is_some (e ∙ board_here))) lined);
            few = omega (arith, more, count_fits l);
            same =
                w
                ∙ (ap₂ with_board a.same (ap board_of (e ∙ board_here))
                ∙ ap (boards_up_to s) (sym (more ∙ add-one boards.count)));
          }
