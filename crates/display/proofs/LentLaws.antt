-- Laws of a lent list of boards: what is kept after so many of them, the list after so many are put back, and that a run of boards by value is one
-- of the list.
-- Assumes nothing.
use mathlib.Core.Path.{◌≡◌, refl, sym, ap, ap₂, ◌∙◌, subst}
use mathlib.Core.Bool.{Bool, false}
use mathlib.Core.List.{List, [], ◌∷◌, ◌++◌}
use Prim.Native.Nat.{ℕ, zero, suc, ◌+◌, ◌-◌, ◌≤◌, ◌<◌, ◌^◌}
use native.Mathlib.Nat.{not-suc-le-zero, le_of_suc-le-suc}
use native.Mathlib.Numerals.{add-one}
use native.Mathlib.Decide.{dec_lt, ℕ_discrete}
use native.Mathlib.Omega.{arith}
use lib.Dec.{ltb, eqb}
use lib.ListN.{length, get_or, set, take, drop, replicate, length-set, length-replicate, get_or-replicate, length-map, length-append}
use lib.ListN.{get_or-eq_default, get_or-append, take-append-drop}
use lib.Seq.{ext_get_or, get_or-set_same, get_or-set_other, get_or-take, get_or-append-add, take-take, take-append_seam, length-take-le}
use borrow.Author.Tests.{lt-ltb, le-ltb, lt-leb, ne_eqb}
use Rattle.reckon.specs.Tests.{pick, refusal, ◌unless◌}
use Rattle.reckon.proofs.TestLaws.{pick_true, pick_false, pick_both, every_fails, refusal_both, refusal_here}
use Rattle.ledger.specs.Runs.{Plan, World}
use Rattle.checks.specs.Given.{Given}
use Rattle.checks.specs.Refusals.{check_refusals, run_checks}
use Rattle.flood.specs.Run.{go_on, run_to}
use Rattle.display.specs.Boards.{most_boards, no_board, no_boards, with_board, listed, boards_fine}
use Rattle.display.specs.Watch.{watch_number, watched_to, boards_after, Watches, WatchesHeld}
use Rattle.display.specs.Inner.Lent.{held_of, board_at, back_from, back_in}
use Rattle.display.specs.declared.boards.Board.{Board}
use Rattle.display.specs.declared.boards.Boards.{Boards}
use Rattle.display.specs.declared.boards.Shown.{Shown}

-- ---- what is kept after the first i boards of a list

unfoldable pub held_to : List Board → ℕ → Boards
held_to boards zero = no_boards
held_to boards (suc i) = with_board (held_to boards i) (get_or boards i no_board)

pub held_none : (boards : List Board) → no_boards ≡ held_to boards 0
unfolding held_to
held_none boards = refl

pub held_more : (boards : List Board) (i : ℕ) → with_board (held_to boards i) (get_or boards i no_board) ≡ held_to boards (i + 1)
unfolding held_to
held_more boards i = ap (held_to boards) (sym (add-one i))

module _ (boards : List Board) where
  held_count : (i : ℕ) → (held_to boards i).count ≡ i
  unfolding held_to with_board
  held_count zero = refl
  held_count (suc i) = add-one (held_to boards i).count ∙ ap suc (held_count i)

  pub held_fits : {i : ℕ} → i < length boards → length boards < 2 ^ 64 → (held_to boards i).count + 1 < 2 ^ 64
  held_fits {i} less small = omega (arith, held_count i, less, small)

  held_long : (i : ℕ) → length (held_to boards i).list ≡ most_boards
  unfolding held_to with_board
  held_long zero = length-replicate most_boards no_board
  held_long (suc i) =
      pick_both (λ (l : List Board). length l ≡ most_boards) (ltb (held_to boards i).count most_boards)
      (length-set (held_to boards i).list (held_to boards i).count (get_or boards i no_board) ∙ held_long i) (held_long i)

  -- at a place below the sixteenth: the list's board, once it is reached
  held_at : (i k : ℕ) → k < most_boards → get_or (held_to boards i).list k no_board ≡ pick (ltb k i) (get_or boards k no_board) no_board
  unfolding held_to with_board
  held_at zero k b = get_or-replicate most_boards k no_board no_board b ∙ sym (pick_false _ _ (le-ltb k 0 (omega arith)))
  held_at (suc i) k b =
      ap
      (λ (c : ℕ). get_or (pick (ltb c most_boards) (set (held_to boards i).list c (get_or boards i no_board)) (held_to boards i).list) k no_board)
      (held_count i)
      ∙ go (held_at i k b) (dec_lt i most_boards) (ℕ_discrete k i)
    where
      apart : (k ≡ i → ⊥) → Dec (k < i) → ltb k i ≡ ltb k (suc i)
      apart d (yes h) = lt-ltb k i h ∙ sym (lt-ltb k (suc i) (omega arith))
      apart d (no h) = le-ltb k i (omega arith) ∙ sym (le-ltb k (suc i) (omega arith))

      still :
          get_or (held_to boards i).list k no_board ≡ pick (ltb k i) (get_or boards k no_board) no_board → (k ≡ i → ⊥) →
          get_or (held_to boards i).list k no_board ≡ pick (ltb k (suc i)) (get_or boards k no_board) no_board
      still was d = was ∙ ap (λ (t : Bool). pick t (get_or boards k no_board) no_board) (apart d (dec_lt k i))

      go :
          get_or (held_to boards i).list k no_board ≡ pick (ltb k i) (get_or boards k no_board) no_board → Dec (i < most_boards) → Dec (k ≡ i) →
          get_or (pick (ltb i most_boards) (set (held_to boards i).list i (get_or boards i no_board)) (held_to boards i).list) k no_board
          ≡ pick (ltb k (suc i)) (get_or boards k no_board) no_board
      go was (yes h) (yes e) =
          ap (λ (l : List Board). get_or l k no_board) (pick_true _ _ (lt-ltb i most_boards h))
          ∙ (ap (λ (m : ℕ). get_or (set (held_to boards i).list i (get_or boards i no_board)) m no_board) e
          ∙ (get_or-set_same (held_to boards i).list i (get_or boards i no_board) no_board (omega (arith, held_long i, h))
          ∙ (ap (λ (m : ℕ). get_or boards m no_board) (sym e) ∙ sym (pick_true _ _ (lt-ltb k (suc i) (omega (arith, e)))))))
      go was (yes h) (no d) =
          ap (λ (l : List Board). get_or l k no_board) (pick_true _ _ (lt-ltb i most_boards h))
          ∙ (get_or-set_other (held_to boards i).list i k (get_or boards i no_board) no_board d ∙ still was d)
      go was (no h) d =
          ap (λ (l : List Board). get_or l k no_board) (pick_false _ _ (le-ltb i most_boards (omega (arith, h))))
          ∙ still was (λ e. h (omega (arith, e, b)))

-- ---- the boards of a list by value

module _ (boards : List Board) where
  room_long : most_boards ≤ length (boards ++ replicate most_boards no_board)
  room_long = omega (arith, length-append boards (replicate most_boards no_board), length-replicate {A = Board} most_boards no_board)

  pub of_long : length (held_of boards).list ≡ most_boards
  of_long = length-take-le most_boards (boards ++ replicate most_boards no_board) room_long

  pub of_at : (k : ℕ) → k < most_boards → get_or (held_of boards).list k no_board ≡ get_or boards k no_board
  of_at k b = get_or-take most_boards (boards ++ replicate most_boards no_board) k no_board b ∙ go (dec_lt k (length boards))
    where
      go : Dec (k < length boards) → get_or (boards ++ replicate most_boards no_board) k no_board ≡ get_or boards k no_board
      go (yes h) = get_or-append boards (replicate most_boards no_board) no_board k h
      go (no h) =
          let past : length boards + (k - length boards) ≡ k = omega (arith, h) in
          ap (λ (m : ℕ). get_or (boards ++ replicate most_boards no_board) m no_board) (sym past)
          ∙ (get_or-append-add boards (replicate most_boards no_board) (k - length boards) no_board
          ∙ (get_or-replicate most_boards (k - length boards) no_board no_board (omega (arith, b))
          ∙ sym (get_or-eq_default boards no_board {n = k} (omega (arith, h)))))

  pub held_all : held_to boards (length boards) ≡ held_of boards
  held_all = ap₂ (λ (c : ℕ) (l : List Board). record { count = c; list = l }) (held_count boards (length boards)) lists
    where
      at : (k : ℕ) → k < most_boards → Dec (k < length boards) → pick (ltb k (length boards)) (get_or boards k no_board) no_board ≡ get_or boards k no_board
      at k b (yes h) = pick_true _ _ (lt-ltb k (length boards) h)
      at k b (no h) =
          pick_false _ _ (le-ltb k (length boards) (omega (arith, h))) ∙ sym (get_or-eq_default boards no_board {n = k} (omega (arith, h)))

      lists : (held_to boards (length boards)).list ≡ (held_of boards).list
      lists =
          ext_get_or no_board _ _ (held_long boards (length boards) ∙ sym of_long)
          (λ k l.
          let b : k < most_boards = omega (arith, l, held_long boards (length boards)) in
          held_at boards (length boards) k b ∙ (at k b (dec_lt k (length boards)) ∙ sym (of_at k b)))

-- ---- the list after the first i boards are put back

module _ (held : Boards) where
  unfoldable pub put_from : ℕ → ℕ → List Board → List Board
  put_from place zero boards = boards
  put_from place (suc i) [] = []
  put_from place (suc i) (board ∷ rest) = board_at held place board ∷ put_from (suc place) i rest

  abbrev pub back_to : ℕ → List Board → List Board
  back_to i boards = put_from 0 i boards

  put_long : (place i : ℕ) (boards : List Board) → length (put_from place i boards) ≡ length boards
  unfolding put_from
  put_long place zero boards = refl
  put_long place (suc i) [] = refl
  put_long place (suc i) (board ∷ rest) = ap suc (put_long (suc place) i rest)

  put_get : (place i : ℕ) (boards : List Board) → get_or (put_from place i boards) i no_board ≡ get_or boards i no_board
  unfolding put_from
  put_get place zero boards = refl
  put_get place (suc i) [] = refl
  put_get place (suc i) (board ∷ rest) = put_get (suc place) i rest

  put_set :
      (place i : ℕ) (boards : List Board) → i < length boards →
      set (put_from place i boards) i (board_at held (i + place) (get_or boards i no_board)) ≡ put_from place (suc i) boards
  unfolding put_from
  put_set place i [] h = absurd (not-suc-le-zero h)
  put_set place zero (board ∷ rest) h = ap (λ (p : ℕ). board_at held p board ∷ rest) (omega arith)
  put_set place (suc i) (board ∷ rest) h =
      let moved : suc i + place ≡ i + suc place = omega arith in
      ap (λ (l : List Board). board_at held place board ∷ l)
      (ap (λ (p : ℕ). set (put_from (suc place) i rest) i (board_at held p (get_or rest i no_board))) moved
      ∙ put_set (suc place) i rest (le_of_suc-le-suc h))

  put_all : (place i : ℕ) (boards : List Board) → length boards ≤ i → put_from place i boards ≡ back_from held place boards
  unfolding put_from back_from
  put_all place zero [] h = refl
  put_all place zero (board ∷ rest) h = absurd (not-suc-le-zero h)
  put_all place (suc i) [] h = refl
  put_all place (suc i) (board ∷ rest) h = ap (λ (l : List Board). board_at held place board ∷ l) (put_all (suc place) i rest (le_of_suc-le-suc h))

  pub back_none : (boards : List Board) → boards ≡ back_to 0 boards
  unfolding put_from
  back_none boards = refl

  pub back_long : (i : ℕ) (boards : List Board) → length (back_to i boards) ≡ length boards
  back_long i boards = put_long 0 i boards

  pub back_more :
      (i : ℕ) (boards : List Board) {r : Board} → i < length boards → r ≡ board_at held i (get_or (back_to i boards) i no_board) →
      set (back_to i boards) i r ≡ back_to (i + 1) boards
  back_more i boards {r} less e =
      let same : i + 0 ≡ i = omega arith in
      ap (set (back_to i boards) i)
      (e ∙ (ap (board_at held i) (put_get 0 i boards) ∙ ap (λ (p : ℕ). board_at held p (get_or boards i no_board)) (sym same)))
      ∙ (put_set 0 i boards less ∙ ap (λ (k : ℕ). back_to k boards) (sym (add-one i)))

  pub back_all : (i : ℕ) (boards : List Board) → length boards ≤ i → back_to i boards ≡ back_in held boards
  back_all i boards h = put_all 0 i boards h

  pub backed_long : (boards : List Board) → length (back_in held boards) ≡ length boards
  backed_long boards = ap length (sym (back_all (length boards) boards (omega arith))) ∙ back_long (length boards) boards

  backed_from :
      (place k : ℕ) (boards : List Board) → k < length boards →
      get_or (back_from held place boards) k no_board ≡ board_at held (k + place) (get_or boards k no_board)
  unfolding back_from
  backed_from place k [] h = absurd (not-suc-le-zero h)
  backed_from place zero (board ∷ rest) h = ap (λ (p : ℕ). board_at held p board) (omega arith)
  backed_from place (suc k) (board ∷ rest) h =
      let moved : k + suc place ≡ suc k + place = omega arith in
      backed_from (suc place) k rest (le_of_suc-le-suc h) ∙ ap (λ (p : ℕ). board_at held p (get_or rest k no_board)) moved

  backed_at : (k : ℕ) (boards : List Board) → k < length boards → get_or (back_in held boards) k no_board ≡ board_at held k (get_or boards k no_board)
  backed_at k boards h =
      let same : k + 0 ≡ k = omega arith in
      backed_from 0 k boards h ∙ ap (λ (p : ℕ). board_at held p (get_or boards k no_board)) same

  -- a list is the boards put back where each is
  is_back :
      (boards l : List Board) → length l ≡ length boards → ((k : ℕ) → k < length boards → get_or l k no_board ≡ board_at held k (get_or boards k no_board)) →
      back_in held boards ≡ l
  is_back boards l long each =
      ext_get_or no_board _ _ (backed_long boards ∙ sym long)
      (λ k h.
      let b : k < length boards = omega (arith, h, backed_long boards) in
      backed_at k boards b ∙ sym (each k b))

  pub board_below : (k : ℕ) (board : Board) → k < most_boards → board_at held k board ≡ get_or held.list k no_board
  unfolding board_at
  board_below k board h = pick_true _ _ (lt-ltb k most_boards h)

  pub board_past : (k : ℕ) (board : Board) → most_boards ≤ k → board_at held k board ≡ board
  unfolding board_at
  board_past k board h = pick_false _ _ (le-ltb k most_boards h)

-- up to sixteen are all there
held_whole : (boards : List Board) → length boards ≤ most_boards → listed (held_of boards) ≡ boards
held_whole boards h = take-take (length boards) most_boards _ h ∙ take-append_seam boards (replicate most_boards no_board)

-- boards that were not changed: the list stays
pub back_same : (held : Boards) (boards : List Board) → held.list ≡ (held_of boards).list → back_in held boards ≡ boards
back_same held boards same = is_back held boards boards refl (λ k b. at k (dec_lt k most_boards))
  where
    at : (k : ℕ) → Dec (k < most_boards) → get_or boards k no_board ≡ board_at held k (get_or boards k no_board)
    at k (yes b) = sym (board_below held k (get_or boards k no_board) b ∙ (ap (λ (l : List Board). get_or l k no_board) same ∙ of_at boards k b))
    at k (no b) = sym (board_past held k (get_or boards k no_board) (omega (arith, b)))

-- a list by value is that of its counted boards and of the rest
pub same_list :
    (boards : List Board) (held : Boards) → held.count ≡ length boards → listed held ≡ listed (held_of boards) →
    drop (length boards) held.list ≡ drop (length boards) (held_of boards).list → held.list ≡ (held_of boards).list
same_list boards held count first rest =
    sym (take-append-drop (length boards) held.list)
    ∙ (ap₂ (λ (x y : List Board). x ++ y) (ap (λ (k : ℕ). take k held.list) (sym count) ∙ first) rest
    ∙ take-append-drop (length boards) (held_of boards).list)

-- ---- a run of boards by value is one of the list

module _ (p : Plan) (g : Given) (end : ℕ) (w : World) where
  after_long : (n : ℕ) (boards : List Board) → length (boards_after p g end w n boards) ≡ length boards
  unfolding boards_after
  after_long n boards = pick_both (λ (l : List Board). length l ≡ length boards) (eqb (watch_number p g end w n boards) 0) (length-map boards _) refl

  -- over sixteen boards: refused whatever they are
  module _ {n : ℕ} (many : most_boards < n) where
    not_fine : (boards : List Board) → boards_fine p n boards ≡ false
    unfolding boards_fine
    not_fine boards = every_fails _ 0 (lt-leb n most_boards many)

    abbrev too_many : ℕ
    too_many = refusal (run_checks p g end w ++ (13 unless false ∷ []))

    refused : too_many ≡ 0 → ⊥
    unfolding check_refusals
    refused e = omega (arith, (refusal_both (run_checks p g end w) (13 unless false ∷ []) tt e).1, refusal_here 13 {b = false} [] refl)

    number_many : (boards : List Board) → watch_number p g end w n boards ≡ too_many
    unfolding watch_number
    number_many boards = ap (λ (t : Bool). refusal (run_checks p g end w ++ (13 unless t ∷ []))) (not_fine boards)

    ended_many : (boards : List Board) → watched_to p g end w n boards ≡ go_on too_many 0 w (run_to p g end w)
    unfolding watched_to
    ended_many boards = ap (λ (k : ℕ). go_on k 0 w (run_to p g end w)) (number_many boards)

    after_many : (boards : List Board) → boards_after p g end w n boards ≡ boards
    unfolding boards_after
    after_many boards = pick_false _ _ (ne_eqb _ 0 (λ e. refused (sym (number_many boards) ∙ e)))

  -- the run with boards by value ends as that with the list
  pub held_ends : (boards : List Board) → watched_to p g end w (length boards) (listed (held_of boards)) ≡ watched_to p g end w (length boards) boards
  held_ends boards = go (dec_lt most_boards (length boards))
    where
      go :
          Dec (most_boards < length boards) →
          watched_to p g end w (length boards) (listed (held_of boards)) ≡ watched_to p g end w (length boards) boards
      go (yes h) = ended_many h (listed (held_of boards)) ∙ sym (ended_many h boards)
      go (no h) = ap (watched_to p g end w (length boards)) (held_whole boards (omega (arith, h)))

  module _ (boards : List Board) {a : Shown} {depths lasts records : List ℕ} (f : WatchesHeld p g end w (held_of boards) a depths lasts records) where
    abbrev pub n : ℕ
    n = length boards

    listed_is : listed a.boards ≡ take n a.boards.list
    listed_is = ap (λ (k : ℕ). take k a.boards.list) f.count_is

    few : n ≤ most_boards → Watches p g end w n boards a.ran depths lasts records (back_in a.boards boards)
    few h = subst (Watches p g end w n boards a.ran depths lasts records) (sym back) whole
      where
        whole : Watches p g end w n boards a.ran depths lasts records (take n a.boards.list)
        whole =
            subst (λ (l : List Board). Watches p g end w n l a.ran depths lasts records (take n a.boards.list)) (held_whole boards h)
            (subst (Watches p g end w n (listed (held_of boards)) a.ran depths lasts records) listed_is f.watches)

        long : length (take n a.boards.list) ≡ n
        long = ap length whole.boards_are ∙ after_long n boards

        back : back_in a.boards boards ≡ take n a.boards.list
        back =
            is_back a.boards boards (take n a.boards.list) long
            (λ k b.
            get_or-take n a.boards.list k no_board b ∙ sym (board_below a.boards k (get_or boards k no_board) (omega (arith, b, h))))

    many : most_boards < n → Watches p g end w n boards a.ran depths lasts records (back_in a.boards boards)
    many h =
        record {
          ends = f.watches.ends ∙ held_ends boards;
          boards_are = back_same a.boards boards held-list ∙ sym (after_many h boards);
        }
      where
        held-list : a.boards.list ≡ (held_of boards).list
        held-list = same_list boards a.boards f.count_is (f.watches.boards_are ∙ after_many h (listed (held_of boards))) f.rest_stays

    pub by_value : Watches p g end w n boards a.ran depths lasts records (back_in a.boards boards)
    by_value = go (dec_lt most_boards n)
      where
        go : Dec (most_boards < n) → Watches p g end w n boards a.ran depths lasts records (back_in a.boards boards)
        go (yes h) = many h
        go (no h) = few (omega (arith, h))

  pub watched_back :
      (boards : List Board) {held : Boards} {a : Shown} {depths lasts records : List ℕ} {after : List Board} →
      held ≡ held_of boards → WatchesHeld p g end w held a depths lasts records → after ≡ back_in a.boards boards →
      Watches p g end w (length boards) boards a.ran depths lasts records after
  watched_back boards {held} {a} {depths} {lasts} {records} {after} e f t =
      let whole = by_value boards (subst (λ (h : Boards). WatchesHeld p g end w h a depths lasts records) e f) in
      subst (λ (l : List Board). Watches p g end w (length boards) boards a.ran depths lasts records l) (sym t) whole
