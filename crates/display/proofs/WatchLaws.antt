-- Laws of a run with boards: where a loop of steps has come to, the boards show all states so far; and rows 1 to 6, then 13, then the plain run.
-- Assumes nothing.
use mathlib.Core.Path.{◌≡◌, refl, sym, ap, subst, ◌∙◌}
use mathlib.Core.Bool.{Bool, true, false}
use mathlib.Core.List.{List, [], ◌∷◌, map}
use Prim.Native.Nat.{ℕ, zero, suc, ◌+◌, ◌<◌}
use native.Mathlib.Numerals.{add-one}
use native.Mathlib.Omega.{arith}
use lib.Dec.{T}
use lib.ListN.{get_or, drop}
use lib.Seq.{get_or-take}
use borrow.Author.Tests.{eq-eqb, ne_eqb, leb-true, ltb-true}
use Rattle.reckon.specs.Tests.{refusal, ◌unless◌}
use Rattle.reckon.specs.Inner.Rows.{numbered}
use Rattle.reckon.proofs.TestLaws.{pick_true, pick_false, pick_both, every_each, all_at, refusal_here, refusal_later, refusal-first, refusal-second}
use Rattle.grid.specs.Squares.{ShapeInRange}
use Rattle.grid.specs.declared.squares.Shape.{Shape}
use Rattle.ledger.specs.Runs.{Plan, World}
use Rattle.checks.specs.Given.{Given}
use Rattle.checks.specs.Refusals.{run_checks, check_refusals}
use Rattle.flood.specs.Step.{stepped}
use Rattle.flood.specs.Run.{Ended, go_on, run_to, steps_on}
use Rattle.flood.specs.Inner.Run.{KeptOver}
use Rattle.flood.proofs.RunToLaws.{stops, run_passed}
use Rattle.display.specs.Boards.{no_board, listed, board_fine, boards_fine, shown}
use Rattle.display.specs.Watch.{watch_number, watched_to, boards_after, WatchesHeld}
use Rattle.display.specs.Inner.Refreshed.{counted, looked_at, refreshed, seen_after, BoardsOn, shown_with, WatchesOn}
use Rattle.display.specs.declared.boards.Board.{Board}
use Rattle.display.specs.declared.boards.Boards.{Boards}
use Rattle.display.specs.declared.boards.Shown.{Shown}
use Rattle.display.proofs.FirstLaws.{first_part, rest_part, first_keeps, first_ext, first-twice}
use Rattle.display.proofs.ShownLaws.{looked_begins, looked_next, shown_again}

-- ---- a loop of steps

same_boards : {x y : Boards} → x.count ≡ y.count → x.list ≡ y.list → x ≡ y
same_boards c l = λ j. record { count = c j; list = l j }

module _ (p : Plan) (g : Given) (w : World) (before : Boards) where
  -- every counted board over the states after 0 .. n steps
  abbrev showing : ℕ → Boards
  showing n = counted (λ (b : Board). shown p g w b n) before

  pub record Watching (now : World) (steps : ℕ) (boards : Boards) : Type 0 where
    pub now_is : now ≡ steps_on p g steps w
    pub boards_are : boards ≡ showing steps

  -- one state more
  pub watching_on :
      {now after : World} {steps : ℕ} {boards boards' : Boards} → Watching now steps boards → after ≡ stepped p g now →
      boards' ≡ refreshed p.shape after.depths false after.run.clock boards → Watching after (steps + 1) boards'
  unfolding steps_on
  watching_on {now} {after} {steps} {boards} r made e =
      let on : after ≡ steps_on p g (suc steps) w = made ∙ ap (stepped p g) r.now_is in
      rw (add-one steps)
      (record {
        now_is = on;
        boards_are =
            e
            ∙ (ap (refreshed p.shape after.depths false after.run.clock) r.boards_are
            ∙ same_boards refl (first-twice _ _ _ (λ b. looked_next p g w b steps after on) before.count before.list));
      })

-- seen after each step of a run
module _ (p : Plan) (g : Given) (w : World) where
  pub watching_all :
      (n : ℕ) {bs bs' : Boards} → Watching p g w bs w 0 bs → KeptOver seen_after p g w n bs bs' → Watching p g w bs (steps_on p g n w) n bs'
  unfolding KeptOver steps_on
  watching_all zero {bs} f r = subst (Watching p g w bs w 0) (sym r) f
  watching_all (suc n) {bs} f r = rw (sym (add-one n)) (watching_on p g w bs (watching_all n f r.1) refl r.2.kept)

-- boards that are looked at stay where they are
module _ (s : Shape) (depths : List ℕ) (starting : Bool) (clock : ℕ) (before : Boards) where
  stays :
      (what : Board → ℕ) → ((b : Board) → what (looked_at s depths starting clock b) ≡ what b) → (k : ℕ) →
      what (get_or (refreshed s depths starting clock before).list k no_board) ≡ what (get_or before.list k no_board)
  stays what h k = first_keeps (looked_at s depths starting clock) what h before.count before.list k no_board

  pub still_on : {after : Boards} → BoardsOn s before → after ≡ refreshed s depths starting clock before → BoardsOn s after
  unfolding looked_at
  still_on on e =
      subst (BoardsOn s) (sym e)
      (record {
        few = on.few;
        each = λ k h.
            let here = on.each k h in
            record {
              fine = here.fine;
              row_in = subst (λ (x : ℕ). x < s.rows) (sym (stays (λ (b : Board). b.row) (λ b. pick_both (λ (x : Board). x.row ≡ b.row) starting refl refl) k)) here.row_in;
              column_in = subst (λ (x : ℕ). x < s.columns) (sym (stays (λ (b : Board). b.column) (λ b. pick_both (λ (x : Board). x.column ≡ b.column) starting refl refl) k)) here.column_in;
            };
      })

-- the same from the boards as they are after the starting state
module _
    (p : Plan) (g : Given) (w : World) (before : Boards) {first : Boards}
    (e : first ≡ refreshed p.shape w.depths true w.run.clock before) where
  first_shows : first ≡ showing p g w before 0
  first_shows = e ∙ same_boards refl (first_ext _ _ (λ b. looked_begins p g w b) before.count before.list)

  -- a run sets them anew
  again : (n : ℕ) → showing p g w first n ≡ showing p g w before n
  again n =
      ap (λ (x : Boards). showing p g w x n) first_shows
      ∙ same_boards refl (first-twice _ _ _ (λ b. shown_again p g w b 0 n) before.count before.list)

  pub watching_starts : Watching p g w first w 0 first
  unfolding steps_on
  watching_starts = record { now_is = refl; boards_are = first_shows ∙ sym (again 0) }

  pub watching_whole :
      {now : World} {steps : ℕ} {boards : Boards} → Watching p g w first now steps boards →
      boards ≡ counted (λ (b : Board). shown p g w b steps) before
  watching_whole {steps = steps} r = r.boards_are ∙ again steps

-- ---- refusal 13

-- boards that are fine stand on the grid
fine_parts : (p : Plan) (b : Board) → board_fine p b ≡ true → (b.row < p.shape.rows) × (b.column < p.shape.columns)
unfolding board_fine
fine_parts p b e = let t = every_each _ e in (ltb-true _ _ t.0, ltb-true _ _ t.1.0)

pub fine_on : (p : Plan) (bs : Boards) → ShapeInRange p.shape → boards_fine p bs.count (listed bs) ≡ true → BoardsOn p.shape bs
unfolding boards_fine
fine_on p bs fine e =
    let t = every_each _ e in
    record {
      few = leb-true _ _ t.0;
      each = λ k h.
          let at = fine_parts p _ (sym (ap (board_fine p) (get_or-take bs.count bs.list k no_board h)) ∙ all_at _ _ t.1.0 k h) in
          record { fine = fine; row_in = at.0; column_in = at.1 };
    }

-- ---- rows 1 to 6, and then 13

module _ (p : Plan) (g : Given) (end : ℕ) (w : World) (before : Boards) where
  abbrev checked : ℕ
  checked = refusal (run_checks p g end w)

  abbrev all_fine : Bool
  all_fine = boards_fine p before.count (listed before)

  abbrev number : ℕ
  number = watch_number p g end w before.count (listed before)

  rows_named : T (numbered (run_checks p g end w))
  unfolding check_refusals
  rows_named = tt

  first_refuses : (checked ≡ 0 → ⊥) → number ≡ checked
  unfolding watch_number
  first_refuses d = refusal-first (run_checks p g end w) (13 unless all_fine ∷ []) rows_named d

  then_refuses : checked ≡ 0 → all_fine ≡ false → number ≡ 13
  unfolding watch_number
  then_refuses z f = refusal-second (run_checks p g end w) (13 unless all_fine ∷ []) rows_named z ∙ refusal_here 13 [] f

  none_refuses : checked ≡ 0 → all_fine ≡ true → number ≡ 0
  unfolding watch_number refusal
  none_refuses z f = refusal-second (run_checks p g end w) (13 unless all_fine ∷ []) rows_named z ∙ refusal_later 13 [] f

  -- nothing is made and nothing written
  refused_by : {n : ℕ} → number ≡ n → (n ≡ 0 → ⊥) → WatchesHeld p g end w before (shown_with n 0 w.run before) w.depths w.lasts w.records
  unfolding watched_to boards_after
  refused_by {n} e d =
      record {
        watches =
            record {
              ends = sym (ap (λ (k : ℕ). go_on k 0 w (run_to p g end w)) e ∙ stops p g end 0 w _ d);
              boards_are = sym (pick_false _ _ (ne_eqb _ _ (λ z. d (sym e ∙ z))));
            };
        count_is = refl;
        rest_stays = refl;
      }

  pub rows_refused :
      {n : ℕ} {a : Shown} → n ≡ checked → (n ≡ 0 → ⊥) → a ≡ shown_with n 0 w.run before →
      WatchesHeld p g end w before a w.depths w.lasts w.records
  rows_refused {n} e d o =
      subst (λ (x : Shown). WatchesHeld p g end w before x w.depths w.lasts w.records) (sym o)
      (refused_by {n = n} (first_refuses (λ z. d (e ∙ z)) ∙ sym e) d)

  pub boards_refused :
      {n : ℕ} {a : Shown} → n ≡ checked → n ≡ 0 → all_fine ≡ false → a ≡ shown_with 13 0 w.run before →
      WatchesHeld p g end w before a w.depths w.lasts w.records
  boards_refused e z f o =
      subst (λ (x : Shown). WatchesHeld p g end w before x w.depths w.lasts w.records) (sym o)
      (refused_by {n = 13} (then_refuses (sym e ∙ z) f) (λ q. omega (arith, q)))

  -- the plain run
  goes_plain : number ≡ 0 → watched_to p g end w before.count (listed before) ≡ run_to p g end w
  unfolding watched_to go_on
  goes_plain z = rw z

  boards_then :
      number ≡ 0 →
      boards_after p g end w before.count (listed before) ≡ map (λ (b : Board). shown p g w b (run_to p g end w).steps) (listed before)
  unfolding boards_after
  boards_then z = pick_true _ _ (eq-eqb _ _ z)

  pub boards_run :
      {n : ℕ} {a : Shown} {depths lasts records : List ℕ} → n ≡ checked → n ≡ 0 → all_fine ≡ true →
      WatchesOn p g end w before a depths lasts records → WatchesHeld p g end w before a depths lasts records
  boards_run {a = a} e z f o =
      let none = none_refuses (sym e ∙ z) f in
      let same = run_passed p g end w e z o.ends in
      let rule : Board → Board = λ b. shown p g w b a.ran.steps in
      record {
        watches =
            record {
              ends = same ∙ sym (goes_plain none);
              boards_are =
                  ap listed o.boards_are
                  ∙ (first_part rule before.count before.list
                  ∙ (ap (λ (x : Ended). map (λ (b : Board). shown p g w b x.steps) (listed before)) same ∙ sym (boards_then none)));
            };
        count_is = ap (λ (x : Boards). x.count) o.boards_are;
        rest_stays = ap (λ (x : Boards). drop before.count x.list) o.boards_are ∙ rest_part rule before.count before.list;
      }
