-- What each call for a run with boards promises gives what its caller has.
-- Assumes nothing.
use mathlib.Core.Path.{◌≡◌, refl, sym, ap, ◌∙◌, subst}
use mathlib.Core.Bool.{Bool, true, false, ◌||◌}
use mathlib.Core.List.{List, [], ◌∷◌, ◌++◌, map}
use Prim.Native.Nat.{ℕ, zero, suc, ◌<◌}
use native.Mathlib.Decide.{ℕ_discrete}
use native.Mathlib.Omega.{arith}
use lib.Dec.{eqb, leb}
use lib.ListN.{length, get_or, length-map}
use borrow.Author.Tests.{eq-eqb, ne_eqb, lt-leb}
use Rattle.reckon.specs.Tests.{Row, pick, refusal}
use Rattle.reckon.proofs.TestLaws.{not_both, pick_true, pick_false, pick_both, no_more, and_false, or_of, refusal_both}
use Rattle.ledger.specs.Runs.{Plan, World, world, seen_of}
use Rattle.ledger.specs.Record.{ring_of}
use Rattle.ledger.specs.After.{late_refusals}
use Rattle.checks.specs.Given.{Given}
use Rattle.checks.specs.Refusals.{check_refusals, step_checks, run_checks}
use Rattle.moves.specs.Moves.{step_moves}
use Rattle.flood.specs.Step.{step_number}
use Rattle.flood.specs.Run.{Ended, ended, run_to, RunsTo}
use Rattle.flood.specs.declared.run.Ran.{Ran}
use Rattle.grid.specs.declared.walks.Walk.TheVariants.{Wet}
use Rattle.display.specs.Boards.{no_board, shown}
use Rattle.display.specs.Watch.{watch_rows, watch_number, watched_to, boards_after, Watches, WatchesHeld}
use Rattle.display.specs.declared.boards.Board.{Board}
use Rattle.display.specs.declared.boards.Boards.{Boards}
use Rattle.display.specs.declared.boards.Shown.{Shown}
use Rattle.programs.specs.Program.{Prints}
use Rattle.levels.specs.Program.{boards_text}
use Rattle.exports.specs.Numbers.{run_value_from}
use Rattle.exports.specs.Refusals.{last_check, number_if}
use Rattle.exports.specs.Steps.{ran_sized}
use Rattle.display_exports.specs.Boards.{before_steps, ExportsBoards}
use Rattle.demands.specs.Table.{FirstFails, here, later, TableSays}
use Rattle.demands.specs.Demand1.{StopsBefore}
use Rattle.display.proofs.ShownLaws.{board_says}
use Rattle.demands.proofs.Boards.{boards_right}
use Rattle.demands.proofs.Demand1.{demand_1}
use Rattle.calls.proofs.LibraryLaws.{after_run}
use Rattle.calls.proofs.ListedLaws.{printed}
use Rattle.demands.specs.Boards.{BoardsRight}
use Rattle.calls.specs.Watched.{BoardIs, AfterBoards, AfterBoardsText, AfterFloodBoards, AfterHeld}

-- an element of a mapped list
mapped_at : (f : Board → Board) (l : List Board) (i : ℕ) → i < length l → get_or (map f l) i no_board ≡ f (get_or l i no_board)
mapped_at f [] i h = absurd (let z : i < 0 = h in omega arith)
mapped_at f (x ∷ xs) zero h = refl
mapped_at f (x ∷ xs) (suc i) h = mapped_at f xs i (omega (arith, h))

module _
    (p : Plan) (g : Given) (end : ℕ) (w : World) (n : ℕ) (before : List Board) {a : Ran} {depths lasts records : List ℕ} {after : List Board}
    (f : Watches p g end w n before a depths lasts records after) where
  right : BoardsRight p
  right = boards_right p

  says : TableSays (watch_rows p g end w n before) (watch_number p g end w n before)
  says = right.exactly_when g end w n before

  refused :
      (k : ℕ) → FirstFails (watch_rows p g end w n before) k →
      (a.refused ≡ k) × ((a.steps ≡ 0) × ((world depths lasts records a.run ≡ w) × (after ≡ before)))
  refused k first =
      let e : watch_number p g end w n before ≡ k = says.applies k first in
      let d : watch_number p g end w n before ≡ 0 → ⊥ = λ z. says.never_none (subst (FirstFails (watch_rows p g end w n before)) (sym e ∙ z) first) in
      let left = right.refusals_leave g end w n before d in
      let as-was = f.ends ∙ left.0 in (
        ap (λ (x : Ended). x.number) as-was ∙ e,
        (ap (λ (x : Ended). x.steps) as-was, (ap (λ (x : Ended). x.world) as-was, f.boards_are ∙ left.1)),
      )

  module _ (none : watch_number p g end w n before ≡ 0) where
    plain : RunsTo p g end w a depths lasts records
    plain = record { ends = f.ends ∙ right.same_run g end w n before none }

    shown_all : after ≡ map (λ (b : Board). shown p g w b (run_to p g end w).steps) before
    unfolding boards_after
    shown_all = f.boards_are ∙ pick_true _ _ (eq-eqb (watch_number p g end w n before) 0 none)

    board_is : (i : ℕ) → i < length before → BoardIs p g w (get_or before i no_board) a.steps (get_or after i no_board)
    board_is i l =
        record {
          shows =
              ap (λ (x : List Board). get_or x i no_board) shown_all
              ∙ (mapped_at _ before i l ∙ ap (shown p g w (get_or before i no_board)) (sym (ap (λ (x : Ended). x.steps) plain.ends)));
          says = board_says p g w (get_or before i no_board) a.steps;
        }

  as_many : length after ≡ length before
  unfolding boards_after
  as_many =
      ap (λ (x : List Board). length x) f.boards_are
      ∙ pick_both (λ (x : List Board). length x ≡ length before) (eqb (watch_number p g end w n before) 0) (length-map before _) refl

  pub after_boards : AfterBoards p g end w n before a (world depths lasts records a.run) after
  after_boards = record { exactly_when = refused; same_run = λ none. after_run Wet (plain none); boards = board_is; as_many = as_many }

pub after-held :
    (p : Plan) (g : Given) (end : ℕ) (w : World) (before : Boards) {a : Shown} {depths lasts records : List ℕ} →
    WatchesHeld p g end w before a depths lasts records → AfterHeld p g end w before a (world depths lasts records a.ran.run)
after-held p g end w before f =
    record {
      watched = after_boards p g end w before.count _ f.watches;
      count_is = f.count_is;
      rest_stays = f.rest_stays;
    }

-- ---- the exported call

-- a row of a table has the number
has : ℕ → List Row → Bool
has n [] = false
has n (r ∷ rows) = eqb n r.number || has n rows

first_has : {n : ℕ} {rows : List Row} → FirstFails rows n → has n rows ≡ true
unfolding has
first_has (here {n} {fine} {rows} e) = ap (λ (b : Bool). b || has n rows) (eq-eqb n n refl)
first_has (later {n} {k} {fine} {rows} e x) = or_of (eqb n k) (has n rows) (λ d. first_has x)

-- no step is refused by 13
never_thirteen : (p : Plan) (g : Given) (w : World) → step_number p g w ≡ 13 → ⊥
unfolding has check_refusals late_refusals
never_thirteen p g w e =
    let first = ((demand_1.exactly_when p).step g w).refused (λ z. omega (arith, e, z)) in
    let row : has 13 (step_checks p g (ring_of p w) (seen_of w) ++ late_refusals p (step_moves p g (seen_of w)) w) ≡ true = first_has (subst (FirstFails _) e first) in
    not_both row refl

-- so a number past the checks' that a step gives comes after some step, or before none
not_before : (k : ℕ) → last_check < k → (k ≡ 13 → ⊥) → before_steps k ≡ false
unfolding before_steps
not_before k late d = rw (and_false (leb 1 k) (leb k last_check) (lt-leb k last_check late), ne_eqb k 13 d)

module _ (p : Plan) (g : Given) (end : ℕ) (w : World) (n : ℕ) (boards : List Board) where
  checks_passed : watch_number p g end w n boards ≡ 0 → refusal (run_checks p g end w) ≡ 0
  unfolding watch_number check_refusals
  checks_passed e = (refusal_both (run_checks p g end w) _ tt e).0

  number_after : (e : Ended) → StopsBefore p g end w e → before_steps e.number ≡ false
  unfolding before_steps
  number_after e stops = go (ℕ_discrete e.number 0)
    where
      go : Dec (e.number ≡ 0) → before_steps e.number ≡ false
      go (yes z) = rw z
      go (no d) = not_before e.number (stops.late d) (λ t. never_thirteen p g e.world (sym (stops.stops d).1 ∙ t))

  -- refused by such a number, a run with boards made no step
  none_made : before_steps (watched_to p g end w n boards).number ≡ true → (watched_to p g end w n boards).steps ≡ 0
  none_made before = go (ℕ_discrete (watch_number p g end w n boards) 0)
    where
      go : Dec (watch_number p g end w n boards ≡ 0) → (watched_to p g end w n boards).steps ≡ 0
      go (yes none) =
          let same = (boards_right p).same_run g end w n boards none in
          not_both before
          (ap (λ (e : Ended). before_steps e.number) same ∙ number_after (run_to p g end w) (demand_1.run_stops p g end w (checks_passed none)))
      go (no d) = ap (λ (e : Ended). e.steps) ((boards_right p).refusals_leave g end w n boards d).0

-- the steps that its slice tells: none where it made none
told_steps : (b : Bool) (made : ℕ) (old : List ℕ) → (b ≡ true → made ≡ 0) → pick b 0 (get_or (pick b old (made ∷ [])) 0 0) ≡ made
unfolding pick
told_steps true made old none = sym (none refl)
told_steps false made old none = refl

pub after_flood_boards :
    (p : Plan) (g : Given) (end : ℕ) {depths lasts records : List ℕ} (rules old old_steps : List ℕ) (before : List Board) {number : ℕ}
    {depths' lasts' records' run steps : List ℕ} {after : List Board} →
    let w = world depths lasts records (run_value_from old) in
    ExportsBoards p g end w (length before) before rules old old_steps number depths' lasts' records' run steps after →
    AfterFloodBoards p g end w rules old old_steps before number (world depths' lasts' records' (run_value_from run)) run steps after
unfolding number_if
after_flood_boards p g end {depths} {lasts} {records} rules old old_steps before {number} {depths'} {lasts'} {records'} {run} {steps} {after} x =
    record {
      not_its_size = λ d.
          let q : sized ≡ false = no_more sized d in (
            x.number_is ∙ pick_false _ _ q,
            (
              (λ j. world ((x.depths_are ∙ pick_false _ _ q) j) ((x.lasts_are ∙ pick_false _ _ q) j) ((x.records_are ∙ pick_false _ _ q) j) (run_value_from ((x.run_is ∙ pick_false _ _ q) j))),
              (x.run_is ∙ pick_false _ _ q, (x.steps_are ∙ pick_false _ _ q, x.boards_are ∙ pick_false _ _ q)),
            ),
          );
      watched = λ q. after_boards p g end w (length before) before {a = told} (record { ends = ends q; boards_are = x.boards_are ∙ pick_true _ _ q });
      none_told = λ b. steps_stay b (sized_or sized);
    }
  where
    w : World
    w = world depths lasts records (run_value_from old)

    sized : Bool
    sized = ran_sized p g end w rules old old_steps

    e : Ended
    e = watched_to p g end w (length before) before

    told : Ran
    told = record { refused = number; steps = pick (before_steps number) 0 (get_or steps 0 0); run = run_value_from run }

    ends : sized ≡ true → ended told.refused told.steps (world depths' lasts' records' told.run) ≡ e
    ends q =
        let number_is : number ≡ e.number = x.number_is ∙ pick_true _ _ q in
        let steps_are : pick (before_steps number) 0 (get_or steps 0 0) ≡ e.steps =
        rw (number_is, x.steps_are ∙ pick_true _ _ q)
        (told_steps (before_steps e.number) e.steps old_steps (none_made p g end w (length before) before)) in
        λ j. ended (number_is j) (steps_are j)
        (world ((x.depths_are ∙ pick_true _ _ q) j) ((x.lasts_are ∙ pick_true _ _ q) j) ((x.records_are ∙ pick_true _ _ q) j) (run_value_from ((x.run_is ∙ pick_true _ _ q) j)))

    sized_or : (b : Bool) → Dec (b ≡ true)
    sized_or true = yes refl
    sized_or false = no (λ z. not_both z refl)

    steps_stay : before_steps number ≡ true → Dec (sized ≡ true) → steps ≡ old_steps
    steps_stay b (yes q) =
        let number_is : number ≡ e.number = x.number_is ∙ pick_true _ _ q in
        x.steps_are ∙ (pick_true _ _ q ∙ pick_true _ _ (subst (λ (k : ℕ). before_steps k ≡ true) number_is b))
    steps_stay b (no d) = x.steps_are ∙ pick_false _ _ (no_more sized d)

-- ---- what is printed

pub after_boards_text : {s boards old new : List ℕ} {long : ℕ} → Prints (boards_text s boards) old new long → AfterBoardsText s boards old new long
after_boards_text x = record { printed = (printed x.wrote).0; rest_stays = (printed x.wrote).1 }
