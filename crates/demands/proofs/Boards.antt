-- The demands of a run with boards.
-- Assumes nothing.
use mathlib.Core.Path.{◌≡◌, refl, sym, ap, ◌∙◌}
use mathlib.Core.Bool.{false, not}
use mathlib.Core.List.{List, [], ◌∷◌, map}
use Prim.Native.Nat.{ℕ, zero, suc, ◌<◌}
use native.Mathlib.Decide.{ℕ_discrete}
use native.Mathlib.Omega.{arith}
use lib.Dec.{leb}
use lib.ListN.{length, get_or}
use borrow.Author.Tests.{eq-eqb, ne_eqb, not-true}
use Rattle.reckon.specs.Tests.{Row, pick, first_failing, ◌unless◌, refusal}
use Rattle.reckon.specs.Most.{most_over}
use Rattle.reckon.proofs.TestLaws.{pick_true, pick_false, all_at, every_each, refusal_passed, refusal_both, refusal-first, refusal-second}
use Rattle.ledger.specs.Runs.{Plan, World}
use Rattle.ledger.specs.Flows.{shut}
use Rattle.checks.specs.Given.{Given}
use Rattle.checks.specs.Refusals.{run_checks, check_refusals}
use Rattle.flood.specs.Run.{ended, go_on, run_to, steps_on}
use Rattle.flood.proofs.RunToLaws.{stops}
use Rattle.display.specs.Boards.{square_of, no_board, board_fine, boards_fine, depth_after, first_reached, shown}
use Rattle.display.specs.Watch.{watch_rows, watch_number, watched_to, boards_after}
use Rattle.display.specs.declared.boards.Board.{Board}
use Rattle.demands.specs.Table.{TableSays}
use Rattle.demands.specs.Closed.{SameGiven, SameWorld}
use Rattle.demands.specs.Demand2.{NoneDepends}
use Rattle.demands.proofs.Table.{table_says}
use Rattle.demands.proofs.Demand2.{demand_2}
use Rattle.demands.specs.Boards.{BoardsRight}

-- two maps of a list that agree on each of its elements
map_same : (l : List Board) (f g : Board → Board) → ((k : ℕ) → k < length l → f (get_or l k no_board) ≡ g (get_or l k no_board)) → map f l ≡ map g l
map_same [] f g h = refl
map_same (x ∷ xs) f g h =
    let first : f x ≡ g x = h 0 (omega arith) in
    let rest : map f xs ≡ map g xs = map_same xs f g (λ k l. h (suc k) (omega (arith, l))) in
    λ j. first j ∷ rest j

module _ (p : Plan) where
  -- ---- the table

  module _ (g : Given) (end : ℕ) (w : World) (n : ℕ) (boards : List Board) where
    says : TableSays (watch_rows p g end w n boards) (watch_number p g end w n boards)
    unfolding watch_number check_refusals
    says = table_says _ tt

    module _ (d : watch_number p g end w n boards ≡ 0 → ⊥) where
      leaves : (watched_to p g end w n boards ≡ ended (watch_number p g end w n boards) 0 w) × (boards_after p g end w n boards ≡ boards)
      unfolding watched_to boards_after
      leaves = (stops p g end 0 w (run_to p g end w) d, pick_false _ _ (ne_eqb (watch_number p g end w n boards) 0 d))

    goes_on : watch_number p g end w n boards ≡ 0 → watched_to p g end w n boards ≡ run_to p g end w
    unfolding watched_to go_on
    goes_on e = ap (λ (k : ℕ). go_on k 0 w (run_to p g end w)) e

  -- ---- what closed squares hold

  module _ (N : NoneDepends p) (g h : Given) (G : SameGiven p g h) (w v : World) (W : SameWorld p w v) where
    steps_same : (k : ℕ) → SameWorld p (steps_on p g k w) (steps_on p h k v)
    unfolding steps_on
    steps_same zero = W
    steps_same (suc k) = (N.step g h (steps_on p g k w) (steps_on p h k v) G (steps_same k)).1

    module _ (b : Board) (o : shut p (square_of p b) ≡ false) where
      depth_same : depth_after p g w b ≡ depth_after p h v b
      unfolding depth_after
      depth_same = λ j k. (steps_same k).depths.alike.at (square_of p b) o j

      shown_same : (n : ℕ) → shown p g w b n ≡ shown p h v b n
      unfolding shown first_reached
      shown_same n = λ j. over (depth_same j) (λ k. ((steps_same k).run j).clock)
        where
          over : (ℕ → ℕ) → (ℕ → ℕ) → Board
          over depth clock =
              record {
                row = b.row;
                column = b.column;
                mark = b.mark;
                highest = most_over n depth;
                reached = leb (first_failing (suc n) (λ k. not (leb b.mark (depth k)))) n;
                first =
                    pick (leb (first_failing (suc n) (λ k. not (leb b.mark (depth k)))) n)
                    (clock (first_failing (suc n) (λ k. not (leb b.mark (depth k))))) 0;
              }

    -- a board that is fine is on a square that is not closed
    module _ (end : ℕ) (boards : List Board) where
      number_same : watch_number p g end w (length boards) boards ≡ watch_number p h end v (length boards) boards
      unfolding watch_number check_refusals
      number_same = both (ℕ_discrete (refusal (run_checks p g end w)) 0)
        where
          last : List Row
          last = 13 unless boards_fine p (length boards) boards ∷ []

          checks : refusal (run_checks p g end w) ≡ refusal (run_checks p h end v)
          checks = N.check g h end w v G W

          both : Dec (refusal (run_checks p g end w) ≡ 0) →
              refusal (watch_rows p g end w (length boards) boards) ≡ refusal (watch_rows p h end v (length boards) boards)
          both (yes e) =
              refusal-second (run_checks p g end w) last tt e ∙ sym (refusal-second (run_checks p h end v) last tt (sym checks ∙ e))
          both (no d) =
              refusal-first (run_checks p g end w) last tt d
              ∙ (checks ∙ sym (refusal-first (run_checks p h end v) last tt (λ e. d (checks ∙ e))))

      open_each : watch_number p g end w (length boards) boards ≡ 0 → (k : ℕ) → k < length boards → shut p (square_of p (get_or boards k no_board)) ≡ false
      unfolding watch_number check_refusals boards_fine board_fine
      open_each e k l =
          let last : refusal (13 unless boards_fine p (length boards) boards ∷ []) ≡ 0 = (refusal_both (run_checks p g end w) _ tt e).1 in
          let fine = every_each _ (refusal_passed _ tt last).0 in
          not-true _ (every_each _ (all_at (length boards) _ fine.1.0 k l)).1.1.0

      boards_same : boards_after p g end w (length boards) boards ≡ boards_after p h end v (length boards) boards
      unfolding boards_after
      boards_same = go (ℕ_discrete (watch_number p g end w (length boards) boards) 0)
        where
          steps : (run_to p g end w).steps ≡ (run_to p h end v).steps
          steps = (N.run-to g h end w v G W).steps

          go : Dec (watch_number p g end w (length boards) boards ≡ 0) →
              boards_after p g end w (length boards) boards ≡ boards_after p h end v (length boards) boards
          go (yes e) =
              pick_true _ _ (eq-eqb (watch_number p g end w (length boards) boards) 0 e)
              ∙ (map_same boards _ _ (λ k l. shown_same (get_or boards k no_board) (open_each e k l) _ ∙ ap (shown p h v (get_or boards k no_board)) steps)
              ∙ sym (pick_true _ _ (eq-eqb (watch_number p h end v (length boards) boards) 0 (sym number_same ∙ e))))
          go (no d) =
              pick_false _ _ (ne_eqb (watch_number p g end w (length boards) boards) 0 d)
              ∙ sym (pick_false _ _ (ne_eqb (watch_number p h end v (length boards) boards) 0 (λ e. d (number_same ∙ e))))

  pub boards_right : BoardsRight p
  boards_right =
      record {
        exactly_when = says;
        refusals_leave = leaves;
        same_run = goes_on;
        none_depends = λ g h end w v boards G W. (number_same (demand_2 p).none_depends g h G w v W end boards, boards_same (demand_2 p).none_depends g h G w v W end boards);
      }
