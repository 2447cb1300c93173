-- Laws of the program: what is printed of a run with its boards goes by what the run's answer tells; the boards' text and the sheet before it.
-- Assumes nothing.
use mathlib.Core.Path.{◌≡◌, refl, sym, ap, subst, ◌∙◌}
use mathlib.Core.List.{List, [], ◌∷◌, ◌++◌}
use Prim.Native.Nat.{ℕ, zero, suc, ◌+◌, ◌^◌, ◌≤◌, ◌<◌}
use native.Mathlib.Omega.{arith}
use lib.Dec.{T, eqb}
use lib.ListN.{length, length-append, length-map}
use lib.Seq.{length-take-le}
use borrow.Author.Tests.{eq-eqb, ne_eqb, le-leb, lt-leb, leb-true}
use Rattle.reckon.specs.Tests.{pick, ◌unless◌}
use Rattle.reckon.specs.Inner.Rows.{numbered}
use Rattle.reckon.proofs.TestLaws.{pick_true, pick_false, pick_both, every_each, refusal_passed, refusal_both}
use Rattle.ledger.specs.Runs.{Plan, World, world}
use Rattle.ledger.specs.declared.runs.Run.{Run}
use Rattle.checks.specs.Fresh.{fresh_run}
use Rattle.checks.specs.Given.{Given}
use Rattle.checks.specs.Refusals.{run_checks, check_refusals}
use Rattle.flood.specs.Run.{Ended, go_on, run_to}
use Rattle.text.specs.Writing.{Wrote}
use Rattle.text.proofs.WritingLaws.{wrote_both, wrote_length}
use Rattle.sheet.specs.Sheet.{Rooms, plan_in, given_in, start_in, no_lasts, no_records}
use Rattle.sheet.specs.declared.reading.Heading.{Heading}
use Rattle.sheet.proofs.JudgeLaws.{one_slot, world_same}
use Rattle.answer.specs.Printed.{refused_text}
use Rattle.programs.specs.Program.{most_text, most_printed, text_printed, Prints}
use Rattle.programs.proofs.EndedLaws.{prints, refused_printed}
use Rattle.display.specs.Boards.{most_boards, listed, boards_fine}
use Rattle.display.specs.Watch.{watch_number, watched_to, boards_after, WatchesHeld}
use Rattle.display.specs.declared.boards.Board.{Board}
use Rattle.display.specs.declared.boards.Boards.{Boards}
use Rattle.display.specs.declared.boards.Shown.{Shown}
use Rattle.levels.specs.Lines.{bad_board}
use Rattle.levels.specs.declared.lines.BoardsFound.{BoardsFound}
use Rattle.levels.specs.Levels.{levels_text, counts_text, watch_text}
use Rattle.levels.specs.Program.{sheet_watched, sheet_boards, level_text_of, level_sheet_text, boards_text}
use Rattle.levels.specs.Inner.Put.{PutLevels, shown_text, SheetShown, boards_found}
use Rattle.levels.proofs.LevelLaws.{counts-short}

-- ---- what a run gave

-- the numbers of a run's answer fit their words
pub record RanWords (a : Shown) : Type 0 where
  pub number_is : a.ran.refused < 2 ^ 64
  pub steps_are : a.ran.steps < 2 ^ 64
  pub outflow_is : a.ran.run.outflow < 2 ^ 64
  pub soaked_is : a.ran.run.soaked < 2 ^ 64
  pub clock_is : a.ran.run.clock < 2 ^ 64

module _ (a : Shown) (x : RanWords a) where
  pub shown-refused :
      {old new : List ℕ} {r : ℕ} → most_printed ≤ length old → (a.ran.refused ≡ 0 → ⊥) → Wrote (refused_text a.ran.refused 0) 0 old new r →
      Prints (shown_text a) old new r
  unfolding watch_text
  shown-refused {old} {new} {r} l d w =
      subst (λ (t : List ℕ). Prints t old new r) (sym (pick_false _ _ (ne_eqb _ _ d))) (refused_printed l x.number_is (omega arith) w)

  counted : length (counts_text a.ran.steps a.ran.run.clock) ≤ 105
  counted = counts-short a.ran.run a.ran.steps x.outflow_is x.soaked_is x.steps_are x.clock_is

  module _ {old mid : List ℕ} {next : ℕ} (l : most_printed ≤ length old) (v : PutLevels (listed a.boards) old mid next) where
    pub counts_follow : next + length (counts_text a.ran.steps a.ran.run.clock) ≤ length mid
    counts_follow = omega (arith, l, counted, v.fits, v.wrote.next, wrote_length (omega (arith, l, v.fits)) v.wrote)

    pub shown_made :
        {new : List ℕ} {r : ℕ} → a.ran.refused ≡ 0 → Wrote (counts_text a.ran.steps a.ran.run.clock) next mid new r →
        Prints (shown_text a) old new r
    unfolding watch_text
    shown_made {new} {r} z w =
        subst (λ (t : List ℕ). Prints t old new r) (sym (pick_true _ _ (eq-eqb _ _ z)))
        (prints l
        (omega (arith, counted, v.fits, length-append (levels_text (listed a.boards)) (counts_text a.ran.steps a.ran.run.clock)))
        (wrote_both (omega (arith, l, counted, v.fits)) v.wrote w))

-- ---- over sixteen boards are refused

module _ (p : Plan) (g : Given) (end : ℕ) (w : World) (n : ℕ) (boards : List Board) where
  none_refused : (watched_to p g end w n boards).number ≡ 0 → watch_number p g end w n boards ≡ 0
  unfolding watched_to go_on
  none_refused = go (watch_number p g end w n boards) refl
    where
      go : (k : ℕ) → watch_number p g end w n boards ≡ k → (go_on k 0 w (run_to p g end w)).number ≡ 0 → watch_number p g end w n boards ≡ 0
      go zero e z = e
      go (suc k) e z = absurd (omega (arith, z))

  rows_named : T (numbered (run_checks p g end w))
  unfolding check_refusals
  rows_named = tt

  few_boards : (watched_to p g end w n boards).number ≡ 0 → n ≤ most_boards
  unfolding watch_number boards_fine
  few_boards z =
      let last = (refusal_both (run_checks p g end w) (13 unless boards_fine p n boards ∷ []) rows_named (none_refused z)).1 in
      leb-true _ _ (every_each _ (refusal_passed (13 unless boards_fine p n boards ∷ []) tt last).0).0

  as_many : length (boards_after p g end w n boards) ≡ length boards
  unfolding boards_after
  as_many =
      pick_both (λ (l : List Board). length l ≡ length boards) (eqb (watch_number p g end w n boards) 0) (length-map boards _) refl

-- ---- the run of a sheet with its boards

module _ (h : Heading) (boards : Boards) (long : length boards.list ≡ most_boards) where
  pub sheet_shown :
      (held : Rooms) {a : Shown} {depths lasts records before room : List ℕ} {u : Run} → before ≡ no_lasts h.shape h.rules held →
      room ≡ no_records h.shape h.rules held → u ≡ fresh_run h.rules 1 →
      WatchesHeld (plan_in h.shape h.rules held) (given_in h.shape h.rules held) h.end (world held.cells.depths before room u)
      boards a depths lasts records →
      SheetShown h held boards a
  sheet_shown held {a} {depths} {lasts} {records} l c u f =
      let w =
      subst
      (λ (x : World).
      WatchesHeld (plan_in h.shape h.rules held) (given_in h.shape h.rules held) h.end x boards a depths lasts records)
      (world_same l c (u ∙ ap (fresh_run h.rules) (sym (one_slot h.shape h.rules held)))) f in
      record {
        number_is = ap (λ (x : Ended). x.number) w.watches.ends;
        steps_are = ap (λ (x : Ended). x.steps) w.watches.ends;
        run_is = ap (λ (x : Ended). x.world.run) w.watches.ends;
        boards_are = w.watches.boards_are;
        all_listed =
            λ z.
            let few =
            few_boards (plan_in h.shape h.rules held) (given_in h.shape h.rules held) h.end (start_in h.shape h.rules held)
            boards.count (listed boards)
            (sym (ap (λ (x : Ended). x.number) w.watches.ends) ∙ z) in
            record {
              few = omega (arith, few, w.count_is);
              many =
                  ap length w.watches.boards_are
                  ∙ (as_many (plan_in h.shape h.rules held) (given_in h.shape h.rules held) h.end
                  (start_in h.shape h.rules held) boards.count (listed boards)
                  ∙ (length-take-le boards.count boards.list (omega (arith, few, long)) ∙ sym w.count_is));
            };
      }

-- what is printed of a run, told by another answer that is equal
told_as :
    {x x' : List Board} {n n' k k' : ℕ} {u u' : Run} → x ≡ x' → n ≡ n' → k ≡ k' → u ≡ u' →
    pick (eqb n 0) (levels_text x ++ counts_text k u.clock) (refused_text n 0)
    ≡ pick (eqb n' 0) (levels_text x' ++ counts_text k' u'.clock) (refused_text n' 0)
told_as a b c d = cc

shown-told :
    (h : Heading) (held : Rooms) (boards : Boards) {a : Shown} → SheetShown h held boards a →
    shown_text a ≡ watch_text (sheet_watched h held boards) (sheet_boards h held boards)
unfolding watch_text
shown-told h held boards f = told_as f.boards_are f.number_is f.steps_are f.run_is

-- ---- the boards' text before the run

module _ (h : Heading) (held : Rooms) (b : List ℕ) {f : BoardsFound} (e : f ≡ boards_found b) where
  bad_is : f.bad ≡ bad_board b
  bad_is = ap (λ (x : BoardsFound). x.bad) e

  pub text_refused :
      {old new : List ℕ} {r : ℕ} → (f.bad ≡ 0 → ⊥) → Prints (refused_text 12 f.bad) old new r → Prints (level_text_of h held b) old new r
  unfolding level_text_of
  text_refused {old} {new} {r} d w =
      subst (λ (t : List ℕ). Prints t old new r)
      (ap (refused_text 12) bad_is ∙ sym (pick_false _ _ (ne_eqb _ _ (λ z. d (bad_is ∙ z))))) w

  pub text_run :
      {a : Shown} {old new : List ℕ} {r : ℕ} → f.bad ≡ 0 → SheetShown h held f.boards a → Prints (shown_text a) old new r →
      Prints (level_text_of h held b) old new r
  unfolding level_text_of
  text_run {old = old} {new} {r} z g w =
      subst (λ (t : List ℕ). Prints t old new r)
      (shown-told h held f.boards g
      ∙ (ap (λ (x : BoardsFound). watch_text (sheet_watched h held x.boards) (sheet_boards h held x.boards)) e
      ∙ sym (pick_true _ _ (eq-eqb _ _ (sym bad_is ∙ z))))) w

-- ---- the whole

module _ (s b : List ℕ) {old new : List ℕ} {r : ℕ} where
  pub boards_long : most_text < length b → Prints (refused_text 12 0) old new r → Prints (boards_text s b) old new r
  unfolding boards_text
  boards_long l w = subst (λ (t : List ℕ). Prints t old new r) (sym (pick_false _ _ (lt-leb (length b) most_text l))) w

  pub boards_short :
      length b ≤ most_text → Prints (text_printed (λ h held. level_text_of h held b) s) old new r → Prints (boards_text s b) old new r
  unfolding boards_text level_sheet_text
  boards_short l w = subst (λ (t : List ℕ). Prints t old new r) (sym (pick_true _ _ (le-leb (length b) most_text l))) w
