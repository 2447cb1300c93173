-- What several calls of the desk promise, one after the other, gives what their caller has.
-- Assumes nothing.
use mathlib.Core.Path.{◌≡◌, sym, ap, ap₂, subst, ◌∙◌}
use mathlib.Core.List.{List, [], ◌∷◌, ◌++◌, append_assoc}
use Prim.Native.Nat.{ℕ, ◌-◌, ◌≤◌}
use native.Mathlib.Omega.{arith}
use lib.ListN.{length, take, length-append}
use lib.Seq.{take_at}
use Rattle.reckon.specs.Lists.{placed}
use Rattle.evenings.specs.Program.{Stores}
use Rattle.desks.specs.Orders.{order}
use Rattle.desks.specs.State.{desk_out}
use Rattle.desks.specs.Lines.{done_text, ending_text}
use Rattle.desks.specs.Command.{Left, Leaves, command_left, step_left}
use Rattle.desks.specs.declared.orders.Order.{Order}
use Rattle.desks.specs.declared.orders.Order.TheVariants.{Stand, Lay}
use Rattle.desks.specs.declared.state.Desk.{Desk}
use Rattle.demands.specs.DeskCalls.{Call, a_line, going_on, called, AllTry, after_calls, StepMade, AsBefore}
use Rattle.demands.specs.DeskWalls.{SameDesks, SameLeft, answers}
use Rattle.demands.specs.DeskSavedCalls.{calls_in_turn, stand_on, frame_keeping, SameSheet, laid_on, LaidAgain, ReadAgain}
use Rattle.demands.specs.DeskGoesOn.{AnswersAlike, AllAlike}
use Rattle.demands.proofs.CallDeeds.{desk_calls}
use Rattle.demands.proofs.DeskGoesOn.{desk_goes_on}
use Rattle.demands.proofs.DeskWalls.{desk_walls}
use Rattle.demands.proofs.SavedCalls.{stand_read_back}
use Rattle.desk_calls.specs.Single.{left_with}
use Rattle.desk_calls.specs.Several.{WallsAsk, AfterBoth, AfterFurther, AfterTurns, AfterStepBack, AfterSaved}
use Rattle.desk_calls.proofs.SingleLaws.{command_told, command-left, step_left_lem}

-- ---- one call at two desks

-- two lists of answers alike: so are their last
last_alike : (further : List Call) (c : Call) (d : Desk) (r : Stores) (d' : Desk) (r' : Stores) →
    AllAlike (answers (further ++ (c ∷ [])) d r) (answers (further ++ (c ∷ [])) d' r') →
    AnswersAlike (called c (after_calls further d r).0 (after_calls further d r).1).text (called c (after_calls further d' r').0 (after_calls further d' r').1).text
unfolding answers after_calls
last_alike [] c d r d' r' a = a.0
last_alike (f ∷ rest) c d r d' r' a =
    last_alike rest c (called f d r).desk (called f d r).rooms (called f d' r').desk (called f d' r').rooms a.1

-- walls, of either call
walls_called : (c : Call) (d : Desk) (r r' : Stores) → SameDesks d r r' → WallsAsk c d → SameLeft (called c d r) (called c d r')
walls_called (a_line line text) d r r' S none = desk_walls.each_line d r r' S text (order line) none
walls_called going_on d r r' S nine = desk_walls.each_step d r r' S nine

module _ (c : Call) (d : Desk) (r : Stores) (d' : Desk) (r' : Stores) {l m : Left} (one : l ≡ called c d r) (other : m ≡ called c d' r') where
  same_as : SameLeft (called c d r) (called c d' r') → SameLeft l m
  same_as s = subst (λ (x : Left). SameLeft x m) (sym one) (subst (SameLeft (called c d r)) (sym other) s)

  abbrev text_at : Desk × Stores → List ℕ
  text_at now = (called c now.0 now.1).text

  after_both : AfterBoth c d r d' r' l m
  after_both =
      record {
        walls = λ e S ask. same_as (subst (λ (x : Desk). SameLeft (called c d r) (called c x r')) e (walls_called c d r r' S ask));
        goes_on = λ b s on first calls t e f again still further at there u z w.
            let alike =
            last_alike further c (after_calls calls b s).0 (after_calls calls b s).1 (laid_on b s calls e f).desk (laid_on b s calls e f).rooms
            (desk_goes_on.goes_on b s on first calls t e f again still (further ++ (c ∷ [])) u z w) in
            subst (λ (x : List ℕ). AnswersAlike x m.text) (sym (ap (λ (x : Left). x.text) one))
            (subst (λ (x : List ℕ). AnswersAlike (called c d r).text x) (sym (ap (λ (x : Left). x.text) other))
            (subst (λ (x : Desk × Stores). AnswersAlike (called c d r).text (text_at x)) there
            (subst (λ (x : Desk × Stores). AnswersAlike (text_at x) (text_at (after_calls further (laid_on b s calls e f).desk (laid_on b s calls e f).rooms))) at alike)));
      }

pub after_line : (line text : List ℕ) (d : Desk) (r : Stores) (d' : Desk) (r' : Stores) {a b : Desk} {after there : Stores} {old new past last : List ℕ} →
    Leaves (command_left d r text (order line)) a after old new → Leaves (command_left d' r' text (order line)) b there past last →
    AfterBoth (a_line line text) d r d' r' (left_with a after new) (left_with b there last)
after_line line text d r d' r' v w =
    after_both (a_line line text) d r d' r' (command-left d r text (order line) v) (command-left d' r' text (order line) w)

pub after_next_both : (d : Desk) (r : Stores) (d' : Desk) (r' : Stores) {a b : Desk} {after there : Stores} {old new past last : List ℕ} →
    Leaves (step_left d r) a after old new → Leaves (step_left d' r') b there past last →
    AfterBoth going_on d r d' r' (left_with a after new) (left_with b there last)
after_next_both d r d' r' v w = after_both going_on d r d' r' (step_left_lem d r v) (step_left_lem d' r' w)

-- ---- two desks

pub after_turns : (d : Desk) (r : Stores) (line text : List ℕ) (d' : Desk) (r' : Stores) (line' text' : List ℕ)
    {a a' b : Desk} {after later there : Stores} {old new past last next : List ℕ} →
    Leaves (command_left d r text (order line)) a after old new → Leaves (command_left d' r' text' (order line')) b there past last →
    Leaves (step_left a after) a' later new next → AfterTurns d r line text d' r' line' text' (left_with a' later next) (left_with b there last)
unfolding calls_in_turn after_calls
after_turns d r line text d' r' line' text' {a} {a'} {b} {after} {later} {there} {old} {new} {past} {last} {next} v w u =
    record {
      in-turn = λ j. record { one = ((one j).desk, (one j).rooms); other = ((other j).desk, (other j).rooms) };
      one_alone = λ j. ((one j).desk, (one j).rooms);
      other_alone = λ j. ((other j).desk, (other j).rooms);
    }
  where
    L : Left
    L = command_left d r text (order line)

    one : left_with a' later next ≡ step_left L.desk L.rooms
    one = step_left_lem a after u ∙ ap₂ step_left v.desk_is v.rooms_are

    other : left_with b there last ≡ command_left d' r' text' (order line')
    other = command-left d' r' text' (order line') w

-- ---- a further step

pub after-further : (d : Desk) (r : Stores) {a b : Desk} {after later : Stores} {old new next : List ℕ} → Leaves (step_left d r) a after old new →
    Leaves (step_left a after) b later new next → AfterFurther d r (left_with b later next)
after-further d r {a} {b} {after} v w = record { is_call = step_left_lem a after w ∙ ap₂ step_left v.desk_is v.rooms_are }

-- ---- a step taken back

pub after-step_back : (d : Desk) (r : Stores) (line text : List ℕ) {a b : Desk} {after later : Stores} {old new next : List ℕ} →
    Leaves (step_left d r) a after old new → Leaves (command_left a after text (order line)) b later new next → AfterStepBack d r line text (left_with b later next)
after-step_back d r line text {a} {b} {after} {later} {old} {new} {next} v w =
    record {
      gone = λ f s on first calls t at asked made.
          subst (λ (l : Left). AsBefore d r l.desk l.rooms) (sym left)
          (subst (λ (now : Desk × Stores). StepMade now.0 now.1 → AsBefore now.0 now.1 (back_from now).desk (back_from now).rooms) at
          (desk_calls.step_gone f s on first calls line text t asked) made);
    }
  where
    back_from : Desk × Stores → Left
    back_from now = command_left (step_left now.0 now.1).desk (step_left now.0 now.1).rooms text (order line)

    left : left_with b later next ≡ back_from (d, r)
    left =
        command-left a after text (order line) w
        ∙ ap₂ (λ (x : Desk) (y : Stores). command_left x y text (order line)) v.desk_is v.rooms_are

-- ---- saved and laid

-- an answer lies within its room
pub leaves_fit : (d : Desk) (r : Stores) (text : List ℕ) (o : Order) {a : Desk} {after : Stores} {old new : List ℕ} → Leaves (command_left d r text o) a after old new →
    a.length ≤ desk_out
leaves_fit d r text o w = omega (arith, ap (λ (x : Desk). x.length) w.desk_is, command_told d r text o, w.puts.fits)

-- of an answer that ends with `done`, what stands before it
before_done : (old new saved : List ℕ) → new ≡ placed old 0 (saved ++ done_text) → take (length (saved ++ done_text) - 5) new ≡ saved
unfolding placed
before_done old new saved q =
    ap (take (length (saved ++ done_text) - 5)) (q ∙ append_assoc saved done_text _)
    ∙ take_at saved _ (length (saved ++ done_text) - 5) (omega (arith, length-append saved done_text))

module _ (d : Desk) (r : Stores) (d' : Desk) (r' : Stores) (saving laying text : List ℕ) {a b : Desk} {after there : Stores} {old new past last : List ℕ} {end : ℕ}
    (v : Leaves (command_left d r text (order saving)) a after old new) (e : end ≡ a.length - 5) (w : Leaves (command_left d' r' (take end new) (order laying)) b there past last) where
  module _ (f : Desk) (s : Stores) (read : ReadAgain f s) (calls : List Call) (t : AllTry calls) (at : after_calls calls f s ≡ (d, r)) (same : SameSheet d r d' r')
      (asked : order saving ≡ Stand) (told : order laying ≡ Lay (length (stand_on d r))) where
    again : LaidAgain f s calls d' r'
    again = read calls t d' r' (subst (λ (now : Desk × Stores). SameSheet now.0 now.1 d' r') (sym at) same)

    saved : (command_left d r text (order saving)).text ≡ stand_on d r ++ done_text
    saved =
        ap (λ (o : Order). (command_left d r text o).text) asked
        ∙ subst (λ (now : Desk × Stores). (command_left now.0 now.1 text Stand).text ≡ stand_on now.0 now.1 ++ done_text) at (again.printed text)

    printed : (left_with a after new).text ≡ stand_on d r ++ done_text
    printed = ap (λ (l : Left). l.text) (command-left d r text (order saving) v) ∙ saved

    length_is : a.length ≡ length (stand_on d r ++ done_text)
    length_is = ap (λ (x : Desk). x.length) v.desk_is ∙ (command_told d r text (order saving) ∙ ap length saved)

    came : take end new ≡ stand_on d r
    came =
        ap (λ (n : ℕ). take n new) (e ∙ ap (λ (n : ℕ). n - 5) length_is)
        ∙ before_done old new (stand_on d r) (v.puts.wrote.room ∙ ap (placed old 0) saved)

    laid : left_with b there last ≡ laid_on f s calls d' r'
    laid =
        command-left d' r' (take end new) (order laying) w
        ∙ (ap₂ (command_left d' r') came told
        ∙ ap (λ (now : Desk × Stores). command_left d' r' (stand_on now.0 now.1) (Lay (length (stand_on now.0 now.1)))) (sym at))

    frame : (left_with b there last).text ≡ frame_keeping 0 d r ++ ending_text 0 0
    frame =
        ap (λ (l : Left). l.text) laid
        ∙ (again.same_frame ∙ ap (λ (now : Desk × Stores). frame_keeping 0 now.0 now.1 ++ ending_text 0 0) at)

  pub after-saved : AfterSaved d r d' r' saving laying (left_with a after new) (left_with b there last)
  after-saved =
      record {
        read_back = stand_read_back;
        laid = λ f s read calls t at same asked told. (
          printed f s read calls t at same asked told,
          frame f s read calls t at same asked told,
          laid f s read calls t at same asked told,
          again f s read calls t at same asked told,
        );
      }
