-- Every contract leaves one outcome: each is an equation for all that a call gives.
-- Assumes nothing.
use mathlib.Core.Path.{◌≡◌, sym, ap, ap₂, ◌∙◌}
use mathlib.Core.List.{List, ◌++◌}
use Prim.Native.Nat.{ℕ}
use lib.ListN.{take, drop, take-append-drop}
use Rattle.reckon.specs.Outcomes.{One}
use Rattle.reckon.proofs.OutcomeLaws.{exactly}
use Rattle.ledger.specs.Runs.{Plan, World}
use Rattle.checks.specs.Given.{Given}
use Rattle.flood.specs.Run.{ended}
use Rattle.flood.specs.declared.run.Ran.{Ran}
use Rattle.display.specs.Boards.{listed}
use Rattle.display.specs.Watch.{Watches, WatchesHeld}
use Rattle.display.specs.Inner.Determined.{DisplayDetermined}
use Rattle.display.specs.declared.boards.Board.{Board}
use Rattle.display.specs.declared.boards.Boards.{Boards}
use Rattle.display.specs.declared.boards.Shown.{Shown}

pub display_determined : DisplayDetermined
display_determined =
    record {
      no-board = exactly;
      no-boards = exactly;
      with-board = λ bs b. exactly;
      held_of = λ boards. exactly;
      put_back = λ held boards. exactly;
    }

-- ---- for the demands

-- a run with a list of boards
pub watches_one :
    {p : Plan} {g : Given} {end : ℕ} {w : World} {n : ℕ} {before : List Board} →
    One {Out = Ran × (List Board × (List ℕ × (List ℕ × List ℕ)))}
    (λ o. Watches p g end w n before o.0 o.1.1.0 o.1.1.1.0 o.1.1.1.1 o.1.0)
watches_one a b x y =
    let e = x.ends ∙ sym y.ends in
    λ j. (
      record { refused = (e j).number; steps = (e j).steps; run = (e j).world.run },
      ((x.boards_are ∙ sym y.boards_are) j, ((e j).world.depths, ((e j).world.lasts, (e j).world.records))),
    )

-- and with boards by value

-- a list is its first n and the rest
parts_one : (n : ℕ) {a b : List Board} → take n a ≡ take n b → drop n a ≡ drop n b → a ≡ b
parts_one n {a} {b} x y = sym (take-append-drop n a) ∙ (ap₂ ◌++◌ x y ∙ take-append-drop n b)

module _ {p : Plan} {g : Given} {end : ℕ} {w : World} {before : Boards} {a b : Shown} {depths lasts records depths' lasts' records' : List ℕ}
    (x : WatchesHeld p g end w before a depths lasts records) (y : WatchesHeld p g end w before b depths' lasts' records') where
  ends_one : ended a.ran.refused a.ran.steps (record { depths = depths; lasts = lasts; records = records; run = a.ran.run })
      ≡ ended b.ran.refused b.ran.steps (record { depths = depths'; lasts = lasts'; records = records'; run = b.ran.run })
  ends_one = x.watches.ends ∙ sym y.watches.ends

  -- those that are counted, by as many as there were before
  first_of : {c : Shown} {d l r : List ℕ} → (z : WatchesHeld p g end w before c d l r) → take before.count c.boards.list ≡ listed c.boards
  first_of {c} z = ap (λ (k : ℕ). take k c.boards.list) (sym z.count_is)

  list_one : a.boards.list ≡ b.boards.list
  list_one =
      parts_one before.count
      (first_of x ∙ (x.watches.boards_are ∙ (sym y.watches.boards_are ∙ sym (first_of y))))
      (x.rest_stays ∙ sym y.rest_stays)

  all_one : ◌≡◌ {A = Shown × (List ℕ × (List ℕ × List ℕ))} (a, (depths, (lasts, records))) (b, (depths', (lasts', records')))
  all_one =
      let e = ends_one in
      λ j. (
        record {
          ran = record { refused = (e j).number; steps = (e j).steps; run = (e j).world.run };
          boards = record { count = (x.count_is ∙ sym y.count_is) j; list = list_one j };
        },
        ((e j).world.depths, ((e j).world.lasts, (e j).world.records)),
      )

pub held_one :
    {p : Plan} {g : Given} {end : ℕ} {w : World} {before : Boards} →
    One {Out = Shown × (List ℕ × (List ℕ × List ℕ))} (λ o. WatchesHeld p g end w before o.0 o.1.0 o.1.1.0 o.1.1.1)
held_one a b x y = all_one x y
