-- `flood::step::step_on` meets its contract: 7 by the clock, 8 where a square could not hold what is added, else as it is settled.
-- Assumes nothing.
use mathlib.Core.Path.{◌≡◌, refl, sym, ◌∙◌, ap}
use mathlib.Core.Bool.{true}
use mathlib.Core.List.{List}
use Prim.Native.Nat.{ℕ, ◌+◌, ◌≤◌}
use native.Mathlib.Omega.{arith}
use lib.ListN.{length}
use Rattle.reckon.specs.Ranges.{last_clock}
use Rattle.grid.specs.Squares.{squares}
use Rattle.ledger.specs.Runs.{plan, world, seen_of, Plan, World, Seen}
use Rattle.ledger.specs.After.{step_record}
use Rattle.checks.specs.Given.{ground, Given, given}
use Rattle.checks.specs.Inner.Ready.{Ready}
use Rattle.settling.proofs.SureLaws.{surely_settled}
use Rattle.adding.specs.Inner.Added.{added_fits}
use Rattle.adding.proofs.AddedLaws.{same_fits}
use Rattle.moves.specs.Moves.{step_length, step_duration, step_moves}
use Rattle.moves.proofs.MoveLaws.{step_lasts_to}
use Rattle.moves.proofs.FillLaws.{lies_firmly, length_made, lasts_made, record_made}
use Rattle.flood.specs.Inner.Step.{filled_record, Decides}
use Rattle.flood.proofs.StepLaws.{is_ready, step_seven, step_eight, settles, room_added, sure_settled, step-settled}
use Rattle.flood.proofs.step.step_on.Goals as goal
use Rattle.flood.proofs.step.step_on.Goals.{After-add_water, After-duration_for-duration, After-surely_settles-sure, Else-end-gt-LAST_CLOCK, Start}

-- ---- what is known there

abbrev p : Start → Plan
p s = plan s.args.way.shape s.args.marks.now

abbrev g : Start → Given
g s =
    given (ground s.args.way.rules s.args.beds.now s.args.roughness.now s.args.rates.now) s.args.rain.now s.args.inflow.now

abbrev w : Start → World
w s = world s.args.depths.now s.args.lasts.now s.args.records.now s.args.run

abbrev v : Start → Seen
v s = seen_of (w s)

-- the room, as what is added is left there
abbrev room : After-add_water → List ℕ
room c = c.add_water.new.room

able : (s : Start) → Ready (p s) (g s) (v s)
able s = is_ready (p s) (g s) (w s) s.requires.passes.checked

length_is : (c : After-duration_for-duration) → c.step_length-length.result ≡ step_length (p (goal.at.After-duration_for-duration c).Start) (g (goal.at.After-duration_for-duration c).Start) (v (goal.at.After-duration_for-duration c).Start)
length_is c = length_made (p (goal.at.After-duration_for-duration c).Start) (g (goal.at.After-duration_for-duration c).Start) (w (goal.at.After-duration_for-duration c).Start) c.step_length-length.ensures

lasts-is : (c : After-duration_for-duration) → c.duration_for-duration.result ≡ step_duration (p (goal.at.After-duration_for-duration c).Start) (g (goal.at.After-duration_for-duration c).Start) (v (goal.at.After-duration_for-duration c).Start)
lasts-is c = lasts_made (p (goal.at.After-duration_for-duration c).Start) (g (goal.at.After-duration_for-duration c).Start) (w (goal.at.After-duration_for-duration c).Start) c.step_length-length.ensures c.duration_for-duration.ensures

in-time : (c : Else-end-gt-LAST_CLOCK) → c.args.run.clock + step_duration (p (goal.at.Else-end-gt-LAST_CLOCK c).Start) (g (goal.at.Else-end-gt-LAST_CLOCK c).Start) (v (goal.at.Else-end-gt-LAST_CLOCK c).Start) ≤ last_clock
in-time c = omega (arith, lasts-is (goal.at.Else-end-gt-LAST_CLOCK c).After-duration_for-duration, c.if-end-gt-LAST_CLOCK.false)

room_long : (c : After-add_water) → length (room c) ≡ squares c.args.way.shape
room_long c = c.add_water.ensures.long ∙ c.requires.rooms_lent.0.room_long

fits_is :
    (c : After-add_water) →
    let clock = c.args.run.clock in
    added_fits (p (goal.at.After-add_water c).Start) (g (goal.at.After-add_water c).Start) clock (clock + step_duration (p (goal.at.After-add_water c).Start) (g (goal.at.After-add_water c).Start) (v (goal.at.After-add_water c).Start)) ≡ c.add_water.result
fits_is c =
    let clock = c.args.run.clock in
    ap (λ (x : ℕ). added_fits (p (goal.at.After-add_water c).Start) (g (goal.at.After-add_water c).Start) clock (clock + x)) (sym (lasts-is (goal.at.After-add_water c).After-duration_for-duration))
    ∙ (sym (same_fits (p (goal.at.After-add_water c).Start) (g (goal.at.After-add_water c).Start) clock (clock + c.duration_for-duration.result)) ∙ sym c.add_water.ensures.fits_is)

-- all that is added fits
added-fits : (c : After-surely_settles-sure) → c.add_water.result ≡ true
added-fits c = c.if-not-add_water.false

-- the record that is filled is the step's
record_is :
    (c : After-surely_settles-sure) →
    filled_record (p (goal.at.After-surely_settles-sure c).Start) (g (goal.at.After-surely_settles-sure c).Start).lie (w (goal.at.After-surely_settles-sure c).Start) (room (goal.at.After-surely_settles-sure c).After-add_water) c.duration_for-duration.result ≡ step_record (p (goal.at.After-surely_settles-sure c).Start) (step_moves (p (goal.at.After-surely_settles-sure c).Start) (g (goal.at.After-surely_settles-sure c).Start) (v (goal.at.After-surely_settles-sure c).Start)) (w (goal.at.After-surely_settles-sure c).Start)
record_is c =
    record_made (p (goal.at.After-surely_settles-sure c).Start) (g (goal.at.After-surely_settles-sure c).Start) (w (goal.at.After-surely_settles-sure c).Start) (lasts-is (goal.at.After-surely_settles-sure c).After-duration_for-duration) refl c.add_water.ensures (added-fits c) refl

-- what is asked of the parts
decides :
    (c : After-surely_settles-sure) →
    Decides (p (goal.at.After-surely_settles-sure c).Start) (g (goal.at.After-surely_settles-sure c).Start).lie (w (goal.at.After-surely_settles-sure c).Start) (room (goal.at.After-surely_settles-sure c).After-add_water)
    (record { length = c.step_length-length.result; duration = c.duration_for-duration.result; sure = c.surely_settles-sure.result })
decides c =
    record {
      flows = (able (goal.at.After-surely_settles-sure c).Start).flows;
      length_to = (able (goal.at.After-surely_settles-sure c).Start).length_to;
      duration_to = omega (arith, lasts-is (goal.at.After-surely_settles-sure c).After-duration_for-duration, step_lasts_to (p (goal.at.After-surely_settles-sure c).Start) (g (goal.at.After-surely_settles-sure c).Start) (v (goal.at.After-surely_settles-sure c).Start) (able (goal.at.After-surely_settles-sure c).Start));
      settles =
          settles (p (goal.at.After-surely_settles-sure c).Start) (g (goal.at.After-surely_settles-sure c).Start) (w (goal.at.After-surely_settles-sure c).Start) c.requires.passes.checked (in-time (goal.at.After-surely_settles-sure c).Else-end-gt-LAST_CLOCK) (record_is c) (length_is (goal.at.After-surely_settles-sure c).After-duration_for-duration) (fits_is (goal.at.After-surely_settles-sure c).After-add_water ∙ added-fits c);
      sure_is = λ y. sym c.surely_settles-sure.ensures ∙ y;
    }

-- ---- the answers

pub step_length-length-requires : goal.step_length-length-requires
step_length-length-requires c = lies_firmly (p (goal.at.step_length-length-requires c).Start) (g (goal.at.step_length-length-requires c).Start) (w (goal.at.step_length-length-requires c).Start) (able (goal.at.step_length-length-requires c).Start).flows.lies

pub duration_for-duration-requires : goal.duration_for-duration-requires
duration_for-duration-requires c = (able (goal.at.duration_for-duration-requires c).Start).waters.rules.update_from

pub overflow_add-end : goal.overflow_add-end
overflow_add-end c = omega (arith, lasts-is c, step_lasts_to (p (goal.at.overflow_add-end c).Start) (g (goal.at.overflow_add-end c).Start) (v (goal.at.overflow_add-end c).Start) (able (goal.at.overflow_add-end c).Start), (able (goal.at.overflow_add-end c).Start).clock_to)

pub returns-then-end-gt-LAST_CLOCK : goal.returns-then-end-gt-LAST_CLOCK
returns-then-end-gt-LAST_CLOCK c = step_seven (p (goal.at.returns-then-end-gt-LAST_CLOCK c).Start) (g (goal.at.returns-then-end-gt-LAST_CLOCK c).Start) (w (goal.at.returns-then-end-gt-LAST_CLOCK c).Start) c.requires.passes.checked (omega (arith, lasts-is (goal.at.returns-then-end-gt-LAST_CLOCK c).After-duration_for-duration, c.if-end-gt-LAST_CLOCK.true))

pub add_water-requires : goal.add_water-requires
add_water-requires c =
    let r = (able (goal.at.add_water-requires c).Start).waters in record {
      between = record {
        waters =
            record {
              fine = r.fine;
              marks_long = r.marks_long;
              rules = r.rules;
              rain = r.rain;
              inflow = r.inflow;
              inflow_squares = r.inflow_squares;
            };
        ordered = omega arith;
        end_to = omega (arith, c.if-end-gt-LAST_CLOCK.false);
      };
      room_len = c.requires.rooms_lent.0.room_long;
      apart_value = c.requires.rooms_lent.1;
    }

pub returns-then-not-add_water : goal.returns-then-not-add_water
returns-then-not-add_water c = step_eight (p (goal.at.returns-then-not-add_water c).Start) (g (goal.at.returns-then-not-add_water c).Start) (w (goal.at.returns-then-not-add_water c).Start) c.requires.passes.checked (in-time (goal.at.returns-then-not-add_water c).Else-end-gt-LAST_CLOCK) (fits_is (goal.at.returns-then-not-add_water c).After-add_water ∙ c.if-not-add_water.true)

pub settle_in_slot-requires : goal.settle_in_slot-requires
settle_in_slot-requires c =
    let rooms = c.requires.rooms_lent.0 in (
      decides (goal.at.settle_in_slot-requires c).After-surely_settles-sure,
      record { left_long = rooms.left_long; worked_long = rooms.worked_long; senders_long = rooms.senders_long; room_long = room_long (goal.at.settle_in_slot-requires c).After-add_water },
    )

pub returns-then-sure : goal.returns-then-sure
returns-then-sure c =
    step-settled (p (goal.at.returns-then-sure c).Start) (g (goal.at.returns-then-sure c).Start) (w (goal.at.returns-then-sure c).Start) c.requires.passes.checked (in-time (goal.at.returns-then-sure c).Else-end-gt-LAST_CLOCK) (record_is (goal.at.returns-then-sure c).After-surely_settles-sure) (length_is (goal.at.returns-then-sure c).After-duration_for-duration)
    (sure_settled c.settle_in_slot.ensures
    (surely_settled (decides (goal.at.returns-then-sure c).After-surely_settles-sure).settles (room_added (p (goal.at.returns-then-sure c).Start) (g (goal.at.returns-then-sure c).Start).lie (w (goal.at.returns-then-sure c).Start) (room (goal.at.returns-then-sure c).After-add_water) c.duration_for-duration.result (room_long (goal.at.returns-then-sure c).After-add_water))
    ((decides (goal.at.returns-then-sure c).After-surely_settles-sure).sure_is c.if-sure.true)))

pub settle_or_put_back-requires : goal.settle_or_put_back-requires
settle_or_put_back-requires c =
    let rooms = c.requires.rooms_lent.0 in (
      decides (goal.at.settle_or_put_back-requires c).After-surely_settles-sure,
      record { left_long = rooms.left_long; worked_long = rooms.worked_long; senders_long = rooms.senders_long; room_long = room_long (goal.at.settle_or_put_back-requires c).After-add_water },
    )

pub returns : goal.returns
returns c =
    step-settled (p (goal.at.returns c).Start) (g (goal.at.returns c).Start) (w (goal.at.returns c).Start) c.requires.passes.checked (in-time (goal.at.returns c).Else-end-gt-LAST_CLOCK) (record_is (goal.at.returns c).After-surely_settles-sure) (length_is (goal.at.returns c).After-duration_for-duration)
    c.settle_or_put_back.ensures
