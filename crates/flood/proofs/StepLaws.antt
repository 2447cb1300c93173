-- Laws of the step: once the checks have passed, 7 is decided by the clock, 8 where a square could not hold what is added, and else
-- the ledger settles the record; and a valid world stays valid.
-- Assumes nothing.
use mathlib.Core.Path.{◌≡◌, refl, sym, ap, ap₂, ◌∙◌, subst}
use mathlib.Core.Bool.{Bool, true, false, ◌&&◌, not}
use mathlib.Core.List.{List, ◌++◌}
use Prim.Native.Nat.{ℕ, ◌+◌, ◌-◌, ◌≤◌, ◌<◌}
use native.Mathlib.Nat.{le_trans}
use native.Mathlib.Omega.{arith}
use lib.Dec.{eqb}
use lib.ListN.{length, get_or, take, drop, replicate, length-append, length-replicate, length-drop}
use lib.Seq.{length-take-le, take_at}
use borrow.Author.Tests.{le-leb, lt-leb, leb-true, ne_eqb}
use Rattle.reckon.specs.Tests.{pick, refusal}
use Rattle.reckon.specs.Ranges.{most_depth, last_clock}
use Rattle.reckon.proofs.TestLaws.{not_both, no_more, pick_false, or_right, or_of, all_at, all_of, refusal_here, refusal_later, refusal-first, refusal-second}
use Rattle.trials.proofs.RingLaws.{fine_ring, slot_within, after_below}
use Rattle.trials.proofs.RoomLaws.{put_back}
use Rattle.grid.specs.Squares.{squares, most_along, most_squares, ShapeInRange, SquaresOf}
use Rattle.reckon.specs.Lists.{placed}
use Rattle.trials.specs.Ring.{slots_in, slot_start, slot_after}
use Rattle.trials.specs.Room.{record_in}
use Rattle.grid.specs.Walks.{bit_of}
use Rattle.grid.specs.declared.walks.Walk.{Walk}
use Rattle.ledger.specs.Runs.{Plan, World, world, answered, Seen, seen_of}
use Rattle.ledger.specs.Flows.{Leaves, shut, gone}
use Rattle.ledger.specs.Record.{lasted_in, leaves_in, added_in, soaked_in, room_slots, ring_of, record_size}
use Rattle.ledger.specs.After.{Moves, new_depth, depths_fit, late_refusals, step_record, world_after, world_with}
use Rattle.ledger.specs.Inner.Walks.{sends}
use Rattle.settling.specs.Inner.Settle.{moves_in, settle_number, settled, Settles, SettlesTo, IdleAt, WalkTells, RoomAdded, surely_settles, next_record}
use Rattle.grid.specs.declared.squares.Shape.{Shape}
use Rattle.ledger.proofs.ReadBack.{lasted_read, gone_read, added_read, soaked_read, step_long, step_lasted, step_gone, step_added, step_soaked}
use Rattle.settling.proofs.ByRecord.{settled_is, late_settled}
use Rattle.settling.proofs.SureLaws.{surely_settled, next_read, stored_settles, stored_number, stored_made, stored_left}
use Rattle.checks.specs.Given.{Ground, Given}
use Rattle.adding.specs.Inner.Added.{added_fits}
use Rattle.moves.specs.Moves.{leaves_for, soaked_for, step_length, step_duration, step_moves}
use Rattle.moves.specs.Inner.Fill.{works_on, worked_rows, sender_rows, LeftKept}
use Rattle.checks.specs.Inner.Ready.{Ready}
use Rattle.ledger.specs.declared.runs.Answer.TheVariants.{Done, Refused}
use Rattle.ledger.proofs.RunLaws.{answered_done, answered-refused}
use Rattle.checks.specs.Refusals.{step_checks, ChecksStep}
use Rattle.flood.specs.Step.{step_number, stepped, Steps, MakesStep, Passes}
use Rattle.flood.specs.Inner.Step.{RoomsLent, SlotSettled, filled_record, next_stored}
use Rattle.checks.proofs.CheckLaws.{ready, ring_is, checks_named}
use Rattle.moves.proofs.WetLaws.{worked_bit_is, idle_at, idle_gone, idle_soaked, sender_bit_is}
use Rattle.moves.proofs.MoveLaws.{lost_covered, step-length_to}

module _ (p : Plan) (g : Given) (w : World) (passed : refusal (step_checks p g (ring_of p w) (seen_of w)) ≡ 0) where
  abbrev v : Seen
  v = seen_of w

  abbrev m : Moves
  m = step_moves p g v

  abbrev clock : ℕ
  clock = w.run.clock

  pub is_ready : Ready p g v
  is_ready = ready p g (ring_of p w) v passed

  pub newest_below : w.run.newest < room_slots p w.records
  newest_below = (fine_ring (room_slots p w.records) w.run.kept w.run.newest (ring_is p g (ring_of p w) v passed)).newest_below

  -- the checks pass, so that the late rows decide
  number_late : step_number p g w ≡ refusal (late_refusals p m w)
  unfolding step_number
  number_late = refusal-second (step_checks p g (ring_of p w) v) (late_refusals p m w) (checks_named p g (ring_of p w) v) passed

  -- a refused step leaves the world as it was
  refused_by : {n : ℕ} → (n ≡ 0 → ⊥) → n ≡ step_number p g w → MakesStep p g w n w
  unfolding stepped
  refused_by d e = record { number = e; world_is = sym (pick_false _ _ (ne_eqb _ _ (λ z. d (e ∙ z)))) }

  pub step_seven : last_clock < clock + step_duration p g v → MakesStep p g w 7 w
  unfolding late_refusals
  step_seven h = refused_by (λ z. omega arith) (sym (number_late ∙ refusal_here 7 _ (lt-leb _ _ h)))

  module _ (timely : clock + step_duration p g v ≤ last_clock) where
    -- what is added is part of the new depth
    added_under : (i : ℕ) → m.added i ≤ new_depth p m w i
    unfolding new_depth
    added_under i = omega arith

    -- where all new depths fit, so does all that is added
    fits_all : depths_fit p m w ≡ true → added_fits p g clock (clock + step_duration p g v) ≡ true
    unfolding depths_fit added_fits
    fits_all t =
        all_of (squares p.shape) _
        (λ i l. or_of (shut p i) _
        (λ c. le-leb _ _ (le_trans (added_under i) (leb-true _ _ (or_right (shut p i) _ (all_at (squares p.shape) _ t i l) c)))))

    pub step_eight : added_fits p g clock (clock + step_duration p g v) ≡ false → MakesStep p g w 8 w
    unfolding late_refusals
    step_eight e =
        refused_by (λ z. omega arith)
        (sym (number_late ∙ (refusal_later 7 _ (le-leb _ _ timely) ∙ refusal_here 8 _ (no_more _ (λ t. not_both {A = ⊥} (fits_all t) e)))))

    -- what is added to a square not closed is no more than it can hold, where all fits
    added_at : added_fits p g clock (clock + step_duration p g v) ≡ true → (i : ℕ) → i < squares p.shape → shut p i ≡ false → m.added i ≤ most_depth
    unfolding added_fits
    added_at t i h c = leb-true _ _ (or_right (shut p i) _ (all_at (squares p.shape) _ t i h) c)

    -- what the ledger asks of the record
    pub settles :
        {rec : List ℕ} {held : ℕ} → rec ≡ step_record p m w → held ≡ step_length p g v → added_fits p g clock (clock + step_duration p g v) ≡ true →
        Settles p rec held w
    settles {rec} {held} e l t =
        let r = is_ready in
        let marks_long = r.waters.marks_long in
        rw (e, l)
        (record {
          fine = r.waters.fine;
          marks_long = marks_long;
          depths_long = r.flows.lies.sited.depths_long;
          lasts_long = r.flows.lasts_long;
          record_long = step_long p m w;
          newest_in = newest_below;
          outflow_to = r.outflow_to;
          soaked_to = r.soaked_to;
          clock_to = rw (step_lasted p m w) timely;
          length_to = step-length_to p g v r;
          depths_to = r.flows.lies.depths_to;
          covered =
              λ i h s.
              rw (step_gone p m w i h s, step_soaked p m w i h s) (lost_covered p g.lie w.depths w.lasts (step_duration p g v) i clock s);
          added_to = λ i h s. rw (step_added p m w i h s) (added_at t i h s);
        })

    pub step-settled :
        {rec : List ℕ} {held n : ℕ} {after : World} → rec ≡ step_record p m w → held ≡ step_length p g v → SettlesTo p rec held w n after →
        MakesStep p g w n after
    unfolding stepped settled
    step-settled {rec} {held} {n} {after} e l t =
        let long = is_ready.waters.marks_long in
        let number_is : settle_number p rec held w ≡ step_number p g w
        = rw (e, l) (sym (number_late ∙ late_settled p m w long (le-leb _ _ timely))) in
        let written_is : world_with p (moves_in rec held) w rec ≡ world_after p m w = rw (e, l) (settled_is p m w long) in
        record {
          number = t.number ∙ number_is;
          world_is = t.world_is ∙ (ap (λ (k : ℕ). pick (eqb k 0) (world_with p (moves_in rec held) w rec) w) number_is ∙ ap (λ (x : World). pick (eqb (step_number p g w) 0) x w) written_is);
        }

-- ---- the slot that a record is filled in

module _ (p : Plan) (w : World) where
  next-within : w.run.newest < room_slots p w.records → slot_after (room_slots p w.records) w.run.newest < slots_in (record_size p) (length w.records)
  unfolding room_slots
  next-within h = after_below (room_slots p w.records) w.run.newest (omega (arith, h))

  pub next_long : w.run.newest < room_slots p w.records → length (next_record p w) ≡ record_size p
  unfolding record_in
  next_long h =
      let slot : ℕ = slot_after (room_slots p w.records) w.run.newest in
      let fits : slot_start (record_size p) slot + record_size p ≤ length w.records = slot_within (record_size p) (omega arith) (next-within h) in
      length-take-le (record_size p) (drop (slot_start (record_size p) slot) w.records)
      (omega (arith, fits, length-drop (slot_start (record_size p) slot) w.records))

  abbrev next_place : ℕ
  next_place = slot_start (record_size p) (slot_after (room_slots p w.records) w.run.newest)

  -- as the code finds it
  pub newest_in : w.run.newest < room_slots p w.records → w.run.newest < slots_in (record_size p) (length w.records)
  unfolding room_slots
  newest_in h = h

  pub place_is : {at : ℕ} → at ≡ slot_start (record_size p) (slot_after (slots_in (record_size p) (length w.records)) w.run.newest) → at ≡ next_place
  unfolding room_slots
  place_is e = e

  module _ {size at : ℕ} (e : size ≡ record_size p) (a : at ≡ next_place) where
    pub next_part : take (at + size - at) (drop at w.records) ≡ next_record p w
    unfolding record_in
    next_part =
        let c : at + size - at ≡ size = omega arith in
        rw (c, a, e)

    pub part_ends : w.run.newest < room_slots p w.records → at + size ≤ length w.records
    part_ends h =
        omega (arith, a, e, slot_within (record_size p) (omega arith) (next-within h))

    pub slot_written :
        {new rec : List ℕ} → new ≡ rec → length rec ≡ record_size p →
        take at w.records ++ (new ++ drop (at + size - at) (drop at w.records)) ≡ next_stored p w rec
    unfolding placed
    slot_written {new} {rec} n long =
        let c : at + size - at ≡ length new = omega (arith, e, long, ap length n) in
        let there : placed w.records at new ≡ next_stored p w rec = ap₂ (placed w.records) a n in
        ap (λ (k : ℕ). take at w.records ++ (new ++ drop k (drop at w.records))) c ∙ there

-- ---- what the walk tells of the record

module _ (p : Plan) (o : Ground) (w : World) (room : List ℕ) (ms : ℕ) where
  abbrev rec : List ℕ
  rec = filled_record p o w room ms

  abbrev out : Leaves
  out = leaves_for p o w.depths w.lasts ms

  abbrev soaks : ℕ → ℕ
  soaks = soaked_for p o w.depths w.lasts w.run.clock ms

  pub lasted_told : lasted_in rec ≡ ms
  lasted_told = lasted_read p w.run.length ms out (λ k. get_or w.lasts k 0) (λ k. get_or room k 0) soaks

  -- what left a square not closed, what soaked there, and what was added
  module _ (i : ℕ) (h : i < squares p.shape) (c : shut p i ≡ false) where
    gone-told : gone (leaves_in rec) i ≡ gone out i
    gone-told = gone_read p w.run.length ms out (λ k. get_or w.lasts k 0) (λ k. get_or room k 0) soaks i h c

    soaked_told : soaked_in rec i ≡ soaks i
    soaked_told = soaked_read p w.run.length ms out (λ k. get_or w.lasts k 0) (λ k. get_or room k 0) soaks i h c

    added_told : added_in rec i ≡ get_or room i 0
    added_told = added_read p w.run.length ms out (λ k. get_or w.lasts k 0) (λ k. get_or room k 0) soaks i h c

  -- a square that sent nothing, by the record
  silent_told : (i : ℕ) → i < squares p.shape → sends p out i ≡ false → sends p (leaves_in rec) i ≡ false
  unfolding sends
  silent_told i h c = go (shut p i) refl
    where
      go : (b : Bool) → shut p i ≡ b → sends p (leaves_in rec) i ≡ false
      go true q = rw q
      go false q = ap (λ (k : ℕ). not (shut p i) && not (eqb k 0)) (gone-told i h q) ∙ c

  -- the working room
  pub room_added : length room ≡ squares p.shape → RoomAdded p rec room
  room_added long = record { long = long; added = λ i h c. sym (added_told i h c) }

  module _ (fine : ShapeInRange p.shape) (walk : Walk) {worked : List ℕ} (marked : worked ≡ worked_rows walk p.shape w.depths w.lasts room) where
    works : (i : ℕ) → i < squares p.shape → bit_of p.shape worked i ≡ works_on walk w.depths w.lasts room i
    works i h = ap (λ (k : List ℕ). bit_of p.shape k i) marked ∙ worked_bit_is walk p.shape w.depths w.lasts room fine h

    -- a square that is not worked
    idle_told : (i : ℕ) → i < squares p.shape → bit_of p.shape worked i ≡ false → shut p i ≡ false → IdleAt rec w.depths i
    idle_told i h b c =
        let z = sym (works i h) ∙ b in
        let none = idle_at walk p w.depths w.lasts room i z c in
        record {
          dry = none.0;
          quiet = gone-told i h c ∙ idle_gone walk p w.depths w.lasts room o ms i z c;
          firm = soaked_told i h c ∙ idle_soaked walk p w.depths w.lasts room o w.run.clock ms i z c;
          unadded = added_told i h c ∙ none.2;
        }

    still_told : (i : ℕ) → i < squares p.shape → bit_of p.shape worked i ≡ false → shut p i ≡ false → get_or w.lasts i 0 ≡ 0
    still_told i h b c = (idle_at walk p w.depths w.lasts room i (sym (works i h) ∙ b) c).1

    -- all that it tells
    pub told :
        {left senders : List ℕ} → length left ≡ squares p.shape → length worked ≡ p.shape.rows → length senders ≡ p.shape.rows →
        senders ≡ sender_rows p o w.depths w.lasts ms → LeftKept walk p o w.depths w.lasts room ms left →
        WalkTells p rec w.depths w.lasts left worked senders
    told left_long worked_long senders_long sent kept =
        record {
          left_long = left_long;
          worked_long = worked_long;
          senders_long = senders_long;
          idle = idle_told;
          still = still_told;
          left_is = λ i h b c. kept i h c (sym (works i h) ∙ b) ∙ sym (gone-told i h c);
          sent =
              λ i h b.
              silent_told i h
              (sym (sender_bit_is p o w.depths w.lasts ms fine h) ∙ (ap (λ (k : List ℕ). bit_of p.shape k i) (sym sent) ∙ b));
        }

-- ---- a step settled with its record in its slot

module _ {p : Plan} {w : World} {rec records : List ℕ} {held : ℕ} (s : Settles p rec held w) (q : records ≡ next_stored p w rec) where
  abbrev stored : World
  stored = world w.depths w.lasts records w.run

  stored_is : next_record p stored ≡ rec
  stored_is = next_read s q

  -- what is asked there
  pub stored_asks :
      {left worked senders room : List ℕ} {sure : Bool} → WalkTells p rec w.depths w.lasts left worked senders → RoomAdded p rec room →
      (sure ≡ true → surely_settles w.run w.depths room ≡ true) →
      (Settles p (next_record p stored) held stored)
      × ((WalkTells p (next_record p stored) w.depths w.lasts left worked senders)
      × ((RoomAdded p (next_record p stored) room) × (sure ≡ true → settle_number p (next_record p stored) held stored ≡ 0)))
  stored_asks {left} {worked} {senders} {room} t a sure =
      let added : RoomAdded p (next_record p stored) room = subst (λ (r : List ℕ). RoomAdded p r room) (sym stored_is) a in (
        stored_settles s q,
        (
          subst (λ (r : List ℕ). WalkTells p r w.depths w.lasts left worked senders) (sym stored_is) t,
          (added, λ y. surely_settled (stored_settles s q) added (sure y)),
        ),
      )

  -- and what is given, with the record in its slot or with the words put back that stood there
  module _ {n : ℕ} {after : World} (t : SettlesTo p (next_record p stored) held stored n after) where
    pub slot_settled : SlotSettled p rec held w n after
    slot_settled =
        record {
          number = stored_number s q t;
          made = stored_made s q t;
          not_made = λ d. stored_left s q t d ∙ ap (λ (r : List ℕ). world w.depths w.lasts r w.run) q;
        }

module _ {p : Plan} {rec : List ℕ} {held n : ℕ} {w after : World} (t : SlotSettled p rec held w n after) where
  pub sure_settled : settle_number p rec held w ≡ 0 → SettlesTo p rec held w n after
  sure_settled z = record { number = t.number; world_is = t.made (t.number ∙ z) }

  pub made_settled : n ≡ 0 → SettlesTo p rec held w n after
  made_settled z = record { number = t.number; world_is = t.made z }

  pub refused-settled : {records : List ℕ} → (n ≡ 0 → ⊥) → records ≡ w.records → SettlesTo p rec held w n (world after.depths after.lasts records after.run)
  unfolding settled
  refused-settled d e =
      let left = t.not_made d in
      let depths = ap (λ (x : World). x.depths) left in
      let lasts = ap (λ (x : World). x.lasts) left in
      let run = ap (λ (x : World). x.run) left in
      record { number = t.number; world_is = rw (depths, lasts, e, run) (sym (pick_false _ _ (ne_eqb (settle_number p rec held w) 0 (λ z. d (t.number ∙ z))))) }

-- the words that are saved and put back
module _ (p : Plan) (w : World) (rec : List ℕ) {held : ℕ} (s : Settles p rec held w) where
  pub words_back :
      {size at : ℕ} (before : List ℕ) {saved : List ℕ} → size ≡ record_size p → at ≡ next_place p w →
      saved ≡ placed before 0 (take (at + size - at) (drop at w.records)) → placed (next_stored p w rec) at (take size saved) ≡ w.records
  unfolding placed
  words_back {size} {at} before {saved} e a q =
      let words : List ℕ = next_record p w in
      let long : length words ≡ size = next_long p w s.newest_in ∙ sym e in
      let kept : take size saved ≡ words
      = ap (take size) (q ∙ ap (placed before 0) (next_part p w e a)) ∙ take_at words (drop (length words) (drop 0 before)) size long in
      ap₂ (placed (next_stored p w rec)) a kept
      ∙ put_back (record_size p) (omega arith) w.records (slot_after (room_slots p w.records) w.run.newest) rec s.record_long (next-within p w s.newest_in)

-- ---- the parts of the working rooms that a grid needs

-- the checks have passed, so that the shape is in range
pub passed_fine : {p : Plan} {g : Given} {w : World} → Passes p g w → ShapeInRange p.shape
passed_fine {p} {g} {w} passes = (is_ready p g w passes.checked).waters.fine

-- a part of a room is as long as it should be
pub part : {n most : ℕ} (room : List ℕ) → length room ≡ most → n ≤ most → length (take n room) ≡ n
part room long h = length-take-le _ room (omega (arith, long, h))

-- a room with a part of it written is as long as it was
pub refilled : {n most : ℕ} (new old : List ℕ) → length new ≡ length (take n old) → length old ≡ most → n ≤ most → length (new ++ drop n old) ≡ most
refilled {n} new old kept long h = length-append new (drop n old) ∙ omega (arith, kept, part old long h, length-drop n old, long, h)

pub part_long : {n : ℕ} (most : ℕ) → n ≤ most → length (take {A = ℕ} n (replicate most 0)) ≡ n
part_long most h = part (replicate most 0) (length-replicate {A = ℕ} most 0) h

pub parts_lent :
    {s : Shape} {count : ℕ} → SquaresOf s count → ShapeInRange s →
    RoomsLent s (take {A = ℕ} count (replicate most_squares 0)) (take {A = ℕ} s.rows (replicate most_along 0)) (take {A = ℕ} s.rows (replicate most_along 0))
    (take {A = ℕ} count (replicate most_squares 0))
parts_lent {s} {count} counted f =
    let few : count ≤ most_squares = omega (arith, counted, f.few) in
    let part = part_long most_squares few ∙ counted in
    record { left_long = part; worked_long = part_long most_along f.rows_high; senders_long = part_long most_along f.rows_high; room_long = part }

-- ---- the public step

module _ (p : Plan) (g : Given) (w : World) where
  -- rows 1 to 6 refuse
  pub step_checked :
      {n : ℕ} → n ≡ refusal (step_checks p g (ring_of p w) (seen_of w)) → (n ≡ 0 → ⊥) → Steps p g w (Refused n) w.depths w.lasts w.records
  unfolding step_number stepped
  step_checked {n} r d =
      let number_is : n ≡ step_number p g w = r ∙ sym (first (λ z. d (r ∙ z))) in
      let stays : stepped p g w ≡ w = refused_stays (λ z. d (number_is ∙ z)) in
      record {
        answer = answered-refused n (stepped p g w).run d ∙ ap (λ (k : ℕ). answered k (stepped p g w).run) number_is;
        depths_are = sym (ap (λ (x : World). x.depths) stays);
        lasts_are = sym (ap (λ (x : World). x.lasts) stays);
        records_are = sym (ap (λ (x : World). x.records) stays);
      }
    where
      first : (refusal (step_checks p g (ring_of p w) (seen_of w)) ≡ 0 → ⊥) → step_number p g w ≡ refusal (step_checks p g (ring_of p w) (seen_of w))
      first z = refusal-first (step_checks p g (ring_of p w) (seen_of w)) _ (checks_named p g (ring_of p w) (seen_of w)) z

      refused_stays : (step_number p g w ≡ 0 → ⊥) → stepped p g w ≡ w
      refused_stays z = pick_false _ _ (ne_eqb _ _ z)

  -- they are known to pass: so they do with whatever record room of so many numbers
  pub known_checks : Passes p g w → ChecksStep p g w.depths w.lasts (length w.records) w.run 0
  unfolding room_slots
  known_checks h records long = rw long (sym h.checked)

  -- they pass: what the inner step gives
  pub passes_checks : {n : ℕ} → n ≡ refusal (step_checks p g (ring_of p w) (seen_of w)) → n ≡ 0 → Passes p g w
  passes_checks e z = record { checked = sym e ∙ z }

  module _ {n : ℕ} {after : World} (m : MakesStep p g w n after) where
    pub step-refused : (n ≡ 0 → ⊥) → Steps p g w (Refused n) after.depths after.lasts after.records
    step-refused d =
        record {
          answer = answered-refused n (stepped p g w).run d ∙ ap (λ (k : ℕ). answered k (stepped p g w).run) m.number;
          depths_are = ap (λ (x : World). x.depths) m.world_is;
          lasts_are = ap (λ (x : World). x.lasts) m.world_is;
          records_are = ap (λ (x : World). x.records) m.world_is;
        }

    pub step_done : n ≡ 0 → Steps p g w (Done after.run) after.depths after.lasts after.records
    step_done z =
        record {
          answer = answered_done after.run z ∙ ap₂ answered m.number (ap (λ (x : World). x.run) m.world_is);
          depths_are = ap (λ (x : World). x.depths) m.world_is;
          lasts_are = ap (λ (x : World). x.lasts) m.world_is;
          records_are = ap (λ (x : World). x.records) m.world_is;
        }
