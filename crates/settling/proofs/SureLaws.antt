-- Laws of steps that surely settle: no number of a list is more than all of them joined, so that no new depth is too much, nor what leaves
-- the grid, nor what soaks; and a record stored where it stands changes nothing.
-- Assumes nothing.
use Rattle.std.proofs.Common.{◌≡◌, ℕ, zero, suc, ◌+◌, ◌-◌, ◌*◌, ◌<◌, ◌≤◌, Bool, true, false, leb, List, [], ◌∷◌, ◌++◌, length, get_or, take, drop, sym, refl, ap, ◌∙◌, subst, mul-le-mul_right, add-one, arith, length-drop, take-append-drop, length-take-le, eq-eqb, ne_eqb, le-leb, leb-true}
use native.Mathlib.Decide.{dec_lt, ℕ_discrete}
use lib.Bits.{bit_or, or_add_and, and_le_l, and_le_r}
use lib.ListN.{get_or-eq_default}
use borrow.Author.Tests.{lt-leb}
use Rattle.reckon.specs.Tests.{pick}
use Rattle.reckon.specs.Lists.{placed}
use Rattle.reckon.specs.Ranges.{most_depth, most_outflow, most_soaked}
use Rattle.reckon.proofs.TestLaws.{pick_true, pick_false, pick_both, or_of, all_of, every_each, every_fails, passed_refusal}
use Rattle.reckon.proofs.ListLaws.{sum_le}
use Rattle.trials.specs.Ring.{slots_in, slot_start, slot_after}
use Rattle.trials.specs.Room.{record_in, stored_in}
use Rattle.trials.proofs.RingLaws.{slot_within, after_below}
use Rattle.trials.proofs.RoomLaws.{length_stored, slots_stored, read_stored}
use Rattle.grid.specs.Squares.{north, east, south, west, sides, squares, beside, opposite}
use Rattle.grid.proofs.SquareLaws.{opposite_small}
use Rattle.grid.proofs.MarkLaws.{marked}
use Rattle.ledger.specs.Runs.{Plan, World, world}
use Rattle.ledger.specs.Flows.{four_sides, shut, gone, sent, came, off_side, off_square, off_grid, soaked_square, soaked_grid}
use Rattle.ledger.specs.Record.{record_size, leaves_in, soaked_in, room_slots}
use Rattle.ledger.specs.After.{remains, new_depth, depths_fit, new_outflow, new_soaked, world_with}
use Rattle.ledger.specs.declared.runs.Run.{Run}
use Rattle.settling.specs.Inner.Settle.{moves_in, settle_refusals, settle_number, settled, Settles, SettlesTo, RoomAdded, joined_to, joined_all, most_lost, surely_settles, next_record}
use Rattle.ledger.proofs.RecordLaws.{slots_of}
use Rattle.ledger.proofs.RunLaws.{every_decides}
use Rattle.settling.proofs.SpreadLaws.{side_part}

-- ---- numbers joined

pub joined_none : (list : List ℕ) → 0 ≡ joined_to 0 list
unfolding joined_to
joined_none list = refl

pub joined_next : (list : List ℕ) (n : ℕ) {all : ℕ} → all ≡ joined_to n list → bit_or all (get_or list n 0) ≡ joined_to (n + 1) list
unfolding joined_to
joined_next list n e = rw (add-one n, e)

pub joined_whole : (list : List ℕ) {n all : ℕ} → all ≡ joined_to n list → n ≡ length list → all ≡ joined_all list
unfolding joined_all
joined_whole list e l = e ∙ ap (λ (k : ℕ). joined_to k list) l

below_joined : (list : List ℕ) (n i : ℕ) → i < n → get_or list i 0 ≤ joined_to n list
unfolding joined_to
below_joined list zero i h = absurd (omega arith)
below_joined list (suc n) i h = go (ℕ_discrete i n) (below_joined list n i)
  where
    a : ℕ
    a = joined_to n list

    b : ℕ
    b = get_or list n 0

    go : Dec (i ≡ n) → (i < n → get_or list i 0 ≤ a) → get_or list i 0 ≤ bit_or a b
    go (yes e) before =
        let same : get_or list i 0 ≡ b = ap (λ (k : ℕ). get_or list k 0) e in
        omega (arith, same, or_add_and a b, and_le_l a b)
    go (no d) before = omega (arith, before (omega (arith, d)), or_add_and a b, and_le_r a b)

-- a number of a list, or 0 past its end
pub under_joined : (list : List ℕ) (i : ℕ) → get_or list i 0 ≤ joined_all list
unfolding joined_all
under_joined list i = go (dec_lt i (length list))
  where
    go : Dec (i < length list) → get_or list i 0 ≤ joined_to (length list) list
    go (yes h) = below_joined list (length list) i h
    go (no h) = omega (arith, get_or-eq_default list 0 (let z : length list ≤ i = omega arith in z))

-- ---- the test

module _ (run : Run) (depths room : List ℕ) where
  pub unsure_outflow : most_outflow - most_lost < run.outflow → false ≡ surely_settles run depths room
  unfolding surely_settles
  unsure_outflow h = sym (every_fails _ 0 (lt-leb run.outflow (most_outflow - most_lost) h))

  pub unsure_soaked : most_soaked - most_lost < run.soaked → false ≡ surely_settles run depths room
  unfolding surely_settles
  unsure_soaked h = sym (every_fails _ 1 (lt-leb run.soaked (most_soaked - most_lost) h))

  pub sure_by :
      {x y : ℕ} → run.outflow ≤ most_outflow - most_lost → run.soaked ≤ most_soaked - most_lost → x ≡ joined_all depths → y ≡ joined_all room →
      leb (5 * x + y) most_depth ≡ surely_settles run depths room
  unfolding surely_settles
  sure_by {x} {y} h k e f =
      let deep : leb (5 * x + y) most_depth ≡ leb (5 * joined_all depths + joined_all room) most_depth = rw (e, f) in
      deep
      ∙ every_decides (leb run.outflow (most_outflow - most_lost) ∷ leb run.soaked (most_soaked - most_lost) ∷ [])
      (leb (5 * joined_all depths + joined_all room) most_depth)
      (le-leb run.outflow (most_outflow - most_lost) h, (le-leb run.soaked (most_soaked - most_lost) k, tt))

-- ---- nothing is refused

module _ {p : Plan} {rec : List ℕ} {held : ℕ} {w : World} (s : Settles p rec held w) where
  -- what leaves a square not closed through a side is part of its water
  side_under : {i : ℕ} → i < squares p.shape → shut p i ≡ false → (side : ℕ) → side < sides → leaves_in rec i side ≤ joined_all w.depths
  side_under {i} h o side k = omega (arith, side_part (leaves_in rec) i side k, s.covered i h o, under_joined w.depths i)

  sent_under : (i side : ℕ) → sent p (leaves_in rec) i side ≤ joined_all w.depths
  unfolding sent
  sent_under i side = go (shut p at) refl
    where
      at : ℕ
      at = beside p.shape i side

      go : (b : Bool) → shut p at ≡ b → pick (shut p at) 0 (leaves_in rec at (opposite side)) ≤ joined_all w.depths
      go true e = omega (arith, pick_true 0 (leaves_in rec at (opposite side)) e)
      go false e =
          omega (
            arith,
            pick_false 0 (leaves_in rec at (opposite side)) e,
            side_under (omega (arith, marked p.marks at e, s.marks_long)) e (opposite side) (opposite_small side),
          )

  came_under : (i : ℕ) → came p (leaves_in rec) i ≤ 4 * joined_all w.depths
  unfolding came
  came_under i = omega (arith, sent_under i north, sent_under i east, sent_under i south, sent_under i west)

  depth_under :
      {room : List ℕ} → RoomAdded p rec room → (i : ℕ) → i < squares p.shape → shut p i ≡ false →
      new_depth p (moves_in rec held) w i ≤ 5 * joined_all w.depths + joined_all room
  unfolding new_depth remains
  depth_under {room} a i h o = omega (arith, under_joined w.depths i, came_under i, a.added i h o, under_joined room i)

  -- what a square sends off the grid, and what soaks there, is part of its water
  off_part : (i : ℕ) → four_sides (off_side p (leaves_in rec) i) ≤ gone (leaves_in rec) i
  unfolding off_side gone
  off_part i = omega (arith, side north, side east, side south, side west)
    where
      side : (k : ℕ) → off_side p (leaves_in rec) i k ≤ leaves_in rec i k
      side k = pick_both (λ (x : ℕ). x ≤ leaves_in rec i k) _ (omega arith) (omega arith)

  off_under : (i : ℕ) → i < squares p.shape → off_square p (leaves_in rec) i ≤ most_depth
  unfolding off_square
  off_under i h = go (shut p i) refl
    where
      off : ℕ
      off = four_sides (off_side p (leaves_in rec) i)

      go : (b : Bool) → shut p i ≡ b → pick (shut p i) 0 off ≤ most_depth
      go true e = omega (arith, pick_true 0 off e)
      go false e = omega (arith, pick_false 0 off e, off_part i, s.covered i h e, s.depths_to i h e)

  soaked_under : (i : ℕ) → i < squares p.shape → soaked_square p (soaked_in rec) i ≤ most_depth
  unfolding soaked_square
  soaked_under i h = go (shut p i) refl
    where
      go : (b : Bool) → shut p i ≡ b → pick (shut p i) 0 (soaked_in rec i) ≤ most_depth
      go true e = omega (arith, pick_true 0 (soaked_in rec i) e)
      go false e = omega (arith, pick_false 0 (soaked_in rec i) e, s.covered i h e, s.depths_to i h e)

  pub off_lost : off_grid p (leaves_in rec) ≤ most_lost
  unfolding off_grid
  off_lost = omega (arith, sum_le (squares p.shape) most_depth (off_square p (leaves_in rec)) off_under, mul-le-mul_right most_depth s.fine.few)

  pub soaked_lost : soaked_grid p (soaked_in rec) ≤ most_lost
  unfolding soaked_grid
  soaked_lost = omega (arith, sum_le (squares p.shape) most_depth (soaked_square p (soaked_in rec)) soaked_under, mul-le-mul_right most_depth s.fine.few)

  outflow_under : w.run.outflow ≤ most_outflow - most_lost → new_outflow p (moves_in rec held) w ≤ most_outflow
  unfolding new_outflow
  outflow_under h = omega (arith, h, off_lost)

  soaked_total_under : w.run.soaked ≤ most_soaked - most_lost → new_soaked p (moves_in rec held) w ≤ most_soaked
  unfolding new_soaked
  soaked_total_under h = omega (arith, h, soaked_lost)

  pub surely_settled : {room : List ℕ} → RoomAdded p rec room → surely_settles w.run w.depths room ≡ true → settle_number p rec held w ≡ 0
  unfolding surely_settles settle_number settle_refusals depths_fit
  surely_settled {room} a e =
      let each = every_each _ e in
      let shallow : 5 * joined_all w.depths + joined_all room ≤ most_depth = leb-true _ _ each.1.1.0 in
      passed_refusal (settle_refusals p rec held w) (
        all_of (squares p.shape) _
            (λ i h. or_of (shut p i) _ (λ o. le-leb (new_depth p (moves_in rec held) w i) most_depth (omega (arith, shallow, depth_under a i h o)))),
        (
          le-leb (new_outflow p (moves_in rec held) w) most_outflow (outflow_under (leb-true _ _ each.0)),
          (le-leb (new_soaked p (moves_in rec held) w) most_soaked (soaked_total_under (leb-true _ _ each.1.0)), tt),
        ),
      )

-- ---- a record that stands in its slot

-- what stands in a list, placed over it
placed_same : (l : List ℕ) (a n : ℕ) → a + n ≤ length l → placed l a (take n (drop a l)) ≡ l
unfolding placed
placed_same l a n h =
    let long : length (take n (drop a l)) ≡ n = length-take-le n (drop a l) (omega (arith, length-drop a l)) in
    ap (λ (k : ℕ). take a l ++ (take n (drop a l) ++ drop k (drop a l))) long
    ∙ (ap (λ (r : List ℕ). take a l ++ r) (take-append-drop n (drop a l)) ∙ take-append-drop a l)

module _ (p : Plan) (w : World) {size slots slot at : ℕ} (e : size ≡ record_size p) (s : slots ≡ slots_in size (length w.records))
    (q : slot ≡ slot_after slots w.run.newest) (a : at ≡ slot_start size slot) where
  pub next_is : take (at + size - at) (drop at w.records) ≡ next_record p w
  unfolding record_in
  next_is =
      let c : at + size - at ≡ size = omega arith in
      rw (c, a, q, slots_of p w.records e s, e)

  pub next-stored : slot_start size slot + size ≤ length w.records → w.records ≡ placed w.records at (take (at + size - at) (drop at w.records))
  next-stored h =
      let c : at + size - at ≡ size = omega arith in
      sym (ap (λ (k : ℕ). placed w.records at (take k (drop at w.records))) c ∙ placed_same w.records at size (omega (arith, a, h)))

-- by the same record, said otherwise
pub settles_by :
    {p : Plan} {rec other : List ℕ} {held n : ℕ} {w after : World} → rec ≡ other → SettlesTo p rec held w n after → SettlesTo p other held w n after
settles_by {p} {rec} {other} {held} {n} {w} {after} e t = subst (λ (r : List ℕ). SettlesTo p r held w n after) e t

-- ---- a step whose record is stored before it is settled

module _ {p : Plan} {w : World} {rec : List ℕ} {held : ℕ} (s : Settles p rec held w) where
  abbrev slot_next : ℕ
  slot_next = slot_after (room_slots p w.records) w.run.newest

  slot_in : slot_next < slots_in (record_size p) (length w.records)
  unfolding room_slots
  slot_in = after_below (room_slots p w.records) w.run.newest (omega (arith, s.newest_in))

  module _ {room : List ℕ} (e : room ≡ stored_in (record_size p) w.records slot_next rec) where
    abbrev stored : World
    stored = world w.depths w.lasts room w.run

    slots_same : room_slots p room ≡ room_slots p w.records
    unfolding room_slots
    slots_same =
        ap (λ (l : List ℕ). slots_in (record_size p) (length l)) e
        ∙ slots_stored (record_size p) (omega arith) w.records slot_next rec s.record_long slot_in

    pub next_read : next_record p stored ≡ rec
    next_read =
        ap (λ (k : ℕ). record_in (record_size p) room (slot_after k w.run.newest)) slots_same
        ∙ (ap (λ (l : List ℕ). record_in (record_size p) l slot_next) e
        ∙ read_stored (record_size p) (omega arith) w.records slot_next rec s.record_long slot_in)

    pub stored_settles : Settles p (next_record p stored) held stored
    stored_settles =
        subst (λ (r : List ℕ). Settles p r held stored) (sym next_read)
        (record {
          fine = s.fine;
          marks_long = s.marks_long;
          depths_long = s.depths_long;
          lasts_long = s.lasts_long;
          record_long = s.record_long;
          newest_in = subst (λ (k : ℕ). w.run.newest < k) (sym slots_same) s.newest_in;
          outflow_to = s.outflow_to;
          soaked_to = s.soaked_to;
          clock_to = s.clock_to;
          length_to = s.length_to;
          depths_to = s.depths_to;
          covered = s.covered;
          added_to = s.added_to;
        })

    -- stored once more, it changes nothing
    twice : stored_in (record_size p) room slot_next rec ≡ stored_in (record_size p) w.records slot_next rec
    unfolding record_in
    twice =
        let there = read_stored (record_size p) (omega arith) w.records slot_next rec s.record_long slot_in in
        let at : ℕ = slot_start (record_size p) slot_next in
        let once : List ℕ = stored_in (record_size p) w.records slot_next rec in
        let long : length once ≡ length w.records = length_stored (record_size p) (omega arith) w.records slot_next rec s.record_long slot_in in
        ap (λ (l : List ℕ). placed l at rec) e
        ∙ (ap (λ (r : List ℕ). placed once at r) (sym there)
        ∙ placed_same once at (record_size p) (omega (arith, long, slot_within (record_size p) (omega arith) slot_in)))

    number_same : settle_number p rec held stored ≡ settle_number p rec held w
    unfolding settle_number settle_refusals depths_fit new_depth remains new_outflow new_soaked
    number_same = refl

    world_same : world_with p (moves_in rec held) stored rec ≡ world_with p (moves_in rec held) w rec
    unfolding new_depth remains new_outflow new_soaked
    world_same = rw (slots_same, twice)

    -- what settling it there gives is what settling it before gives, but that a refused step has its record in the slot
    module _ {n : ℕ} {after : World} (t : SettlesTo p (next_record p stored) held stored n after) where
      there : SettlesTo p rec held stored n after
      there = settles_by next_read t

      pub stored_number : n ≡ settle_number p rec held w
      stored_number = there.number ∙ number_same

      pub stored_made : n ≡ 0 → after ≡ settled p rec held w
      unfolding settled
      stored_made z =
          there.world_is
          ∙ (pick_true _ _ (eq-eqb (settle_number p rec held stored) 0 (sym there.number ∙ z))
          ∙ (world_same ∙ sym (pick_true _ _ (eq-eqb (settle_number p rec held w) 0 (sym stored_number ∙ z)))))

      pub stored_left : (n ≡ 0 → ⊥) → after ≡ stored
      unfolding settled
      stored_left d = there.world_is ∙ pick_false _ _ (ne_eqb (settle_number p rec held stored) 0 (λ z. d (there.number ∙ z)))
