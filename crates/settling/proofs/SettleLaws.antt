-- Laws of settling: a square's new depth is the world's, whatever else the world holds; 8 comes before 9, and 9 before 15; and parts written make a world.
-- Assumes nothing.
use Rattle.std.proofs.Common.{◌≡◌, ℕ, ◌+◌, ◌<◌, ◌≤◌, Bool, true, false, List, length, sym, refl, ap, ◌∙◌, arith, eq-eqb, ne_eqb}
use Rattle.reckon.specs.Tests.{refusal}
use Rattle.reckon.specs.Lists.{filled, placed}
use Rattle.reckon.proofs.TestLaws.{pick_true, pick_false}
use Rattle.trials.specs.Ring.{slots_in, slot_start, slot_after, kept_after}
use Rattle.trials.proofs.RingLaws.{after_below}
use Rattle.grid.specs.Squares.{squares}
use Rattle.ledger.specs.Runs.{Plan, World, world}
use Rattle.ledger.specs.Inner.Worlds.{of_depths}
use Rattle.ledger.specs.Flows.{shut, gone, off_grid, soaked_grid}
use Rattle.ledger.specs.Record.{record_size, lasted_in, leaves_in, soaked_in, room_slots, Recorded}
use Rattle.ledger.specs.After.{remains, new_depth, depths_fit, new_outflow, new_soaked, world_with}
use Rattle.settling.specs.Inner.Settle.{moves_in, settle_rows, late_number, settle_refusals, settle_number, settled, Settles, SettlesTo, depths_by, Spreads}
use Rattle.ledger.proofs.RecordLaws.{slots_of, slot_fits}

-- ---- what is asked of the parts

module _ {p : Plan} {rec : List ℕ} {held : ℕ} {w : World} (s : Settles p rec held w) where
  pub settles_recorded : Recorded p rec
  settles_recorded = record { fine = s.fine; marks_long = s.marks_long; record_long = s.record_long }

  pub settles_spreads : Spreads p rec w.depths
  settles_spreads =
      record { recorded = settles_recorded; depths_long = s.depths_long; depths_to = s.depths_to; covered = s.covered; added_to = s.added_to }

-- ---- the numbers and the world

module _ (p : Plan) (rec : List ℕ) (held : ℕ) (w : World) where
  -- the depths fit by the record and the depths alone
  fit_is : depths_fit p (moves_in rec held) w ≡ depths_fit p (moves_in rec 0) (of_depths w.depths)
  unfolding depths_fit new_depth remains
  fit_is = refl

  as_it_was : {n : ℕ} → (n ≡ 0 → ⊥) → settle_number p rec held w ≡ n → SettlesTo p rec held w n w
  unfolding settled
  as_it_was d e = record { number = sym e; world_is = sym (pick_false _ _ (ne_eqb (settle_number p rec held w) 0 (λ z. d (sym e ∙ z)))) }

  -- the number by the room's depths and the totals, where it is sure or not, is the record's
  pub late_is :
      {sure fit : Bool} {n outflow soaked : ℕ} → n ≡ late_number sure fit outflow soaked → (sure ≡ true → settle_number p rec held w ≡ 0) →
      fit ≡ depths_fit p (moves_in rec 0) (of_depths w.depths) → outflow ≡ new_outflow p (moves_in rec held) w → soaked ≡ new_soaked p (moves_in rec held) w →
      n ≡ settle_number p rec held w
  unfolding late_number settle_number settle_refusals
  late_is {sure = true} e none f o k = e ∙ (pick_true _ _ refl ∙ sym (none refl))
  late_is {sure = false} {fit} {n} {outflow} {soaked} e none f o k = e ∙ (pick_false _ _ refl ∙ same)
    where
      same : refusal (settle_rows fit outflow soaked) ≡ settle_number p rec held w
      same = rw (f ∙ sym fit_is, o, k)

  pub settles_refused : {n : ℕ} → n ≡ settle_number p rec held w → (n ≡ 0 → ⊥) → SettlesTo p rec held w n w
  settles_refused e d = as_it_was d (sym e)

  pub settles_made : {n : ℕ} {after : World} → n ≡ settle_number p rec held w → n ≡ 0 → after ≡ world_with p (moves_in rec held) w rec → SettlesTo p rec held w 0 after
  unfolding settled
  settles_made e z q =
      let none : settle_number p rec held w ≡ 0 = sym e ∙ z in
      record { number = sym none; world_is = q ∙ sym (pick_true _ _ (eq-eqb _ 0 none)) }

  pub outflow_by : {off : ℕ} → off ≡ off_grid p (leaves_in rec) → w.run.outflow + off ≡ new_outflow p (moves_in rec held) w
  unfolding new_outflow
  outflow_by e = ap (λ (k : ℕ). w.run.outflow + k) e

  pub soaked_by : {soaked : ℕ} → soaked ≡ soaked_grid p (soaked_in rec) → w.run.soaked + soaked ≡ new_soaked p (moves_in rec held) w
  unfolding new_soaked
  soaked_by e = ap (λ (k : ℕ). w.run.soaked + k) e

  -- the parts, as they are written
  pub written_is :
      {d l r : List ℕ} {slots slot at clock outflow kept soaked : ℕ} → slots ≡ room_slots p w.records → slot ≡ slot_after slots w.run.newest →
      d ≡ depths_by p rec w.depths → l ≡ filled (squares p.shape) (shut p) (gone (leaves_in rec)) w.lasts →
      at ≡ slot_start (record_size p) slot → r ≡ placed w.records at rec →
      clock ≡ w.run.clock + lasted_in rec → outflow ≡ new_outflow p (moves_in rec held) w → kept ≡ kept_after slots w.run.kept →
      soaked ≡ new_soaked p (moves_in rec held) w →
      world d l r (record { clock = clock; length = held; outflow = outflow; kept = kept; newest = slot; soaked = soaked })
      ≡ world_with p (moves_in rec held) w rec
  unfolding new_depth remains
  written_is s t d l a r c o k f = rw (d, l, r, a, c, o, k, f, t, s)

-- the slot that is written lies in the room
pub next_fits :
    (p : Plan) (records : List ℕ) {size slots slot newest : ℕ} → size ≡ record_size p → slots ≡ slots_in size (length records) →
    newest < room_slots p records → slot ≡ slot_after slots newest → slot_start size slot + size ≤ length records
next_fits p records {size} {slots} {slot} {newest} e s h q =
    slot_fits p records e s (rw q (after_below slots newest (omega (arith, slots_of p records e s))))
