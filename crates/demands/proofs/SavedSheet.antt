-- A sheet that was read can be saved before its first step: it passed the checks of a run.
-- Assumes nothing.
use mathlib.Core.Path.{◌≡◌, refl}
use mathlib.Core.Bool.{true, false}
use mathlib.Core.List.{List}
use Prim.Native.Nat.{ℕ, zero, suc, ◌≤◌}
use native.Mathlib.Omega.{arith}
use lib.ListN.{length, get_or, take, replicate, get_or-replicate}
use borrow.Author.Tests.{le-leb}
use Rattle.reckon.specs.Tests.{refusal}
use Rattle.reckon.proofs.TestLaws.{each_every, every_each, all_of}
use Rattle.grid.specs.Squares.{squares}
use Rattle.grid.specs.Marks.{closed}
use Rattle.ledger.specs.Runs.{Plan, world, seen_of, run_fine, run_values_fine}
use Rattle.ledger.specs.Record.{room_slots}
use Rattle.checks.specs.Given.{Given}
use Rattle.checks.specs.Inner.Ready.{Ready}
use Rattle.checks.specs.Fresh.{fresh_run}
use Rattle.checks.specs.Refusals.{run_checks}
use Rattle.checks.proofs.CheckLaws.{run_checks_step}
use Rattle.flood.proofs.StepLaws.{is_ready}
use Rattle.hatches.specs.Log.{Evening, most_hatches, standing_fine}
use Rattle.evenings.specs.Program.{Stores}
use Rattle.evenings.specs.Taking.{world_of}
use Rattle.programs.specs.Reading.{sheet_within}
use Rattle.sheet.specs.Sheet.{line_two, heading_of, rooms_after}
use Rattle.sheet.specs.declared.reading.Sheet.TheVariants.{Read}
use Rattle.sheet.proofs.RunLaws.{ring_fresh}
use Rattle.sheet.proofs.PassLaws.{sheet_passes}
use Rattle.stands.specs.Laying.{most_start, hatches_fine, draws_fine, state_fine}
use Rattle.stands.proofs.TidyLaws.{tidy_opened}
use Rattle.desks.specs.State.{desk_text, kept_slots}
use Rattle.desks.specs.Command.{Left, plan_on, sheet_left}
use Rattle.desks.specs.declared.state.Desk.{Desk}
use Rattle.desks.proofs.StateLaws.{slots_some}
use Rattle.demands.specs.DeskLines.{RoomsWhole, OnDesk, state_on, ground_on}
use Rattle.demands.specs.DeskCalls.{BeginsOn, BalancedOn}
use Rattle.demands.proofs.DeskLaws.{most_water}
use Rattle.demands.proofs.LineDeeds.{slots_are, shape-fine, state_sized}
use Rattle.demands.proofs.CallDeeds.{is_well, sheet_on, fresh_begins}
use Rattle.demands.proofs.SavedDeeds.{SavableAt, InRange, ready_range}

zeros : (n k i : ℕ) → get_or (take n (replicate {A = ℕ} k 0)) i 0 ≡ 0
zeros zero k i = refl
zeros (suc n) zero i = refl
zeros (suc n) (suc k) zero = refl
zeros (suc n) (suc k) (suc i) = zeros n k i

module _ (d : Desk) (r : Stores) (whole : RoomsWhole r) (text : List ℕ) (read : sheet_within desk_text text r.sheet ≡ Read (heading_of text)) where
  abbrev l : Left
  l = sheet_left text (Read (heading_of text)) d r

  pub read_on : OnDesk l.desk l.rooms
  read_on = sheet_on d r whole text (heading_of text) read

  pub read_begins : BeginsOn l.desk l.rooms × BalancedOn l.desk l.rooms
  unfolding sheet_left
  read_begins = fresh_begins l.desk l.rooms read_on refl refl

  abbrev P : Plan
  P = plan_on l.desk l.rooms

  abbrev G : Given
  G = ground_on l.desk l.rooms

  abbrev E : Evening
  E = state_on l.desk l.rooms

  some_slot : 1 ≤ kept_slots l.desk.heading.shape
  some_slot = omega (arith, slots_some l.desk.heading.shape (shape-fine l.desk l.rooms read_on))

  slots : room_slots P E.records ≡ kept_slots l.desk.heading.shape
  slots = slots_are l.desk.heading (shape-fine l.desk l.rooms read_on) P.marks G E (state_sized l.desk l.rooms read_on)

  no_last : (i : ℕ) → closed P.marks i ≡ false → get_or E.lasts i 0 ≡ 0
  unfolding sheet_left
  no_last i o = zeros (squares l.desk.heading.shape) (length r.lasts) i

  passes : refusal (run_checks P G (line_two text).end (world E.depths E.lasts E.records (fresh_run (line_two text).rules (room_slots P E.records)))) ≡ 0
  unfolding sheet_left rooms_after heading_of
  passes =
      sheet_passes text r.sheet (heading_of text) (is_well d r whole text (heading_of text) read) E.lasts E.records
      (state_sized l.desk l.rooms read_on).lasts no_last (omega (arith, slots, some_slot))

  run_ready : Ready P G (seen_of (world_of E))
  unfolding sheet_left fresh_run heading_of
  run_ready = is_ready P G _ (run_checks_step P G (line_two text).end _ passes)

  in_range : InRange P (seen_of (world_of E))
  in_range = ready_range P G _ run_ready

  none_named : hatches_fine P l.desk.log.hatches l.desk.log.litres ≡ true
  unfolding hatches_fine sheet_left
  none_named = all_of most_hatches _ (λ h k. rw (get_or-replicate most_hatches h false false k) refl)

  pub read_savable : SavableAt P G (kept_slots l.desk.heading.shape) E l.desk.account
  unfolding draws_fine state_fine run_fine run_values_fine standing_fine sheet_left fresh_run
  read_savable =
      record {
        shape = shape-fine l.desk l.rooms read_on;
        waters = in_range.0;
        draws = each_every _ (none_named, (le-leb _ _ read_begins.0.table_fits, tt));
        state =
            each_every _ (
              each_every _ (ring_fresh (kept_slots l.desk.heading.shape) some_slot, (every_each _ in_range.1).1),
              (
                each_every _ (refl, (refl, tt)),
                (le-leb l.desk.account.start most_start (omega (arith, most_water P G _ run_ready)), (refl, tt)),
              ),
            );
        tidy = tidy_opened l.desk.log.run;
      }
