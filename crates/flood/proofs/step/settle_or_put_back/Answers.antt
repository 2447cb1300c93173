-- `flood::step::settle_or_put_back` meets its contract: the words that stood in the slot, copied there again, put the record room back.
-- Assumes nothing.
use mathlib.Core.Path.{◌≡◌, ap, ◌∙◌}
use mathlib.Core.List.{List}
use Prim.Native.Nat.{ℕ, ◌+◌, ◌≤◌}
use native.Mathlib.Omega.{arith}
use lib.ListN.{length, take, length-replicate}
use lib.Seq.{length-take-le}
use Rattle.reckon.specs.Lists.{placed}
use Rattle.ledger.specs.Runs.{Plan, World, plan, world}
use Rattle.ledger.specs.Inner.Worlds.{most_record}
use Rattle.checks.specs.Given.{Ground, ground}
use Rattle.flood.specs.Inner.Step.{filled_record}
use Rattle.flood.proofs.StepLaws.{newest_in, place_is, part_ends, refused-settled, words_back}
use Rattle.flood.proofs.step.settle_or_put_back.Goals as goal
use Rattle.flood.proofs.step.settle_or_put_back.Goals.{After-copy_into, After-record_size-size, Start}

-- ---- what is known there

abbrev p : Start → Plan
p s = plan s.args.way.shape s.args.marks.now

abbrev o : Start → Ground
o s = ground s.args.way.rules s.args.beds.now s.args.roughness.now s.args.rates.now

abbrev w : Start → World
w s = world s.args.depths.now s.args.lasts.now s.args.records.now s.args.run

ends : (c : After-record_size-size) → c.next_place-at.result + c.record_size-size.result ≤ length c.args.records.now
ends c =
    part_ends (p (goal.at.After-record_size-size c).Start) (w (goal.at.After-record_size-size c).Start) c.record_size-size.ensures (place_is (p (goal.at.After-record_size-size c).Start) (w (goal.at.After-record_size-size c).Start) c.next_place-at.ensures) c.requires.0.settles.newest_in

small : (c : After-record_size-size) → c.record_size-size.result ≤ most_record
small c = omega (arith, c.record_size-size.ensures, c.requires.0.settles.fine.few)

-- the room of the words that are saved
saved-long : (c : After-copy_into) → length c.copy_into.new.room ≡ most_record
saved-long c = c.copy_into.auto.room ∙ length-replicate {A = ℕ} most_record 0

part_long : (c : After-copy_into) → length (take c.record_size-size.result c.copy_into.new.room) ≡ c.record_size-size.result
part_long c = length-take-le _ _ (omega (arith, small (goal.at.After-copy_into c).After-record_size-size, saved-long c))

pub next_place-at-requires : goal.next_place-at-requires
next_place-at-requires c = (c.requires.0.settles.fine, newest_in (p (goal.at.next_place-at-requires c).Start) (w (goal.at.next_place-at-requires c).Start) c.requires.0.settles.newest_in)

pub overflow_add-stop : goal.overflow_add-stop
overflow_add-stop c = omega (arith, ends c, c.well_formed.1.1.1.1.1.1.1)

pub offset_bounds-records-at : goal.offset_bounds-records-at
offset_bounds-records-at c = omega (arith, ends c, c.well_formed.1.1.1.1.1.1.1)

pub slice_bounds-copy_into-end : goal.slice_bounds-copy_into-end
slice_bounds-copy_into-end c = ends c

pub copy_into-requires-2 : goal.copy_into-requires-2
copy_into-requires-2 c = omega (arith, part_long (goal.at.copy_into-requires-2 c).After-copy_into, ends (goal.at.copy_into-requires-2 c).After-record_size-size, c.settle_in_slot-settled.auto.records)

pub returns : goal.returns
returns c =
    let rec : List ℕ = filled_record (p (goal.at.returns c).Start) (o (goal.at.returns c).Start) (w (goal.at.returns c).Start) c.args.room.now c.args.decided.duration in
    let left = c.settle_in_slot-settled.ensures.not_made c.if-refused-eq0.false in
    refused-settled c.settle_in_slot-settled.ensures c.if-refused-eq0.false
    (c.copy_into-2.ensures
    ∙ (ap (λ (x : World). placed x.records c.next_place-at.result (take c.record_size-size.result c.copy_into.new.room)) left
    ∙ words_back (p (goal.at.returns c).Start) (w (goal.at.returns c).Start) rec c.requires.0.settles _ c.record_size-size.ensures (place_is (p (goal.at.returns c).Start) (w (goal.at.returns c).Start) c.next_place-at.ensures) c.copy_into.ensures))
