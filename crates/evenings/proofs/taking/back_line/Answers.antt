-- `evenings::taking::back_line` meets its contract: the take-backs, and the rates of the earliest step taken back.
-- Assumes nothing.
use native.Mathlib.Omega.{arith}
use Rattle.ledger.specs.Runs.{Plan, plan}
use Rattle.hatches.specs.Log.{Evening, evening}
use Rattle.hatches.proofs.RefusalLaws.{standing_is, back_kept, slots_are}
use Rattle.evenings.proofs.BackLaws.{backs_few, backs_newest}
use Rattle.evenings.proofs.TakeLaws.{back_done}
use Rattle.evenings.proofs.taking.back_line.Goals as goal
use Rattle.evenings.proofs.taking.back_line.Goals.{Start}

-- what the arguments are
abbrev P : Start → Plan
P s = plan s.args.shape s.args.marks.now

abbrev E : Start → Evening
E s = evening s.args.depths.now s.args.lasts.now s.args.records.now s.args.began.now s.args.log

pub rates_back-litres-requires : goal.rates_back-litres-requires
rates_back-litres-requires c =
    let k = slots_are (P (goal.at.rates_back-litres-requires c).Start) c.args.records.now c.record_size.ensures c.slots_in-slots.ensures in
    (λ l. omega (arith, k, backs_newest _ _ _ c.take_backs-back.ensures l), omega (arith, k, c.requires.shape_in_range.1))

pub overflow_sub-log : goal.overflow_sub-log
overflow_sub-log c = omega (arith, backs_few _ _ _ c.take_backs-back.ensures, standing_is c.args.log c.requires.log_value.0, back_kept c.args.log c.args.count c.requires.log_value.1)

pub returns : goal.returns
returns c =
    λ g.
    back_done (P (goal.at.returns c).Start) g (E (goal.at.returns c).Start) c.args.count c.take_backs-back.ensures
    (slots_are (P (goal.at.returns c).Start) c.args.records.now c.record_size.ensures c.slots_in-slots.ensures)
    c.rates_back-litres.ensures c.further.ensures
