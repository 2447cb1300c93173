use mathlib.Core.Path.{ap}
use mathlib.Core.Bool.{not}
use mathlib.Core.Path.{refl, ◌∙◌}
use native.Mathlib.Omega.{arith}
use Rattle.reckon.proofs.TestLaws.{refusal_here, refusal_later, passed_refusal}
use Rattle.ledger.specs.Runs.{plan}
use Rattle.checks.proofs.CheckLaws.{fails_by, holds_by}
use Rattle.hatches.specs.Log.{evening}
use Rattle.hatches.proofs.RefusalLaws.{standing_is, slots_are}
use Rattle.evenings.specs.Taking.{world_of}
use Rattle.evenings.proofs.BackLaws.{backs_newest}
use Rattle.trying.specs.Lines.{back_refusals, backs, nothing_given}
use Rattle.trying.proofs.LineLaws.{back_unfit, back_count, back_taken, kept_enough, kept-short, back_difference}
use Rattle.trying.proofs.lines.back.Goals as goal

-- src/lines.rt:287:9
pub returns-then-not-standing_fine : goal.returns-then-not-standing_fine
unfolding back_refusals
returns-then-not-standing_fine c =
    let a = c.args in
    back_unfit (plan a.shape a.marks.now) (evening a.depths.now a.lasts.now a.records.now a.began.now a.log)
    a.account a.count c.refused.ensures
    (refusal_here 6 _ (fails_by c.standing_fine.ensures (ap not c.if-not-standing_fine.true))) (λ z. omega arith)

-- src/lines.rt:291:9
pub returns-then-before-count : goal.returns-then-before-count
unfolding back_refusals
returns-then-before-count c =
    let a = c.args in
    back_unfit (plan a.shape a.marks.now) (evening a.depths.now a.lasts.now a.records.now a.began.now a.log)
    a.account a.count c.refused-then-before-count.ensures
    (refusal_later 6 _ (holds_by c.standing_fine.ensures (ap not c.if-not-standing_fine.false))
    ∙ refusal_here 10 _ (kept-short a.log a.count c.if-before-count.true)) (λ z. omega arith)

-- src/lines.rt:293:9
pub back_line-came-requires : goal.back_line-came-requires
back_line-came-requires c = record {
  shape_in_range = (c.requires.fine, c.requires.rates_suffice);
  log_value = (holds_by c.standing_fine.ensures (ap not c.if-not-standing_fine.false), kept_enough c.args.log c.args.count c.if-before-count.false);
}

-- src/lines.rt:295:17
pub overflow_sub-steps : goal.overflow_sub-steps
overflow_sub-steps c =
    let a = c.args in
    omega (
      arith,
      back_count (plan a.shape a.marks.now) (evening a.depths.now a.lasts.now a.records.now a.began.now a.log)
          a.account a.count (c.back_line-came.ensures nothing_given).1,
    )

-- src/lines.rt:296:34
pub record_size-requires : goal.record_size-requires
record_size-requires c = c.requires.fine

-- src/lines.rt:300:18
pub given_back-requires : goal.given_back-requires
given_back-requires c =
    let a = c.args in
    let k = slots_are (plan a.shape a.marks.now) a.records.now c.record_size.ensures c.slots_in-slots.ensures in
    let t = back_difference (plan a.shape a.marks.now) (evening a.depths.now a.lasts.now a.records.now a.began.now a.log) a.account a.count c.if-before-count.false (standing_is a.log (holds_by c.standing_fine.ensures (ap not c.if-not-standing_fine.false))).0 (back_count (plan a.shape a.marks.now) (evening a.depths.now a.lasts.now a.records.now a.began.now a.log) a.account a.count (c.back_line-came.ensures nothing_given).1) in (
      λ l. omega (
        arith,
        k,
        backs_newest (plan a.shape a.marks.now) a.count
            (world_of (evening a.depths.now a.lasts.now a.records.now a.began.now a.log))
            {e = backs (plan a.shape a.marks.now) (evening a.depths.now a.lasts.now a.records.now a.began.now a.log) a.account a.count}
            refl (omega (arith, t)),
      ),
      omega (arith, k, c.requires.slots_few),
    )

-- src/lines.rt:272:1
pub returns : goal.returns
unfolding back_refusals
returns c =
    let a = c.args in
    let k = slots_are (plan a.shape a.marks.now) a.records.now c.record_size.ensures c.slots_in-slots.ensures in
    let t = back_difference (plan a.shape a.marks.now) (evening a.depths.now a.lasts.now a.records.now a.began.now a.log) a.account a.count c.if-before-count.false (standing_is a.log (holds_by c.standing_fine.ensures (ap not c.if-not-standing_fine.false))).0 (back_count (plan a.shape a.marks.now) (evening a.depths.now a.lasts.now a.records.now a.began.now a.log) a.account a.count (c.back_line-came.ensures nothing_given).1) in
    back_taken (plan a.shape a.marks.now) (evening a.depths.now a.lasts.now a.records.now a.began.now a.log)
    a.account a.count
    (passed_refusal _ (holds_by c.standing_fine.ensures (ap not c.if-not-standing_fine.false), (kept_enough a.log a.count c.if-before-count.false, tt)))
    (c.back_line-came.ensures nothing_given) t k c.given_back.ensures
